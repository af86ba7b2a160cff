use borrow.Author.Rules.{rules}
use native.Mathlib.Omega.{arith}
use Rattle.base_ten.proofs.PutLaws.{digits_length, digits_some}
use Rattle.base_ten.specs.Decimal.{most_digits}
use Rattle.printer.specs.Pieces.{bytes_of}
use Rattle.printer.proofs.PieceLaws.{dotted_length}
use Rattle.printer.proofs.pieces.width.Goals as goal

pub overflow_add-result : goal.overflow_add-result
overflow_add-result c = record { fits = omega (arith, c.digit_count-in-Dotted.ensures, digits_length most_digits c.in-Dotted.v) }

pub returns-in-Opening : goal.returns-in-Opening
unfolding bytes_of
returns-in-Opening c = rw c.in-Opening.is (search rules)

pub returns-in-Empty : goal.returns-in-Empty
unfolding bytes_of
returns-in-Empty c = rw c.in-Empty.is (search rules)

pub returns-in-Number : goal.returns-in-Number
unfolding bytes_of
returns-in-Number c = rw c.in-Number.is (c.digit_count.ensures, omega (arith, c.digit_count.ensures, digits_some most_digits c.in-Number.v (omega arith)))

pub returns-in-Space : goal.returns-in-Space
unfolding bytes_of
returns-in-Space c = rw c.in-Space.is (search rules)

pub returns-in-Dotted : goal.returns-in-Dotted
returns-in-Dotted c = rw c.in-Dotted.is (omega (arith, c.digit_count-in-Dotted.ensures, dotted_length c.in-Dotted.v), omega arith)

pub returns-in-Closing : goal.returns-in-Closing
unfolding bytes_of
returns-in-Closing c = rw c.in-Closing.is (search rules)
