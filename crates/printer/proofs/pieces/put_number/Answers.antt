use Rattle.base_ten.specs.Decimal.{most_digits}
use Rattle.printer.proofs.PieceLaws.{digits_exact}
use Rattle.printer.proofs.pieces.put_number.Goals as goal

pub returns : goal.returns
returns c =
    let i = c.args in
    rw (← digits_exact most_digits i.v, ← c.digit_count.ensures) c.put_digits.ensures
