-- The worked lines, by computation.
use mathlib.Core.Path.{refl}
use Rattle.base_ten.specs.Bytes.{split}
use Rattle.base_ten.specs.Numbers.{number_from, number_of}
use Rattle.base_ten.specs.Decimal.{digits}
use Rattle.notation.specs.Trees.{pairs}
use Rattle.notation.specs.Parse.{with_byte, marks_after, list_of, parsed_from, parse}
use Rattle.notation.specs.Print.{print, print_rest}
use Rattle.notation.specs.Brackets.{open_after, opens_too_many, too_deep}
use Rattle.machine.specs.Words.{is_atom, may_be_stored}
use Rattle.machine.specs.Texts.{atoms_storable}
use Rattle.machine.specs.Questions.{in_notation, not_too_deep, text_storable, text_pairs}
use Rattle.rule_lines.specs.Answers.{answer_of, answers, listing}
use Rattle.rule_lines.specs.Known.{Known}
use Rattle.rule_lines.proofs.AnswerLaws.{answer_long}

pub known : Known
unfolding split number_from number_of digits pairs with_byte marks_after list_of parsed_from parse print print_rest open_after opens_too_many too_deep is_atom may_be_stored atoms_storable in_notation not_too_deep text_storable text_pairs answer_of answers listing
known = record { each = refl; deep = (refl, refl); many = (refl, refl); long = answer_long; whole = refl }
