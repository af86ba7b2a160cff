-- The worked texts, by computation.
use mathlib.Core.Path.{refl}
use Rattle.base_ten.specs.Numbers.{number_from, number_of}
use Rattle.base_ten.specs.Decimal.{digits}
use Rattle.notation.specs.Parse.{with_byte, marks_after, list_of, parsed_from, parse}
use Rattle.notation.specs.Print.{print, print_rest}
use Rattle.notation.specs.Brackets.{open_after, opens_too_many, too_deep, first_met}
use Rattle.notation.specs.Cases.{NotationCases}

pub cases : NotationCases
unfolding number_from number_of digits with_byte marks_after list_of parsed_from parse print print_rest open_after opens_too_many too_deep first_met
cases = record { parsed = refl; refused = refl; printed = refl; deep = refl; first = refl }
