-- What scanning a text gives: whether it is in the notation and not too deep, how many pairs it has, and the largest value of its atoms.
use Rattle.std.specs.Prelude.{cond, List, ℕ, leb, length, Result, Ok, Err}
use Rattle.notation.specs.Trees.{pairs, largest}
use Rattle.notation.specs.Grammar.{most_text}
use Rattle.notation.specs.Parse.{Parsed, tree, none, parse}
use Rattle.notation.specs.Brackets.{too_deep}
use Rattle.scanner.specs.declared.Measure.{Measure}
use Rattle.scanner.specs.declared.Fault.{Fault}

abbrev pub judged : List ℕ → Parsed → Result Measure Fault
judged text none = Err Fault.Outside
judged text (tree t) = cond (too_deep 0 text) (Err Fault.TooDeep) (Ok (record { pairs = pairs t; largest = largest t }))

unfoldable pub scan_of : List ℕ → Result Measure Fault
scan_of text = cond (leb (length text) most_text) (judged text (parse text)) (Err Fault.Outside)
