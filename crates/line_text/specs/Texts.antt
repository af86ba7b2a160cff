-- Output lines: the line number, then OK and a value, NO and a number, IDLE, or BAD.
use Rattle.std.specs.Prelude.{List, [], ◌∷◌, ◌++◌, ℕ, ◌+◌}
use Rattle.base_ten.specs.Bytes.{ascii, line_feed, space}
use Rattle.base_ten.specs.Decimal.{most_digits, decimal}
use Rattle.line_text.specs.declared.Verdict.{Verdict}

-- OK or NO and a space, before a number
abbrev pub word_length : ℕ
word_length = 3

-- the most bytes of a verdict
abbrev pub verdict_room : ℕ
verdict_room = word_length + most_digits

abbrev pub verdict_text : Verdict → List ℕ
verdict_text (Verdict.Ok v) = ascii "OK " ++ decimal v
verdict_text (Verdict.No n) = ascii "NO " ++ decimal n
verdict_text Verdict.Idle = ascii "IDLE"
verdict_text Verdict.Bad = ascii "BAD"

-- the most bytes of an output line: a number, a space, a verdict, a line feed
abbrev pub room : ℕ
room = most_digits + 1 + verdict_room + 1

unfoldable pub output_line : ℕ → Verdict → List ℕ
output_line number v = decimal number ++ (space ∷ []) ++ verdict_text v ++ (line_feed ∷ [])
