-- The text of a call, written in the form in which document 01 has a session's lines, and its line.
use Rattle.std.specs.Prelude.{List, [], ◌∷◌, ◌++◌, ℕ, ◌+◌, Some, None}
use Rattle.std.specs.declared.option.Option.{Option}
use Rattle.base_ten.specs.Bytes.{ascii, line_feed, space}
use Rattle.base_ten.specs.Decimal.{most_digits, decimal}
use Rattle.machine.specs.declared.RowCall.{RowCall}
use Rattle.line_text.specs.declared.Request.{Request}

-- a keyword with its space, then an operand
abbrev pub one_text : List ℕ → ℕ → List ℕ
one_text word x = word ++ decimal x

-- one space before each operand
abbrev pub two_text : List ℕ → ℕ → ℕ → List ℕ
two_text word x y = one_text word x ++ one_text (space ∷ []) y

unfoldable pub row_text : RowCall → List ℕ
row_text (RowCall.Car x) = one_text (ascii "car ") x
row_text (RowCall.Cdr x) = one_text (ascii "cdr ") x
row_text (RowCall.Cons x y) = two_text (ascii "cons ") x y
row_text (RowCall.SetLeft x y) = two_text (ascii "setl ") x y
row_text (RowCall.SetRight x y) = two_text (ascii "setr ") x y
row_text (RowCall.Up x n) = two_text (ascii "up ") x n
row_text (RowCall.Down x n) = two_text (ascii "down ") x n

unfoldable pub call_text : Request → List ℕ
call_text (Request.Fresh c) = one_text (ascii "fresh ") c
call_text (Request.Row call) = row_text call
call_text Request.Step = ascii "step"

-- the line with its line feed
unfoldable pub call_line : Request → List ℕ
call_line request = call_text request ++ (line_feed ∷ [])

-- what is no call is an empty line, which the session program does not know either
abbrev pub asked_text : Option Request → List ℕ
asked_text (Some request) = call_text request
asked_text None = []

abbrev pub asked_line : Option Request → List ℕ
asked_line (Some request) = call_line request
asked_line None = line_feed ∷ []

-- the longest keyword with its space
abbrev pub word_room : ℕ
word_room = 6

-- the most bytes of a call's text, and of its line
abbrev pub call_room : ℕ
call_room = word_room + most_digits + 1 + most_digits

abbrev pub line_room : ℕ
line_room = call_room + 1
