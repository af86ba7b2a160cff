-- What a line asks for: a call with its operands, or nothing that the session knows.
use Rattle.std.specs.Prelude.{cond, List, [], ◌∷◌, ℕ, leb, length, Option, Some, None}
use Rattle.std.specs.Str.{bytes_eq}
use Rattle.base_ten.specs.Bytes.{ascii, words_of}
use Rattle.base_ten.specs.Numbers.{number_of}
use Rattle.machine.specs.declared.RowCall.{RowCall}
use Rattle.line_text.specs.declared.Request.{Request}

-- the largest operand
abbrev pub most_operand : ℕ
most_operand = 65535

-- an operand: 0 to 65,535 in base ten without leading zeros
abbrev pub operand_of : List ℕ → Option ℕ
operand_of word = number_of most_operand word

unfoldable pub with_none : List ℕ → Option Request
with_none k = cond (bytes_eq k (ascii "step")) (Some Request.Step) None

unfoldable pub with_one : List ℕ → ℕ → Option Request
with_one k x =
    cond (bytes_eq k (ascii "fresh")) (Some (Request.Fresh x))
    (cond (bytes_eq k (ascii "car")) (Some (Request.Row (RowCall.Car x)))
    (cond (bytes_eq k (ascii "cdr")) (Some (Request.Row (RowCall.Cdr x)))
    None))

unfoldable pub with_two : List ℕ → ℕ → ℕ → Option Request
with_two k x y =
    cond (bytes_eq k (ascii "cons")) (Some (Request.Row (RowCall.Cons x y)))
    (cond (bytes_eq k (ascii "setl")) (Some (Request.Row (RowCall.SetLeft x y)))
    (cond (bytes_eq k (ascii "setr")) (Some (Request.Row (RowCall.SetRight x y)))
    (cond (bytes_eq k (ascii "up")) (Some (Request.Row (RowCall.Up x y)))
    (cond (bytes_eq k (ascii "down")) (Some (Request.Row (RowCall.Down x y)))
    None))))

abbrev pub if_one : List ℕ → Option ℕ → Option Request
if_one k (Some x) = with_one k x
if_one k None = None

abbrev pub if_both : List ℕ → Option ℕ → Option ℕ → Option Request
if_both k (Some x) (Some y) = with_two k x y
if_both k (Some x) None = None
if_both k None b = None

-- a keyword and its operands, one space before each
unfoldable pub by_words : List (List ℕ) → Option Request
by_words [] = None
by_words (k ∷ []) = with_none k
by_words (k ∷ a ∷ []) = if_one k (operand_of a)
by_words (k ∷ a ∷ b ∷ []) = if_both k (operand_of a) (operand_of b)
by_words (k ∷ a ∷ b ∷ c ∷ rest) = None

-- the bytes of a line, its line feed not counted
abbrev pub most_bytes : ℕ
most_bytes = 80

unfoldable pub request_of : List ℕ → Option Request
request_of line = cond (leb (length line) most_bytes) (by_words (words_of line)) None
