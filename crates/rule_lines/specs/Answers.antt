-- What is answered to a line: the rule text as the store writes it back, or `NO k`. It depends on the line alone, since the store is clean before each.
use Rattle.std.specs.Prelude.{cond, List, [], ◌∷◌, ◌++◌, ℕ, suc, ◌+◌, ◌*◌, leb}
use Rattle.base_ten.specs.Bytes.{line_feed, ascii, lines_of}
use Rattle.base_ten.specs.Decimal.{decimal}
use Rattle.notation.specs.Parse.{parse, meaning}
use Rattle.notation.specs.Print.{print}
use Rattle.machine.specs.Questions.{in_notation, not_too_deep, text_storable, text_pairs}

-- the cells of the store, as many as its queue has slots
abbrev pub store_cells : ℕ
store_cells = 64

-- the answer to a text that a question refuses
abbrev pub no : ℕ → List ℕ
no k = ascii "NO " ++ decimal k

-- The questions that a clean store can answer with "no", in their order: with all cells free and all slots empty, 7 fails exactly where 8 would.
unfoldable pub answer_of : List ℕ → List ℕ
answer_of line =
    cond (in_notation line)
    (cond (not_too_deep line)
    (cond (text_storable line)
    (cond (leb (text_pairs line) store_cells)
    (print (meaning (parse line)))
    (no 7))
    (no 14))
    (no 12))
    (no 11)

abbrev pub answer_line : List ℕ → List ℕ
answer_line line = answer_of line ++ (line_feed ∷ [])

-- the answers to these lines
unfoldable pub answers : List (List ℕ) → List ℕ
answers [] = []
answers (line ∷ lines) = answer_line line ++ answers lines

-- of an input's bytes
unfoldable pub listing : List ℕ → List ℕ
listing input = answers (lines_of input)

-- the most bytes of an answer: a text of 64 pairs has 5 bytes and 10 for each pair at most
abbrev pub most_answer : ℕ
most_answer = 5 + 10 * store_cells

-- and of an answer's line
abbrev pub room : ℕ
room = suc most_answer
