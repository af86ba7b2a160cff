-- "The table": a lent run of words: C, first free cell, last free cell, then the cells, six words each (document 02, A6). Only this module knows the layout.
-- A cell is told by its index, its number less one, so that indices run from 0.
use Rattle.std.specs.Prelude.{Bool, not, List, [], ◌∷◌, ℕ, suc, pred, ◌+◌, ◌*◌, ltb, get_or, set, replicate}

-- words in a cell, and in front of the cells
abbrev pub stride : ℕ
stride = 6

abbrev pub header : ℕ
header = 3

-- the words of a cell: left, right, root count, cell count, state, and how many times waiting packets name it
abbrev pub left : ℕ
left = 0

abbrev pub right : ℕ
right = 1

abbrev pub root_count : ℕ
root_count = 2

abbrev pub cell_count : ℕ
cell_count = 3

abbrev pub state : ℕ
state = 4

abbrev pub name_count : ℕ
name_count = 5

-- the state of a new cell
abbrev pub used : ℕ
used = 1

-- a free cell: its left is the next free cell or 0, its other words are 0
abbrev pub free_cell : ℕ → List ℕ
free_cell next = next ∷ replicate (pred stride) 0

-- a new cell: both operands, root count 1 and cell count 0; its packet is to name it
abbrev pub new_cell : ℕ → ℕ → List ℕ
new_cell x y = x ∷ y ∷ 1 ∷ 0 ∷ used ∷ 0 ∷ []

-- C
unfoldable pub capacity : List ℕ → ℕ
capacity t = get_or t 0 0

unfoldable pub first_free : List ℕ → ℕ
first_free t = get_or t 1 0

unfoldable pub last_free : List ℕ → ℕ
last_free t = get_or t 2 0

-- how many words a table of c cells needs
abbrev pub table_length : ℕ → ℕ
table_length c = header + stride * c

-- how many words of scratch a step and an audit of a table of c cells need
unfoldable pub scratch_words : ℕ → ℕ
scratch_words c = c

-- where word k of the cell at index i stands
unfoldable pub position : ℕ → ℕ → ℕ
position i k = header + stride * i + k

unfoldable pub word_at : List ℕ → ℕ → ℕ → ℕ
word_at t i k = get_or t (position i k) 0

unfoldable pub put_word : List ℕ → ℕ → ℕ → ℕ → List ℕ
put_word t i k v = set t (position i k) v

unfoldable pub put_ends : List ℕ → ℕ → ℕ → List ℕ
put_ends t first last = set (set t 1 first) 2 last

-- these words written from word k of a cell on
unfoldable pub put_words : List ℕ → ℕ → ℕ → List ℕ → List ℕ
put_words t i k [] = t
put_words t i k (v ∷ vs) = put_words (put_word t i k v) i (suc k) vs

-- all words of a cell
unfoldable pub put_cell : List ℕ → ℕ → List ℕ → List ℕ
put_cell t i words = put_words t i left words

-- "in use": state 1 wherever S1 holds
unfoldable pub in_use : List ℕ → ℕ → Bool
in_use t i = ltb 0 (word_at t i state)

unfoldable pub is_free : List ℕ → ℕ → Bool
is_free t i = not (in_use t i)
