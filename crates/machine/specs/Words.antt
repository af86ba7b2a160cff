-- "Words": 0 is nil, 1 to C is a cell, 32,768 to 65,535 is an atom. No other word is legal.
use Rattle.std.specs.Prelude.{Bool, not, ◌&&◌, ◌||◌, ℕ, ◌-◌, leb, ltb, eqb}

unfoldable pub is_nil : ℕ → Bool
is_nil w = eqb w 0

-- a cell of a table of c cells
unfoldable pub is_cell : ℕ → ℕ → Bool
is_cell c w = leb 1 w && leb w c

-- the first atom, and the largest word of 16 bits
abbrev pub first_atom : ℕ
first_atom = 32768

abbrev pub largest_word : ℕ
largest_word = 65535

unfoldable pub is_atom : ℕ → Bool
is_atom w = leb first_atom w && leb w largest_word

unfoldable pub is_legal : ℕ → ℕ → Bool
is_legal c w = is_nil w || is_cell c w || is_atom w

-- the value at which the converter clips its readings (document 02, A5)
abbrev pub clip : ℕ
clip = 4095

-- a word that may be stored: no atom, or an atom of a value below it
unfoldable pub may_be_stored : ℕ → Bool
may_be_stored w = not (is_atom w) || ltb (w - first_atom) clip

-- the ceiling of root counts, cell counts, held counts, pointers and n
abbrev pub ceiling : ℕ
ceiling = 4095

-- the largest C
abbrev pub most_cells : ℕ
most_cells = 4096
