-- Tables of worked cases, told cell by cell.
use Rattle.std.specs.Prelude.{List, [], ◌∷◌, ◌++◌, ℕ, pred, length}
use Rattle.machine.specs.Table.{used, put_word}

-- the words of these cells one after the other, then others
abbrev pub words_of : List (List ℕ) → List ℕ → List ℕ
words_of [] past = past
words_of (cell ∷ cells) past = cell ++ words_of cells past

-- a table with these free ends and cells, and the words past them
abbrev pub table_of : ℕ → ℕ → List (List ℕ) → List ℕ → List ℕ
table_of first last cells past = length cells ∷ first ∷ last ∷ words_of cells past

-- a cell in use, by its left and right words, its root count, cell count and name count
abbrev pub cell_of : ℕ → ℕ → ℕ → ℕ → ℕ → List ℕ
cell_of l r roots cells names = l ∷ r ∷ roots ∷ cells ∷ used ∷ names ∷ []

-- the table with another word k in the cell of number x
abbrev pub with_word : List ℕ → ℕ → ℕ → ℕ → List ℕ
with_word t x k v = put_word t (pred x) k v
