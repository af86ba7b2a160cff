-- Pointer counts in the scratch: word i counts the pointers to the cell at index i.
use Rattle.std.specs.Prelude.{◌≡◌, Bool, not, ◌||◌, List, ℕ, suc, pred, ◌+◌, ◌*◌, ◌<◌, leb, get_or, drop}
use Rattle.machine.specs.Counts.{pointers, pointers_from}
use Rattle.machine.specs.Table.{capacity, scratch_words}
use Rattle.machine.specs.Words.{is_cell, ceiling, most_cells}

-- two fields in each of the most cells
abbrev pub most_pointers : ℕ
most_pointers = 2 * most_cells

-- the pointers out of the cell at index j counted too
pub record CountCell (t : List ℕ) (j : ℕ) (s s' : List ℕ) : Type 0 where
  pub each : ((i : ℕ) → i < capacity t → get_or s' i 0 ≡ get_or s i 0 + pointers_from t (suc i) j)
  pub past : drop (scratch_words (capacity t)) s' ≡ drop (scratch_words (capacity t)) s

-- the scratch counts the pointers of the stage v
pub record Counted (v : List ℕ) (c : ℕ) (s s' : List ℕ) : Type 0 where
  pub each : ((i : ℕ) → i < c → get_or s' i 0 ≡ pointers v (suc i))
  pub past : drop (scratch_words c) s' ≡ drop (scratch_words c) s

unfoldable pub count_within : List ℕ → ℕ → Bool
count_within s i = leb (get_or s i 0) ceiling

unfoldable pub word_within : ℕ → List ℕ → ℕ → Bool
word_within c s w = not (is_cell c w) || count_within s (pred w)
