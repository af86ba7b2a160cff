-- Marks in the scratch: a word for each cell, above 0 where the cell is marked.
use Rattle.std.specs.Prelude.{◌≡◌, Bool, List, ℕ, ◌<◌, ltb, get_or, drop}
use Rattle.machine.specs.Table.{capacity, scratch_words}
use Rattle.machine.specs.Reached.{reached}

unfoldable pub is_marked : List ℕ → ℕ → Bool
is_marked s i = ltb 0 (get_or s i 0)

-- the scratch s' marks just the reached cells of t, and its words past those that the table needs are those of s
pub record Marks (t s s' : List ℕ) : Type 0 where
  pub marks : ((i : ℕ) → i < capacity t → is_marked s' i ≡ reached t i)
  pub past : drop (scratch_words (capacity t)) s' ≡ drop (scratch_words (capacity t)) s
