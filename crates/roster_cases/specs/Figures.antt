-- Figures of a table, for any words.
use Rattle.std.specs.Prelude.{cond, List, ℕ, pred, leb, length}
use Rattle.machine.specs.Range.{total}
use Rattle.machine.specs.Words.{is_cell}
use Rattle.machine.specs.Table.{root_count, capacity, table_length, word_at, in_use}

-- how many cells a table says that it has; none where it is too short for them
unfoldable pub cells_of : List ℕ → ℕ
cells_of t = cond (leb (table_length (capacity t)) (length t)) (capacity t) 0

-- the sum of the root counts of all cells
unfoldable pub root_counts : List ℕ → ℕ
root_counts t = total (cells_of t) (λ i. word_at t i root_count)

-- the root count of the cell that a word is; 0 where it is none
unfoldable pub root_count_of : List ℕ → ℕ → ℕ
root_count_of t w = cond (is_cell (cells_of t) w) (word_at t (pred w) root_count) 0

-- how many cells are in use
unfoldable pub used_cells : List ℕ → ℕ
used_cells t = total (cells_of t) (λ i. cond (in_use t i) 1 0)
