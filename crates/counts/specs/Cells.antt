-- The cell that a word names.
use Rattle.std.specs.Prelude.{◌≡◌, true, false, Option, Some, None, List, ℕ, suc, ◌<◌}
use Rattle.machine.specs.Words.{is_cell}
use Rattle.machine.specs.Table.{capacity}

-- its index, or none where the word names no cell of the table
abbrev pub IndexOf : List ℕ → ℕ → Option ℕ → Type 0
IndexOf t w (Some i) = (is_cell (capacity t) w ≡ true) × (w ≡ suc i) × (i < capacity t)
IndexOf t w None = is_cell (capacity t) w ≡ false
