-- S1 as the code asks it: of each cell its state and counts, then its two fields.
use Rattle.std.specs.Prelude.{Bool, ◌&&◌, ◌||◌, List, ℕ, leb}
use Rattle.machine.specs.Audit.{field_sound}
use Rattle.machine.specs.Table.{root_count, cell_count, state, word_at, is_free}
use Rattle.machine.specs.Words.{ceiling}

unfoldable pub counts_sound : List ℕ → ℕ → Bool
counts_sound t i = leb (word_at t i state) 1 && leb (word_at t i root_count) ceiling && leb (word_at t i cell_count) ceiling

-- field k of the cell at index i
unfoldable pub field_holds : List ℕ → ℕ → ℕ → Bool
field_holds t i k = is_free t i || field_sound t (word_at t i k)
