-- Cells freed by their indices.
use Rattle.std.specs.Prelude.{List, ℕ, ◌<◌, length, get_or}
use Rattle.machine.specs.Facts.{Ascending}

-- the words of the list are indices of cells, of which there are c, ascending
pub record Listed (c : ℕ) (dead : List ℕ) : Type 0 where
  pub below : (i : ℕ) → i < length dead → get_or dead i 0 < c
  pub ascending : Ascending dead
