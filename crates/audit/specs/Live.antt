-- S5 as the code asks it: every cell in use is marked.
use Rattle.std.specs.Prelude.{Bool, ◌||◌, List, ℕ}
use Rattle.machine.specs.Table.{is_free}
use Rattle.marks.specs.Marks.{is_marked}

unfoldable pub free_or_marked : List ℕ → List ℕ → ℕ → Bool
free_or_marked t s i = is_free t i || is_marked s i
