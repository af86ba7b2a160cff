-- S2 as the code asks it: each free cell is laid out, and a walk of as many steps as there are free cells meets free cells only.
use Rattle.std.specs.Prelude.{Bool, cond, ◌&&◌, ◌||◌, List, ℕ, pred}
use Rattle.machine.specs.Audit.{laid_out}
use Rattle.machine.specs.Range.{every, total}
use Rattle.machine.specs.Table.{capacity, in_use, is_free}
use Rattle.machine.specs.Words.{is_cell}

unfoldable pub free_or_used : List ℕ → ℕ → Bool
free_or_used t i = in_use t i || laid_out t i

unfoldable pub free_laid_out : List ℕ → Bool
free_laid_out t = every (capacity t) (free_or_used t)

-- 1 for a free cell
unfoldable pub free_bit : List ℕ → ℕ → ℕ
free_bit t i = cond (is_free t i) 1 0

unfoldable pub free_cells : List ℕ → ℕ
free_cells t = total (capacity t) (free_bit t)

unfoldable pub is_free_cell : List ℕ → ℕ → Bool
is_free_cell t w = is_cell (capacity t) w && is_free t (pred w)
