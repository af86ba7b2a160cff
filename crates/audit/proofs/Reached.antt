-- S5 by the marks.
use mathlib.Core.Path.{◌≡◌, ap}
use mathlib.Core.Bool.{Bool, ◌||◌}
use mathlib.Core.List.{List}
use Prim.Native.Nat.{ℕ, ◌<◌}
use Rattle.machine.specs.Audit.{all_reached}
use Rattle.machine.specs.Range.{every}
use Rattle.machine.specs.Reached.{reached}
use Rattle.machine.specs.Table.{capacity, is_free}
use Rattle.marks.specs.Marks.{is_marked}
use Rattle.audit_cells.proofs.Tests.{every_same}
use Rattle.audit.specs.Live.{free_or_marked}

-- where just the reached cells are marked
pub marked_reached : (t s : List ℕ) → ((i : ℕ) → i < capacity t → is_marked s i ≡ reached t i) → every (capacity t) (free_or_marked t s) ≡ all_reached t
unfolding all_reached free_or_marked
marked_reached t s h =
    every_same (capacity t) (free_or_marked t s) (λ i. is_free t i || reached t i) (λ i l. ap (λ (b : Bool). is_free t i || b) (h i l))
