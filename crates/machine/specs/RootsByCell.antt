-- "Root and protection are told from the cell alone" (document 02, A6): on every sound store this is the same as going through the queue. Proved in
-- proofs/RootsByCell.
use Rattle.std.specs.Prelude.{◌≡◌, ◌↔◌, List, ℕ, suc, ◌<◌}
use Rattle.machine.specs.declared.Queue.{Queue}
use Rattle.machine.specs.Table.{capacity}
use Rattle.machine.specs.Queue.{waiting}
use Rattle.machine.specs.Packets.{is_named}
use Rattle.machine.specs.Reached.{is_protected, is_root, is_root_by_queue, Reached, ReachedByQueue}
use Rattle.machine.specs.Audit.{Sound}

-- of each cell of a table t with the queue q
pub record RootsByCell (t : List ℕ) (q : Queue) : Type 0 where
  pub protected : (i : ℕ) → i < capacity t → is_protected t i ≡ is_named (waiting q) (suc i)
  pub roots : (i : ℕ) → i < capacity t → is_root t i ≡ is_root_by_queue t (waiting q) i
  pub reached : (i : ℕ) → Reached t i ↔ ReachedByQueue t (waiting q) i

abbrev pub AllRootsByCell : Type 0
AllRootsByCell = (t : List ℕ) (q : Queue) → Sound t q → RootsByCell t q
