-- Roots when a packet is taken (document 02, A6): a step asks for them once its packet is applied and has left the queue, when the store may have dead cells. There
-- too root, protection and reached told from the cell are those told from the queue, so that a step frees what document 01 says. The proof is
-- `roots_when_taken` in proofs/RootsWhenTaken.
use Rattle.std.specs.Prelude.{◌≡◌, ◌↔◌, true, List, ◌∷◌, ℕ, ◌<◌}
use Rattle.machine.specs.declared.Queue.{Queue}
use Rattle.machine.specs.Table.{capacity, in_use}
use Rattle.machine.specs.Queue.{Packet, waiting, taken}
use Rattle.machine.specs.Packets.{contains}
use Rattle.machine.specs.Reached.{ReachedByQueue}
use Rattle.machine.specs.Step.{apply_packet, unreached}
use Rattle.machine.specs.RootsByCell.{RootsByCell}
use Rattle.soundness.specs.Whole.{Whole}

-- of a table t from which the packet p is taken, and the queue that is left
pub record TakenRoots (t : List ℕ) (p : Packet) (left : Queue) : Type 0 where
  pub by_cell : RootsByCell (apply_packet t p) left
  -- the cells freed: those in use that no root reaches, a cell being a root if its root count is above 0 or a packet that still waits names it
  pub freed : (i : ℕ) → (contains (unreached (apply_packet t p)) i ≡ true)
      ↔ ((i < capacity (apply_packet t p)) × (in_use (apply_packet t p) i ≡ true) × (ReachedByQueue (apply_packet t p) (waiting left) i → ⊥))

abbrev pub RootsWhenTaken : Type 0
RootsWhenTaken = (t : List ℕ) (q : Queue) (p : Packet) (ps : List Packet) → Whole t q → waiting q ≡ p ∷ ps → TakenRoots t p (taken q)
