-- The order in which a packet's changes were made before document 02's A3, kept for one theorem: every reply, table, queue and scratch is the same.
use Rattle.std.specs.Prelude.{◌≡◌, ◌≢◌, List, [], ◌∷◌, ℕ}
use Rattle.machine.specs.Queue.{Packet}
use Rattle.machine.specs.Packets.{Kind, reads, makes, replaces, raises, lowers, unknown, kind_of, Counter, Direction, Change, root_down, root_up, cell_up, cell_down, changes_of, changes, moved_by, minus}
use Rattle.machine.specs.Calls.{Call, Store}
use Rattle.machine.specs.Step.{apply_changes, named}
use Rattle.machine.specs.Machine.{machine}
use Rattle.soundness.specs.Links.{links_of}
use Rattle.soundness.specs.Variants.{Parts, applying, machine_of}

-- "changes when taken" as document 01's last column has it: of cons "root a, b −1; cell a, b +1"
unfoldable pub column_order_of : Kind → ℕ → ℕ → List Change
column_order_of reads a b = root_down a 1 ∷ root_up b 1 ∷ []
column_order_of makes a b = root_down a 1 ∷ root_down b 1 ∷ cell_up a 1 ∷ cell_up b 1 ∷ []
column_order_of (replaces field) a b = root_down a 1 ∷ cell_up a 1 ∷ cell_down b 1 ∷ []
column_order_of raises a b = root_up a b ∷ []
column_order_of lowers a b = root_down a b ∷ []
column_order_of unknown a b = []

unfoldable pub column_order : Packet → List Change
column_order p = column_order_of (kind_of p.kind) p.a p.b

-- the machine that makes the changes in that order
abbrev pub in_column_order : Parts
in_column_order = applying (λ t p. named minus (apply_changes t (column_order p)) p)

pub record SameInEitherOrder : Type 0 where
  -- "every reply, table and queue is the same as before", the scratch too: of one call, and of any list of calls. Document 02 asks for it on a sound
  -- store; it is true of any store
  pub one_call : (s : Store) (call : Call) → machine_of in_column_order s call ≡ machine s call
  pub any_list : (s : Store) (calls : List Call) → links_of (machine_of in_column_order) s calls ≡ links_of machine s calls
  -- the questions, the held counts and the audit go by sums of changes, which are the same
  pub sums : (k : Counter) (d : Direction) (x : ℕ) (p : Packet) → moved_by k d x (column_order p) ≡ moved_by k d x (changes p)
  -- "Other packets keep the order of document 01's table"; cons does not, whatever its operands
  pub others : (k : Kind) (a b : ℕ) → k ≢ makes → changes_of k a b ≡ column_order_of k a b
  pub cons : (a b : ℕ) → changes_of makes a b ≢ column_order_of makes a b
