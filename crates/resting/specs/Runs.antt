-- What was made of a store by calls of the store alone.
use Rattle.std.specs.Prelude.{◌≡◌, List, ℕ}
use Rattle.machine.specs.declared.Queue.{Queue}
use Rattle.machine.specs.Calls.{Store}
use Rattle.machine.specs.Promise.{Untouched}
use Rattle.soundness.specs.Demand3.{Link, Joined, table_after, queue_after}

-- a list of calls, as demand 3 has it, leads from the table t and the queue q to t' and q'
pub record Led (t : List ℕ) (q : Queue) (t' : List ℕ) (q' : Queue) : Type 0 where
  pub links : List Link
  pub joined : Joined t q links
  pub table : table_after t links ≡ t'
  pub queue : queue_after q links ≡ q'

-- and nothing past the cells and past the scratch that they need is written
pub record Runs (s s' : Store) : Type 0 where
  pub bounded : Untouched s s'
  pub led : Led s.table s.queue s'.table s'.queue
