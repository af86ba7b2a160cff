-- What every call keeps: a sound store whose queue is a record of arrays of 64, which the code's type says.
use Rattle.std.specs.Prelude.{List, ℕ}
use Rattle.machine.specs.declared.Queue.{Queue}
use Rattle.machine.specs.Queue.{Arrays}
use Rattle.machine.specs.Audit.{Sound}

pub record Whole (t : List ℕ) (q : Queue) : Type 0 where
  pub sound : Sound t q
  pub arrays : Arrays q
