use mathlib.Core.Path.{ap}
use Prim.Native.Nat.{ℕ}
use lib.Dec.{leb}
use lib.ListN.{length}
use Rattle.machine.specs.Questions.{long_enough}
use Rattle.questions.proofs.long_enough.Goals as goal

pub returns : goal.returns
unfolding long_enough
returns c = ap (λ (n : ℕ). leb n (length c.args.table.now)) c.words_for.ensures
