use mathlib.Core.Path.{ap, ◌∙◌}
use Prim.Native.Nat.{ℕ}
use lib.Dec.{leb}
use lib.ListN.{length}
use Rattle.machine.specs.Table.{scratch_words}
use Rattle.machine.specs.Questions.{scratch_enough}
use Rattle.questions.proofs.scratch_enough.Goals as goal

pub returns : goal.returns
unfolding scratch_enough
returns c = ap (λ (n : ℕ). leb n (length c.args.scratch.now)) (c.scratch_for.ensures ∙ ap scratch_words c.capacity_of.ensures)
