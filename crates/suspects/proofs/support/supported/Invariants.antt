use Rattle.suspects.specs.Support.{Supports}
use Rattle.suspects.proofs.support.supported.Given as goal

abbrev pub invariant-loop-met : goal.invariant-loop-met
invariant-loop-met l = Supports l.table l.suspects l.met-index l.kept
