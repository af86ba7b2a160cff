use Rattle.collector.proofs.SweepPass.{Pass}
use Rattle.collector.proofs.sweep.sweep.Given as goal

abbrev pub invariant-loop-i : goal.invariant-loop-i
invariant-loop-i l = Pass l.initial.table l.scratch l.i l.table l.freed
