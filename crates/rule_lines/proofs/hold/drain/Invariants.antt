use Rattle.rule_lines.proofs.HoldLaws.{Draining}
use Rattle.rule_lines.proofs.hold.drain.Given as goal

abbrev pub invariant-loop : goal.invariant-loop
invariant-loop l = Draining l.initial.table l.initial.scratch l.initial.queue l.table l.scratch l.queue l.counter
