use Rattle.roster_list.proofs.Walking.{Walking, Anything, Past}
use Rattle.roster_list.proofs.walk.pass.Given as goal

abbrev pub invariant-loop : goal.invariant-loop
invariant-loop l = Walking Anything (Past l.k) l.initial.table l.initial.queue l.initial.scratch l.from l.table l.queue l.scratch l.at l.counter
