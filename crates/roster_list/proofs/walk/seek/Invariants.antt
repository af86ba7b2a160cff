use Rattle.roster_list.specs.Walks.{NoneOf}
use Rattle.roster_list.proofs.Walking.{Walking, ToNil}
use Rattle.roster_list.proofs.walk.seek.Given as goal

abbrev pub invariant-loop-before : goal.invariant-loop-before
invariant-loop-before l = Walking (NoneOf l.key) ToNil l.initial.table l.initial.queue l.initial.scratch l.from l.table l.queue l.scratch l.at l.before
