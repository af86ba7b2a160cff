use Prim.Native.Nat.{◌≤◌}
use Rattle.roster_list.proofs.Walking.{Walking, ToNil, CountIs}
use Rattle.roster_list.proofs.tally.tally.Given as goal

abbrev pub invariant-loop : goal.invariant-loop
invariant-loop l = (l.count ≤ l.counter) × Walking (CountIs l.threshold l.count) ToNil l.initial.table l.initial.queue l.initial.scratch l.from l.table l.queue l.scratch l.at l.counter
