use Prim.Native.Nat.{◌-◌}
use Rattle.walks.proofs.Halfway.{Halfway}
use Rattle.walks.proofs.Walk.walk.Given as goal

abbrev pub invariant-loop-i : goal.invariant-loop-i
invariant-loop-i l = Halfway l.table l.initial.self.cells l.most l.i l.self

abbrev pub decreases-loop-i : goal.decreases-loop-i
decreases-loop-i l = l.most - l.i
