use Rattle.marks.specs.Stack.{stack, pushed_rooted, Pushes}
use Rattle.marks.proofs.pending.push_rooted.Given as goal

abbrev pub invariant-loop-i : goal.invariant-loop-i
invariant-loop-i l = Pushes l.c (stack l.scratch l.top) (pushed_rooted l.table l.c l.i (stack l.initial.scratch 0))
