use native.Mathlib.Omega.{arith}
use Rattle.marks.specs.Stack.{stack}
use Rattle.marks.proofs.Loops.{rooted_none, rooted_more}
use Rattle.marks.proofs.pending.push_rooted.Goals as goal

pub loop-i-init : goal.loop-i-init
loop-i-init c = rooted_none c.args.table.now c.args.c (stack c.args.scratch.now 0) (omega arith)

pub loop-i-preserved : goal.loop-i-preserved
loop-i-preserved c =
    let l = c.loop-i in
    rooted_more c.args.table.now c.args.c l.i (stack c.args.scratch.now 0) (stack l.scratch l.top) _ l.invariant c.push_if_rooted-top.ensures
