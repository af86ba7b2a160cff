use native.Mathlib.Omega.{arith}
use Rattle.roster_list.proofs.Walking.{walk_begins, pass_done, pass_again}
use Rattle.roster_list.proofs.walk.pass.Goals as goal

pub loop-init : goal.loop-init
loop-init c = walk_begins _ _ _ _ tt

pub loop-preserved : goal.loop-preserved
loop-preserved c = pass_again c.loop.invariant (omega arith) c.settle-at.ensures

pub shape_of-table : goal.shape_of-table
shape_of-table c = c.loop.invariant.runs.bounded.same_length

pub shape_of-scratch : goal.shape_of-scratch
shape_of-scratch c = c.loop.invariant.runs.bounded.scratch_length

pub returns : goal.returns
returns c = pass_done c.loop.invariant (omega arith)
