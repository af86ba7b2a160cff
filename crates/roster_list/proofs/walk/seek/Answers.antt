use mathlib.Core.Path.{◌∙◌}
use native.Mathlib.Omega.{arith}
use Rattle.roster_list.proofs.Walking.{walk_begins, seek_nil, seek_done, seek_found, seek_again}
use Rattle.roster_list.proofs.walk.seek.Goals as goal

pub loop-before-init : goal.loop-before-init
loop-before-init c = walk_begins _ _ _ _ tt

pub shape_of-table-then-at-eq0 : goal.shape_of-table-then-at-eq0
shape_of-table-then-at-eq0 c = c.loop-before.invariant.runs.bounded.same_length

pub shape_of-scratch-then-at-eq0 : goal.shape_of-scratch-then-at-eq0
shape_of-scratch-then-at-eq0 c = c.loop-before.invariant.runs.bounded.scratch_length

pub returns-then-at-eq0 : goal.returns-then-at-eq0
returns-then-at-eq0 c = seek_nil c.loop-before.invariant c.if-at-eq0.true

pub shape_of-table-in-None : goal.shape_of-table-in-None
shape_of-table-in-None c = c.turn.auto.table ∙ c.loop-before.invariant.runs.bounded.same_length

pub shape_of-scratch-in-None : goal.shape_of-scratch-in-None
shape_of-scratch-in-None c = c.turn.auto.scratch ∙ c.loop-before.invariant.runs.bounded.scratch_length

pub returns-in-None : goal.returns-in-None
returns-in-None c = seek_found c.loop-before.invariant c.if-at-eq0.false (rw c.in-None.is at c.turn.ensures)

pub loop-before-preserved : goal.loop-before-preserved
loop-before-preserved c = seek_again c.loop-before.invariant c.if-at-eq0.false (rw c.in-Some.is at c.turn.ensures)

pub shape_of-table : goal.shape_of-table
shape_of-table c = c.loop-before.invariant.runs.bounded.same_length

pub shape_of-scratch : goal.shape_of-scratch
shape_of-scratch c = c.loop-before.invariant.runs.bounded.scratch_length

pub returns : goal.returns
returns c = seek_done c.loop-before.invariant (omega arith)
