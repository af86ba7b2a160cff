use native.Mathlib.Omega.{arith}
use Rattle.roster_list.proofs.Walking.{count_begins, tally_nil, tally_done, tally_again}
use Rattle.roster_list.proofs.tally.tally.Goals as goal

pub loop-init : goal.loop-init
loop-init c = (omega arith, count_begins _ _ _ _ _)

pub shape_of-table-then-at-eq0 : goal.shape_of-table-then-at-eq0
shape_of-table-then-at-eq0 c = c.loop.invariant.1.runs.bounded.same_length

pub shape_of-scratch-then-at-eq0 : goal.shape_of-scratch-then-at-eq0
shape_of-scratch-then-at-eq0 c = c.loop.invariant.1.runs.bounded.scratch_length

pub returns-then-at-eq0 : goal.returns-then-at-eq0
returns-then-at-eq0 c = tally_nil _ _ c.loop.invariant.1 c.if-at-eq0.true

pub overflow_add-count : goal.overflow_add-count
overflow_add-count c = omega (arith, c.loop.invariant.0, c.weigh-weighed.ensures.most)

pub loop-preserved : goal.loop-preserved
loop-preserved c = (omega (arith, c.loop.invariant.0, c.weigh-weighed.ensures.most), tally_again _ _ c.loop.invariant.1 c.if-at-eq0.false c.weigh-weighed.ensures)

pub shape_of-table : goal.shape_of-table
shape_of-table c = c.loop.invariant.1.runs.bounded.same_length

pub shape_of-scratch : goal.shape_of-scratch
shape_of-scratch c = c.loop.invariant.1.runs.bounded.scratch_length

pub returns : goal.returns
returns c = tally_done _ _ c.loop.invariant.1 (omega arith)
