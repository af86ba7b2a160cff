use native.Mathlib.Omega.{arith}
use Rattle.audit_pointers.proofs.PointerCounts.{counting_none, counting_more, counting_below, counting_done}
use Rattle.audit_pointers.proofs.pointers.count_pointers.Goals as goal

pub loop-index-init : goal.loop-index-init
loop-index-init c = counting_none _ _ _ _ c.requires.1 c.clear.ensures

pub count_cell-requires : goal.count_cell-requires
count_cell-requires c =
    let l = c.loop-index in
    let most = c.requires.0.most in
    let kept = c.clear.auto.scratch in
    (c.requires.0, c.requires.1, omega arith, omega (arith, l.invariant.same), counting_below _ _ l.index _ _ l.invariant (omega arith))

pub loop-index-preserved : goal.loop-index-preserved
loop-index-preserved c =
    let l = c.loop-index in
    counting_more _ _ l.index _ l.scratch _ l.invariant c.count_cell.ensures c.count_cell.auto.scratch

pub returns : goal.returns
returns c = counting_done _ _ c.loop-index.index _ _ _ c.loop-index.invariant (omega arith) c.clear.ensures
