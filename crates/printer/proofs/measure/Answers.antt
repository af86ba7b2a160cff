use mathlib.Core.Path.{refl, sym}
use native.Mathlib.Omega.{arith}
use Rattle.printer.proofs.PassLaws.{measuring_none, measured_all, measured_deep, measured_without, measuring_more}
use Rattle.printer.proofs.measure.Goals as goal

pub loop-piece-init : goal.loop-piece-init
loop-piece-init c =
    let i = c.args in
    rw c.start-walk.ensures (measuring_none i.room i.table.now i.word _ refl)

pub slice_bounds-next-end : goal.slice_bounds-next-end
slice_bounds-next-end c = sym c.loop-piece.invariant.stack

pub next-step-requires : goal.next-step-requires
next-step-requires c = (c.requires, c.loop-piece.invariant.most, omega (arith, c.loop-piece.invariant.stack))

pub overflow_sub-result : goal.overflow_sub-result
overflow_sub-result c = omega (arith, c.loop-piece.invariant.count)

pub returns-in-Ended : goal.returns-in-Ended
returns-in-Ended c =
    let i = c.args in
    let l = c.loop-piece in
    measured_all i.room i.table.now i.word l.left l.walk l.rests l.invariant (rw c.in-Ended.is at c.next-step.ensures)

pub returns-in-TooDeep : goal.returns-in-TooDeep
returns-in-TooDeep c =
    let i = c.args in
    let l = c.loop-piece in
    measured_deep i.room i.table.now i.word l.left l.walk l.rests l.invariant (rw c.in-TooDeep.is at c.next-step.ensures)

pub returns-then-left-n : goal.returns-then-left-n
returns-then-left-n c =
    let i = c.args in
    let l = c.loop-piece in
    measured_without i.room i.table.now i.word l.left l.walk l.rests l.invariant _ _ _ (rw c.in-Next.is at c.next-step.ensures) (omega (arith, c.if-left-n.true, c.width-n.ensures.0))

pub loop-piece-smaller : goal.loop-piece-smaller
loop-piece-smaller c = omega (arith, c.if-left-n.false, c.width-n.ensures.1)

pub loop-piece-preserved : goal.loop-piece-preserved
loop-piece-preserved c =
    let i = c.args in
    let l = c.loop-piece in
    rw c.width-n.ensures.0 (measuring_more i.room i.table.now i.word l.left l.walk l.rests l.invariant _ _ _ (rw c.in-Next.is at c.next-step.ensures) (omega (arith, c.if-left-n.false, c.width-n.ensures.0)) (omega (arith, l.invariant.stack, c.next-step.auto.rests)))
