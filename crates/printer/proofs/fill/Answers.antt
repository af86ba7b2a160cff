use mathlib.Core.Path.{refl, sym, ◌∙◌}
use native.Mathlib.Omega.{arith}
use lib.ListN.{length}
use Rattle.printer.proofs.PassLaws.{filling_none, filled_all, never_deep, filling_room, filling_more}
use Rattle.printer.proofs.PieceLaws.{piece_some}
use Rattle.printer.proofs.fill.Goals as goal

pub loop-piece-init : goal.loop-piece-init
loop-piece-init c =
    let i = c.args in
    rw c.start-walk.ensures (filling_none (length i.part.now) i.table.now i.word c.requires.1 _ _ refl refl)

pub slice_bounds-next-end : goal.slice_bounds-next-end
slice_bounds-next-end c = sym c.loop-piece.invariant.stack

pub next-step-requires : goal.next-step-requires
next-step-requires c = (c.requires.0, c.loop-piece.invariant.most, omega (arith, c.loop-piece.invariant.stack))

pub put_piece-at-requires : goal.put_piece-at-requires
put_piece-at-requires c =
    let i = c.args in
    let l = c.loop-piece in
    rw l.invariant.size (filling_room (length i.part.now) i.table.now i.word c.requires.1 l.part l.at l.walk l.rests l.invariant _ _ _ (rw c.in-Next.is at c.next-step.ensures))

pub loop-piece-smaller : goal.loop-piece-smaller
loop-piece-smaller c =
    let i = c.args in
    let l = c.loop-piece in
    omega (arith, filling_room (length i.part.now) i.table.now i.word c.requires.1 l.part l.at l.walk l.rests l.invariant _ _ _ (rw c.in-Next.is at c.next-step.ensures), c.put_piece-at.ensures.ends, piece_some c.in-Next.piece)

pub loop-piece-preserved : goal.loop-piece-preserved
loop-piece-preserved c =
    let i = c.args in
    let l = c.loop-piece in
    filling_more (length i.part.now) i.table.now i.word c.requires.1 l.part l.at l.walk l.rests l.invariant _ _ _ (rw c.in-Next.is at c.next-step.ensures) _ _ c.put_piece-at.ensures (c.put_piece-at.auto.out ∙ l.invariant.size) (c.next-step.auto.rests ∙ l.invariant.stack)

pub shape_of-part-in-Ended : goal.shape_of-part-in-Ended
shape_of-part-in-Ended c = c.loop-piece.invariant.size

pub returns-in-Ended : goal.returns-in-Ended
returns-in-Ended c =
    let i = c.args in
    let l = c.loop-piece in
    filled_all (length i.part.now) i.table.now i.word c.requires.1 l.part l.at l.walk l.rests l.invariant (rw c.in-Ended.is at c.next-step.ensures)

pub shape_of-part-in-TooDeep : goal.shape_of-part-in-TooDeep
shape_of-part-in-TooDeep c = c.loop-piece.invariant.size

pub returns-in-TooDeep : goal.returns-in-TooDeep
returns-in-TooDeep c =
    let i = c.args in
    let l = c.loop-piece in
    absurd (never_deep (length i.part.now) i.table.now i.word c.requires.1 l.part l.at l.walk l.rests l.invariant (rw c.in-TooDeep.is at c.next-step.ensures))
