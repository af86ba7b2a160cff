use native.Mathlib.Omega.{arith}
use Rattle.reader.proofs.BuildLaws.{going_first, going_room, going_next, going_last}
use Rattle.reader.proofs.build.build.Goals as goal

pub loop-at-init : goal.loop-at-init
loop-at-init c =
    going_first c.args.table.now c.args.queue c.args.text.now c.requires

pub step-place-requires : goal.step-place-requires
step-place-requires c =
    let l = c.loop-at in
    (l.invariant.fits, going_room _ _ _ _ _ _ _ _ _ _ _ l.invariant c.token_at-read.result c.token_at-read.ensures c.requires)

pub loop-at-smaller : goal.loop-at-smaller
loop-at-smaller c =
    let a = c.token_at-read.ensures in
    omega (arith, a.further, a.inside)

pub loop-at-preserved : goal.loop-at-preserved
loop-at-preserved c =
    let l = c.loop-at in
    let e = c.step-place.ensures in
    going_next _ _ _ _ _ _ _ _ _ _ _ l.invariant c.token_at-read.result c.token_at-read.ensures _ _ _ _ _ _ _ e.0 c.step-place.auto.table e.1

pub shape_of-table : goal.shape_of-table
shape_of-table c = c.loop-at.invariant.same

pub returns : goal.returns
returns c =
    let l = c.loop-at in
    going_last _ _ _ _ _ _ _ _ _ _ _ l.invariant (omega arith)
