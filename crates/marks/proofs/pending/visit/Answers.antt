use native.Mathlib.Omega.{arith}
use lib.ListN.{length-set}
use Rattle.marks.proofs.Scratch.{word_within_lem}
use Rattle.marks.proofs.Loops.{visit_is}
use Rattle.marks.proofs.pending.visit.Goals as goal

pub bounds-scratch-index : goal.bounds-scratch-index
bounds-scratch-index c = word_within_lem _ _ _ (omega arith) c.requires.enough

pub overflow_sub-next : goal.overflow_sub-next
overflow_sub-next c = rw c.from-index.ensures (omega arith)

pub bounds-scratch-index-2 : goal.bounds-scratch-index-2
bounds-scratch-index-2 c = word_within_lem _ _ _ (omega arith) c.requires.enough

pub push-one-requires : goal.push-one-requires
push-one-requires c = rw c.from-index.ensures (simp length-set (omega arith))

pub push-requires : goal.push-requires
push-requires c =
    omega (arith, simp length-set at c.push-one.auto.scratch)

pub shape_of-scratch : goal.shape_of-scratch
shape_of-scratch c =
    omega (arith, simp length-set at c.push-one.auto.scratch)

pub returns : goal.returns
returns c =
    let left = rw c.from-index.ensures at c.field.ensures in
    let right = rw c.from-index.ensures at c.field-2.ensures in
    let one = rw c.from-index.ensures at c.push-one.ensures in
    visit_is c.args.table.now c.args.c c.args.scratch.now c.args.top _ _ _ _ left right one c.push.ensures
