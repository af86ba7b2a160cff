use mathlib.Core.Path.{refl, ◌∙◌}
use native.Mathlib.Omega.{arith}
use Rattle.marks.proofs.Loops.{to_visit, still_following, less_work, same_past}
use Rattle.marks.proofs.Closure.{following_start, followed_all}
use Rattle.marks.proofs.pending.follow.Goals as goal

pub loop-top-init : goal.loop-top-init
loop-top-init c = (following_start c.args.c c.args.table.now _ c.requires, refl, refl)

pub visit-top-requires : goal.visit-top-requires
visit-top-requires c =
    to_visit _ _ _ _ c.loop-top.invariant.0 (omega arith) c.requires.room c.requires.most

pub loop-top-smaller : goal.loop-top-smaller
loop-top-smaller c =
    less_work _ _ _ _ c.loop-top.invariant.0 (omega arith) _ c.visit-top.ensures

pub loop-top-preserved : goal.loop-top-preserved
loop-top-preserved c =
    let v = c.loop-top.invariant in
    let p = c.visit-top.ensures in
    (still_following _ _ _ _ v.0 (omega arith) _ p, same_past _ _ _ _ v.0 (omega arith) _ p ∙ v.1, omega arith)

pub returns : goal.returns
returns c =
    let v = c.loop-top.invariant in
    record { marks = followed_all _ _ _ _ v.0 (omega arith); past = v.1 }
