use native.Mathlib.Omega.{arith}
use Rattle.walks.proofs.Halfway.{halfway_start, to_follow, halfway_more, halfway_up, halfway_done}
use Rattle.walks.proofs.Walk.walk.Goals as goal

pub loop-i-init : goal.loop-i-init
loop-i-init c = halfway_start _ _ _ c.requires

pub follow-requires : goal.follow-requires
follow-requires c = (c.requires.shape, to_follow _ _ _ _ _ c.loop-i.invariant (omega arith))

pub returns-in_err-follow : goal.returns-in_err-follow
returns-in_err-follow c =
    rw c.from_residual.ensures (halfway_up _ _ _ _ _ c.loop-i.invariant (omega arith) _ c.in_err-follow.ensures)

pub loop-i-preserved : goal.loop-i-preserved
loop-i-preserved c = halfway_more _ _ _ _ _ c.loop-i.invariant (omega arith) _ c.in_ok-follow.ensures

pub returns : goal.returns
returns c = halfway_done _ _ _ _ _ c.loop-i.invariant (omega arith)
