use Rattle.counts.proofs.Changes.{moves_lowered, moves_none}
use Rattle.counts.proofs.down.Goals as goal

pub returns-in-Some : goal.returns-in-Some
returns-in-Some g c =
    moves_lowered c.args.table.now g.K.Counter.sort c.args.w c.args.n _ _ c.in-Some.ensures (rw c.count-count.ensures at c.lowered.ensures) _ c.set_count.ensures

pub returns-in_default : goal.returns-in_default
returns-in_default g c = moves_none _ g.K.Counter.sort _ _ _ c.in_default.ensures
