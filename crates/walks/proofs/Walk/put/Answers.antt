use Rattle.walks.proofs.Counting.{kept_put}
use Rattle.walks.proofs.Walk.put.Goals as goal

pub invariant_of-self : goal.invariant_of-self
invariant_of-self c = kept_put _ _ c.self.invariant _ c.args.met _ c.push.ensures.items c.from.ensures
