use Rattle.walks.proofs.Counting.{kept_none}
use Rattle.walks.proofs.Walk.new.Goals as goal

pub invariant_of-result : goal.invariant_of-result
invariant_of-result c = kept_none _ c.new.ensures
