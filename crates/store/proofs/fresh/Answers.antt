use Rattle.store.proofs.RowPromise.{fresh_promise}
use Rattle.store.proofs.fresh.Goals as goal

pub returns : goal.returns
returns c = fresh_promise _ _ _ _ _ _ c.fresh.ensures
