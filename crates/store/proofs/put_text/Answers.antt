use Rattle.store.proofs.TextPromise.{put_promise}
use Rattle.store.proofs.put_text.Goals as goal

pub returns : goal.returns
returns c = put_promise _ _ _ _ _ _ c.put_text.ensures
