use Rattle.store.proofs.TextPromise.{hand_promise}
use Rattle.store.proofs.write_text.Goals as goal

pub returns : goal.returns
returns c = hand_promise _ _ _ _ _ _ _ c.write_text.ensures
