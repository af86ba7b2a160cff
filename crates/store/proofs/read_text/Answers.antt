use borrow.Author.Rules.{rules}
use Rattle.store.proofs.ReadPromise.{read_promise}
use Rattle.store.proofs.read_text.Goals as goal

pub returns : goal.returns
returns c = read_promise _ _ _ _ _ _ c.read_text.ensures (search rules)
