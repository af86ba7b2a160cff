use borrow.Author.Rules.{rules}
use Rattle.store.proofs.RowPromise.{row_promise}
use Rattle.store.proofs.row.Goals as goal

pub returns : goal.returns
returns c = row_promise _ _ _ _ _ _ c.row.ensures (search rules)
