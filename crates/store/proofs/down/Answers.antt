use borrow.Author.Rules.{rules}
use Rattle.machine.specs.Calls.{down}
use Rattle.store.proofs.RowPromise.{row_promise}
use Rattle.store.proofs.down.Goals as goal

pub returns : goal.returns
returns c = row_promise _ _ (down _ _) _ _ _ c.down.ensures (search rules)
