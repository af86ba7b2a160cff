use borrow.Author.Rules.{rules}
use Rattle.machine.specs.Calls.{up}
use Rattle.store.proofs.RowPromise.{row_promise}
use Rattle.store.proofs.up.Goals as goal

pub returns : goal.returns
returns c = row_promise _ _ (up _ _) _ _ _ c.up.ensures (search rules)
