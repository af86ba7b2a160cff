use borrow.Author.Rules.{rules}
use Rattle.machine.specs.Calls.{set_left}
use Rattle.store.proofs.RowPromise.{row_promise}
use Rattle.store.proofs.set_left.Goals as goal

pub returns : goal.returns
returns c = row_promise _ _ (set_left _ _) _ _ _ c.set_left.ensures (search rules)
