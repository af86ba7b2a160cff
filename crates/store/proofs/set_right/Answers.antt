use borrow.Author.Rules.{rules}
use Rattle.machine.specs.Calls.{set_right}
use Rattle.store.proofs.RowPromise.{row_promise}
use Rattle.store.proofs.set_right.Goals as goal

pub returns : goal.returns
returns c = row_promise _ _ (set_right _ _) _ _ _ c.set_right.ensures (search rules)
