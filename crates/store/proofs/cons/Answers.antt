use borrow.Author.Rules.{rules}
use Rattle.machine.specs.Calls.{cons}
use Rattle.store.proofs.RowPromise.{row_promise}
use Rattle.store.proofs.cons.Goals as goal

pub returns : goal.returns
returns c = row_promise _ _ (cons _ _) _ _ _ c.cons.ensures (search rules)
