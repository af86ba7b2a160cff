use borrow.Author.Rules.{rules}
use Rattle.machine.specs.Calls.{cdr}
use Rattle.store.proofs.RowPromise.{row_promise}
use Rattle.store.proofs.cdr.Goals as goal

pub returns : goal.returns
returns c = row_promise _ _ (cdr _) _ _ _ c.cdr.ensures (search rules)
