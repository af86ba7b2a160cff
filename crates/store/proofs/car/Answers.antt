use borrow.Author.Rules.{rules}
use Rattle.machine.specs.Calls.{car}
use Rattle.store.proofs.RowPromise.{row_promise}
use Rattle.store.proofs.car.Goals as goal

pub returns : goal.returns
returns c = row_promise _ _ (car _) _ _ _ c.car.ensures (search rules)
