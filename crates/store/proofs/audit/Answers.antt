use Rattle.machine.specs.Calls.{audit}
use Rattle.store.proofs.RowPromise.{machine_promise}
use Rattle.store.proofs.audit.Goals as goal

pub returns : goal.returns
returns c = machine_promise _ audit _ _ c.audit_store.ensures.reply c.audit_store.ensures.after
