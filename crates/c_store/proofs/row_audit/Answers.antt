use mathlib.Core.Path.{sym}
use Rattle.c_store.proofs.ToldLaws.{saved_told}
use Rattle.c_store.proofs.row_audit.Goals as goal

pub returns : goal.returns
returns c =
    let words = c.args.queue.now in
    let load = c.load.ensures in
    saved_told words words load c.audit.ensures (sym load) c.audit_told.ensures
