use mathlib.Core.Bool.{not}
use mathlib.Core.Path.{sym, ap, ◌∙◌}
use borrow.Author.Tests.{not-true, not-false}
use Rattle.reader.proofs.CalledLaws.{stored_yes, stored_no}
use Rattle.reader.proofs.asked.tree_asked.Goals as goal

pub returns-then-not-may_be_stored : goal.returns-then-not-may_be_stored
returns-then-not-may_be_stored c =
    let i = c.args in
    stored_no i.table.now i.count i.pairs i.largest (sym c.may_be_stored.ensures ∙ not-true _ (ap not c.if-not-may_be_stored.true))

pub returns : goal.returns
returns c =
    let i = c.args in
    stored_yes i.table.now i.count i.pairs i.largest _ (sym c.may_be_stored.ensures ∙ not-false _ (ap not c.if-not-may_be_stored.false)) c.pairs_asked.ensures
