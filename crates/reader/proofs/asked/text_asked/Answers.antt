use mathlib.Core.Bool.{not}
use mathlib.Core.Path.{ap}
use mathlib.Core.Path.{sym, ◌∙◌}
use Rattle.machine.proofs.Questions.{shape_is}
use Rattle.calls.proofs.EarlyLaws.{yes, no}
use Rattle.reader.proofs.CalledLaws.{asked_first, asked_fault, asked_tree}
use Rattle.reader.proofs.StorableLaws.{found_within}
use Rattle.reader.proofs.asked.text_asked.Goals as goal

pub returns-then-not-in_range : goal.returns-then-not-in_range
returns-then-not-in_range c =
    let i = c.args in
    asked_first i.table.now i.queue.now i.text.now (no c.in_range.ensures (ap not c.if-not-in_range.true))

pub tree_asked-requires : goal.tree_asked-requires
tree_asked-requires c =
    let shape = shape_is _ _ (yes c.in_range.ensures (ap not c.if-not-in_range.false)) in
    (shape.table, shape.queue.count, found_within _ _ (sym c.scan-scanned.ensures ∙ c.in-Ok.is))

pub returns-in-Err : goal.returns-in-Err
returns-in-Err c =
    let i = c.args in
    c.refusal.ensures
    ∙ asked_fault i.table.now i.queue.now i.text.now (yes c.in_range.ensures (ap not c.if-not-in_range.false)) c.scan-scanned.ensures _ c.in-Err.is

pub returns-in-Ok : goal.returns-in-Ok
returns-in-Ok c =
    let i = c.args in
    c.tree_asked.ensures
    ∙ asked_tree i.table.now i.queue.now i.text.now (yes c.in_range.ensures (ap not c.if-not-in_range.false)) c.scan-scanned.ensures _ c.in-Ok.is
