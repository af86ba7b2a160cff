use mathlib.Core.Bool.{not}
use mathlib.Core.Path.{ap}
use Rattle.machine.specs.Answers.{asked_number}
use Rattle.calls.specs.Early.{stored_number}
use Rattle.calls.proofs.EarlyLaws.{yes, no, none_before, stored_x, stored_y, stored_0}
use Rattle.calls.proofs.early.stored_asked.Goals as goal

pub returns-then-not-may_be_stored : goal.returns-then-not-may_be_stored
returns-then-not-may_be_stored c =
    let i = c.args in
    none_before (asked_number i.before) (stored_number i.x i.y) 14 (ap asked_number c.in_ok-before.was)
    (stored_x _ _ (no c.may_be_stored.ensures (ap not c.if-not-may_be_stored.true)))

pub returns-then-not-may_be_stored-2 : goal.returns-then-not-may_be_stored-2
returns-then-not-may_be_stored-2 c =
    let i = c.args in
    none_before (asked_number i.before) (stored_number i.x i.y) 14 (ap asked_number c.in_ok-before.was)
    (stored_y _ _ (yes c.may_be_stored.ensures (ap not c.if-not-may_be_stored.false))
    (no c.may_be_stored-2.ensures (ap not c.if-not-may_be_stored-2.true)))

pub returns : goal.returns
returns c =
    let i = c.args in
    none_before (asked_number i.before) (stored_number i.x i.y) 0 (ap asked_number c.in_ok-before.was)
    (stored_0 _ _ (yes c.may_be_stored.ensures (ap not c.if-not-may_be_stored.false))
    (yes c.may_be_stored-2.ensures (ap not c.if-not-may_be_stored-2.false)))
