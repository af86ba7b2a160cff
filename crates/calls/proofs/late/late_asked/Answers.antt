use mathlib.Core.Path.{◌≡◌, ap, ◌∙◌}
use mathlib.Core.Logic.{inl, inr}
use Rattle.machine.specs.Packets.{kind_of}
use Rattle.queue.specs.Kinds.{kind_number}
use Rattle.queue.proofs.Known.{known_number}
use Rattle.calls.proofs.LateLaws.{up_asked, down_asked}
use Rattle.calls.proofs.late.late_asked.Goals as goal

pub read_late-requires : goal.read_late-requires
unfolding kind_of
read_late-requires c =
    let kind : c.args.p.kind ≡ 1 = known_number _ _ c.in-Some-Read.ensures ∙ ap kind_number c.in-Some-Read.field-0-is in
    (c.requires.0, rw kind at c.requires.1)

pub returns-in-Some-Read : goal.returns-in-Some-Read
returns-in-Some-Read c =
    let kind : c.args.p.kind ≡ 1 = known_number _ _ c.in-Some-Read.ensures ∙ ap kind_number c.in-Some-Read.field-0-is in
    rw kind (c.read_late.ensures c.args.p.c)

pub returns-in-Some-Cons : goal.returns-in-Some-Cons
returns-in-Some-Cons c =
    let kind : c.args.p.kind ≡ 2 = known_number _ _ c.in-Some-Cons.ensures ∙ ap kind_number c.in-Some-Cons.field-0-is in
    rw kind (c.cons_late.ensures c.args.p.c)

pub returns-in-Some-Up : goal.returns-in-Some-Up
unfolding kind_of
returns-in-Some-Up c =
    let i = c.args in
    let x = c.tally_of in
    let kind : c.args.p.kind ≡ 4 = known_number _ _ c.in-Some-Up.ensures ∙ ap kind_number c.in-Some-Up.field-0-is in
    rw kind (up_asked i.table.now i.queue.now i.p.a i.p.b x.result _ (rw kind at c.requires.1) x.ensures.0 c.up_tests.ensures i.p.c)

pub returns-in-Some-Down : goal.returns-in-Some-Down
unfolding kind_of
returns-in-Some-Down c =
    let i = c.args in
    let x = c.tally_of-in-Some-Down in
    let kind : c.args.p.kind ≡ 5 = known_number _ _ c.in-Some-Down.ensures ∙ ap kind_number c.in-Some-Down.field-0-is in
    let operand = rw kind at c.requires.1 in
    rw kind (down_asked i.table.now i.queue.now i.p.a i.p.b x.result _ operand.0 operand.1 x.ensures.0 c.down_tests.ensures i.p.c)

pub returns-in-Some-ReplaceLeft : goal.returns-in-Some-ReplaceLeft
returns-in-Some-ReplaceLeft c =
    c.replace_late.ensures c.args.p.kind (inl (known_number _ _ c.in-Some-ReplaceLeft.ensures ∙ ap kind_number c.in-Some-ReplaceLeft.field-0-is))

pub returns-in-Some-ReplaceRight : goal.returns-in-Some-ReplaceRight
returns-in-Some-ReplaceRight c =
    c.replace_late-in-Some-ReplaceRight.ensures c.args.p.kind
    (inr (known_number _ _ c.in-Some-ReplaceRight.ensures ∙ ap kind_number c.in-Some-ReplaceRight.field-0-is))
