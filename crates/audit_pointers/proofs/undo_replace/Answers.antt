use native.Mathlib.Omega.{arith}
use Rattle.scratch_counts.proofs.Counts.{scratch_of}
use Rattle.audit_pointers.proofs.PacketUndo.{undo_room, replace_no, replace_yes}
use Rattle.audit_pointers.proofs.undo_replace.Goals as goal

pub returns-then-stage_field-p : goal.returns-then-stage_field-p
returns-then-stage_field-p c =
    let i = c.args in
    let h = c.requires in
    replace_no i.table.now i.queue.now i.j i.scratch.now h.0 i.p.c h.1 i.k i.p.a i.p.b _ h.2
    c.stage_field.ensures c.if-stage_field-p.true

pub raise-requires : goal.raise-requires
raise-requires c =
    let i = c.args in
    let h = c.requires.0 in
    let e = c.capacity_of-c.ensures in
    (scratch_of _ _ i.table.now e h.able.lent.scratch, undo_room i.table.now i.queue.now i.j i.scratch.now h _ e)

pub lower-requires : goal.lower-requires
lower-requires c =
    let enough = scratch_of _ _ c.args.table.now c.capacity_of-c.ensures c.requires.0.able.lent.scratch in omega arith

pub word_within-requires : goal.word_within-requires
word_within-requires c =
    let enough = scratch_of _ _ c.args.table.now c.capacity_of-c.ensures c.requires.0.able.lent.scratch in omega arith

pub returns : goal.returns
returns c =
    let i = c.args in
    let h = c.requires in
    replace_yes i.table.now i.queue.now i.j i.scratch.now h.0 i.p.c h.1 i.k i.p.a i.p.b _ h.2
    c.stage_field.ensures _ _ _ _ c.capacity_of-c.ensures c.if-stage_field-p.false c.raise.ensures
    c.lower.ensures c.word_within.ensures
