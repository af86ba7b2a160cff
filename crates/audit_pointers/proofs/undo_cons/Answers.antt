use mathlib.Core.Logic.{⊎_elim}
use native.Mathlib.Omega.{arith}
use Rattle.scratch_counts.proofs.Counts.{scratch_of}
use Rattle.audit_pointers.proofs.PacketUndo.{cons_no_left, cons_no_right, cons_yes}
use Rattle.audit_pointers.proofs.undo_cons.Goals as goal

pub returns-then-left-p : goal.returns-then-left-p
returns-then-left-p c =
    let i = c.args in
    let h = c.requires in
    ⊎_elim (cons_no_left i.table.now i.queue.now i.j i.scratch.now h.0 i.p.c h.1 i.p.a i.p.b _ 0 c.stage_field-left.ensures)
    (λ d. cons_no_right i.table.now i.queue.now i.j i.scratch.now h.0 i.p.c h.1 i.p.a i.p.b _ _ c.stage_field-left.ensures c.stage_field-right.ensures d.1)
    c.then-left-p.either

pub lower-requires : goal.lower-requires
lower-requires c =
    scratch_of _ _ c.args.table.now c.capacity_of-c.ensures c.requires.0.able.lent.scratch

pub lower-requires-2 : goal.lower-requires-2
lower-requires-2 c =
    let enough = scratch_of _ _ c.args.table.now c.capacity_of-c.ensures c.requires.0.able.lent.scratch in omega arith

pub returns : goal.returns
returns c =
    let i = c.args in
    let h = c.requires in
    cons_yes i.table.now i.queue.now i.j i.scratch.now h.0 i.p.c h.1 i.p.a i.p.b _ _ c.stage_field-left.ensures
    c.stage_field-right.ensures _ _ _ c.capacity_of-c.ensures c.if-left-p.false c.if-right-p.false c.lower.ensures
    c.lower-2.ensures
