use mathlib.Core.Path.{sym, ◌∙◌}
use native.Mathlib.Omega.{arith}
use Rattle.scratch_counts.proofs.Counts.{scratch_of}
use Rattle.audit_pointers.proofs.QueueUndo.{start_past, start_broken, undo_start}
use Rattle.audit_pointers.proofs.pointers_sound.Goals as goal

pub count_pointers-requires : goal.count_pointers-requires
count_pointers-requires c =
    let e = c.capacity_of-c.ensures in
    let lent = c.requires.lent in
    (lent.shape.table, e, scratch_of _ _ c.args.table.now e lent.scratch)

pub all_within-requires : goal.all_within-requires
all_within-requires c =
    let enough = scratch_of _ _ c.args.table.now c.capacity_of-c.ensures c.requires.lent.scratch in omega arith

pub returns-else-all_within : goal.returns-else-all_within
returns-else-all_within c =
    let i = c.args in
    let e = c.capacity_of-c.ensures in
    let h = c.count_pointers.ensures in
    record {
      answer = c.if-all_within.false ∙ sym (start_broken i.table.now i.queue.now _ i.scratch.now _ e h (sym c.all_within.ensures ∙ c.if-all_within.false));
      past = start_past i.table.now i.queue.now _ i.scratch.now _ e h;
    }

pub undo_all-requires : goal.undo_all-requires
undo_all-requires c =
    let i = c.args in
    let within = sym c.all_within.ensures ∙ c.if-all_within.true in
    undo_start i.table.now i.queue.now _ i.scratch.now _ c.capacity_of-c.ensures c.count_pointers.ensures within c.requires
    c.count_pointers.auto.scratch

pub returns-then-all_within : goal.returns-then-all_within
returns-then-all_within c =
    let i = c.args in
    let h = c.count_pointers.ensures in
    let undone = c.undo_all.ensures in
    record {
      answer = undone.answer;
      past = undone.past ∙ start_past i.table.now i.queue.now _ i.scratch.now _ c.capacity_of-c.ensures h;
    }
