use mathlib.Core.Path.{sym, ◌∙◌}
use native.Mathlib.Omega.{arith}
use Rattle.audit_pointers.proofs.QueueUndo.{undo_next, undo_more, undo_broken, undo_done}
use Rattle.audit_pointers.proofs.undo_all.Goals as goal

pub loop-j-init : goal.loop-j-init
loop-j-init c = c.requires

pub undo-requires : goal.undo-requires
undo-requires c = undo_next _ _ _ _ _ c.loop-j.invariant (omega arith)

pub shape_of-scratch-then-not-undo : goal.shape_of-scratch-then-not-undo
shape_of-scratch-then-not-undo c = c.undo.auto.scratch ∙ c.loop-j.invariant.same

pub returns-then-not-undo : goal.returns-then-not-undo
returns-then-not-undo c =
    let i = c.args in
    let l = c.loop-j in
    let u = c.undo.ensures in
    record {
      answer = sym (undo_broken i.table.now i.queue.now l.j l.scratch _ _ l.invariant.some (omega arith) u c.if-not-undo.true);
      past = u.past ∙ l.invariant.past;
    }

pub loop-j-preserved : goal.loop-j-preserved
loop-j-preserved c =
    let i = c.args in
    let l = c.loop-j in
    let u = c.undo in
    undo_more i.table.now i.queue.now l.j i.scratch.now l.scratch _ _ l.invariant (omega arith) u.ensures c.if-not-undo.false
    u.auto.scratch

pub counts_match-requires : goal.counts_match-requires
counts_match-requires c =
    let lent = c.loop-j.invariant.able.lent in
    (lent.shape.table, lent.scratch)

pub shape_of-scratch : goal.shape_of-scratch
shape_of-scratch c = c.loop-j.invariant.same

pub returns : goal.returns
returns c =
    let i = c.args in
    let l = c.loop-j in
    record {
      answer = c.counts_match.ensures ∙ undo_done i.table.now i.queue.now l.j i.scratch.now l.scratch l.invariant (omega arith);
      past = l.invariant.past;
    }
