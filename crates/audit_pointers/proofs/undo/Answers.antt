use Rattle.std.proofs.Common.{rules}
use native.Mathlib.Omega.{arith}
use Rattle.machine.specs.Packets.{makes, replaces, kind_of}
use Rattle.machine.specs.Table.{left, right}
use Rattle.queue.specs.Sums.{packet_of}
use Rattle.audit_pointers.proofs.EarlierFields.{keeps}
use Rattle.audit_pointers.proofs.PacketUndo.{makes_used, replaces_used, undo_kind, undo_kept}
use Rattle.audit_pointers.proofs.undo.Goals as goal

pub undo_cons-requires : goal.undo_cons-requires
undo_cons-requires c =
    let i = c.args in
    let p = packet_of c.packet_on-p.result in
    let used = makes_used i.table.now i.queue.now i.j i.scratch.now c.requires p c.packet_on-p.ensures
    (search rules) in
    (c.requires, used)

pub undo_replace-requires : goal.undo_replace-requires
undo_replace-requires c =
    let i = c.args in
    let p = packet_of c.packet_on-p.result in
    let used = replaces_used i.table.now i.queue.now i.j i.scratch.now c.requires p c.packet_on-p.ensures left
    (search rules) in
    (c.requires, used, omega arith)

pub undo_replace-requires-in-Some-ReplaceRight : goal.undo_replace-requires-in-Some-ReplaceRight
undo_replace-requires-in-Some-ReplaceRight c =
    let i = c.args in
    let p = packet_of c.packet_on-p.result in
    let used = replaces_used i.table.now i.queue.now i.j i.scratch.now c.requires p c.packet_on-p.ensures right
    (search rules) in
    (c.requires, used, omega arith)

pub returns-in-Some-Cons : goal.returns-in-Some-Cons
returns-in-Some-Cons c =
    let i = c.args in
    let p = packet_of c.packet_on-p.result in
    undo_kind i.table.now i.queue.now i.j i.scratch.now c.requires p c.packet_on-p.ensures makes _ _
    (search rules) c.undo_cons.ensures

pub returns-in-Some-ReplaceLeft : goal.returns-in-Some-ReplaceLeft
returns-in-Some-ReplaceLeft c =
    let i = c.args in
    let p = packet_of c.packet_on-p.result in
    undo_kind i.table.now i.queue.now i.j i.scratch.now c.requires p c.packet_on-p.ensures (replaces left) _ _
    (search rules) c.undo_replace.ensures

pub returns-in-Some-ReplaceRight : goal.returns-in-Some-ReplaceRight
returns-in-Some-ReplaceRight c =
    let i = c.args in
    let p = packet_of c.packet_on-p.result in
    undo_kind i.table.now i.queue.now i.j i.scratch.now c.requires p c.packet_on-p.ensures (replaces right) _ _
    (search rules) c.undo_replace-in-Some-ReplaceRight.ensures

pub returns-in-Some-Read : goal.returns-in-Some-Read
returns-in-Some-Read c =
    let i = c.args in
    let p = packet_of c.packet_on-p.result in
    undo_kept i.table.now i.queue.now i.j i.scratch.now c.requires p c.packet_on-p.ensures
    (keeps (kind_of p.kind) (λ e. grind arith) (λ k e. grind arith))

pub returns-in-None : goal.returns-in-None
returns-in-None c =
    let i = c.args in
    let p = packet_of c.packet_on-p.result in
    undo_kept i.table.now i.queue.now i.j i.scratch.now c.requires p c.packet_on-p.ensures
    (keeps (kind_of p.kind) (λ e. grind arith) (λ k e. grind arith))
