use mathlib.Core.Path.{sym, ◌∙◌}
use Rattle.machine.specs.Answers.{call_of}
use Rattle.machine.proofs.Answers.{asked_yes}
use Rattle.calls.proofs.CallLaws.{early_shape, early_operands}
use Rattle.calls.proofs.RowLaws.{early_refused, nil_called, refused_called}
use Rattle.calls.proofs.row.Goals as goal

pub returns-then-reads_nil : goal.returns-then-reads_nil
returns-then-reads_nil c =
    let i = c.args in
    let r = call_of i.call in
    let nil = sym c.reads_nil.ensures ∙ c.if-reads_nil.true in
    let reply = c.nil_read in
    nil_called i.table.now i.queue r reply.result.answer reply.result.queue (reply.ensures r nil) nil

pub early_asked-asked-requires : goal.early_asked-asked-requires
early_asked-asked-requires c = sym c.reads_nil.ensures ∙ c.if-reads_nil.false

pub packet_of-packet-requires : goal.packet_of-packet-requires
packet_of-packet-requires c =
    let early = sym (asked_yes c.early_asked-asked.ensures c.in-Ok.is) in
    let i = c.args in
    let r = call_of i.call in
    ((early_shape i.table.now i.queue r early).table, early_operands i.table.now i.queue r (sym c.reads_nil.ensures ∙ c.if-reads_nil.false) early)

pub queue_and_write-requires : goal.queue_and_write-requires
queue_and_write-requires c =
    record { queues = sym c.reads_nil.ensures ∙ c.if-reads_nil.false; early = sym (asked_yes c.early_asked-asked.ensures c.in-Ok.is); packet = c.packet_of-packet.ensures }

pub returns-in-Err : goal.returns-in-Err
returns-in-Err c =
    let i = c.args in
    let r = call_of i.call in
    let asked = c.early_asked-asked in
    let reply = c.refused in
    refused_called i.table.now i.queue r reply.result.answer reply.result.queue
    (early_refused i.table.now i.queue r asked.result c.in-Err.refusal reply.result.answer reply.result.queue
    (sym c.reads_nil.ensures ∙ c.if-reads_nil.false) asked.ensures c.in-Err.is reply.ensures.0 reply.ensures.1)
    _ reply.ensures.0

pub returns-in-Ok : goal.returns-in-Ok
returns-in-Ok c = c.queue_and_write.ensures
