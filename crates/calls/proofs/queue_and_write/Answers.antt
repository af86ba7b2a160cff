use mathlib.Core.Path.{ap₂, ◌∙◌}
use Rattle.machine.specs.Answers.{call_of}
use Rattle.queue.specs.Sums.{packet_of}
use Rattle.counts.specs.Changes.{named_fitting}
use Rattle.calls.proofs.CallLaws.{early_shape, passed_operands, passed_room, writable}
use Rattle.calls.proofs.RowLaws.{done_yes, done_called, refused_called}
use Rattle.calls.proofs.queue_and_write.Goals as goal

pub queued-reply-requires : goal.queued-reply-requires
queued-reply-requires c =
    let i = c.args in
    let r = call_of i.call in
    (early_shape i.table.now i.queue r c.requires.early, passed_operands i.table.now i.queue r (packet_of i.packet) c.requires)

pub write-requires : goal.write-requires
write-requires c =
    let i = c.args in
    let r = call_of i.call in
    let reply = c.queued-reply.result in
    writable i.table.now i.queue r
    (done_yes i.table.now i.queue r reply.answer reply.queue (c.queued-reply.ensures (call_of i.call) c.requires) _ c.in-Ok.is)

pub name_packet-requires : goal.name_packet-requires
name_packet-requires c =
    let i = c.args in
    rw c.write.ensures (passed_room i.table.now i.queue (call_of i.call) (packet_of i.packet) c.requires)

pub returns-in-Ok : goal.returns-in-Ok
returns-in-Ok c =
    let i = c.args in
    let r = call_of i.call in
    let reply = c.queued-reply.result in
    done_called i.table.now i.queue r reply.answer reply.queue (c.queued-reply.ensures (call_of i.call) c.requires) _ _ c.requires.queues c.in-Ok.is
    (c.name_packet.ensures ∙ ap₂ named_fitting c.write.ensures c.requires.packet)

pub returns-in_default : goal.returns-in_default
returns-in_default c =
    let i = c.args in
    let reply = c.queued-reply.result in
    refused_called i.table.now i.queue (call_of i.call) reply.answer reply.queue (c.queued-reply.ensures (call_of i.call) c.requires) _ c.in_default.is
