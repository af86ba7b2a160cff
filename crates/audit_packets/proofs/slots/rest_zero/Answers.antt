use mathlib.Core.Path.{ap, ◌∙◌}
use Rattle.machine.specs.Audit.{is_zero_packet}
use Rattle.audit_packets.proofs.LegalPackets.{rest_slot}
use Rattle.audit_packets.proofs.slots.rest_zero.Goals as goal

pub returns : goal.returns
returns c =
    let i = c.args in
    c.is_zero.ensures ∙ ap is_zero_packet c.packet_on.ensures ∙ rest_slot i.queue.now i.j
