use mathlib.Core.Path.{ap, ◌∙◌}
use Rattle.machine.specs.Queue.{slot}
use Rattle.audit_packets.specs.Packets.{packet_on}
use Rattle.audit_packets.proofs.slots.packet_on.Goals as goal

pub returns : goal.returns
unfolding packet_on
returns c = c.packet_at.ensures ∙ ap (slot c.args.queue.now) c.slot_after.ensures.0
