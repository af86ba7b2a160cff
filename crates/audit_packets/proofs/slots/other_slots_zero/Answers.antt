use Rattle.std.proofs.Common.{refl, rules, tests}
use Rattle.machine.specs.Audit.{other_slots_zero}
use Rattle.machine.proofs.Below.{all_numbers}
use Rattle.audit_packets.specs.Packets.{rest_zero}
use Rattle.audit_packets.proofs.slots.other_slots_zero.Goals as goal

pub returns : goal.returns
unfolding other_slots_zero rest_zero
returns c = all_numbers (rest_zero c.args.queue.now) _ _ _ _ c.all.ensures.ran refl (λ x b q k. search (rules, tests))
