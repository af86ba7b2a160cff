use Rattle.std.proofs.Common.{refl, sym, ◌∙◌, rules, tests}
use Rattle.machine.proofs.Below.{all_numbers}
use Rattle.audit_packets.specs.Packets.{packet_on, packet_sound}
use Rattle.audit_packets.proofs.LegalPackets.{legal_every}
use Rattle.audit_packets.proofs.legality.packets_legal.Goals as goal

pub returns : goal.returns
returns c =
    let t = c.args.table.now in
    let q = c.args.queue.now in
    all_numbers (λ j. packet_sound t (packet_on q j)) _ _ _ _ c.all.ensures.ran refl (λ x b q k. search (rules, tests)) ∙ sym (legal_every t q)
