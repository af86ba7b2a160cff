use Rattle.std.proofs.Common.{refl, ◌∙◌, rules, tests}
use Rattle.machine.proofs.Below.{all_numbers}
use Rattle.audit_packets.specs.Packets.{packet_replays}
use Rattle.audit_packets.proofs.ReplayedCounts.{replay_exact}
use Rattle.audit_packets.proofs.replay.packets_replay.Goals as goal

pub returns : goal.returns
returns c =
    let t = c.args.table.now in
    let q = c.args.queue.now in
    all_numbers (packet_replays t q) _ _ _ _ c.all.ensures.ran refl (λ x b q k. search (rules, tests)) ∙ replay_exact t q c.requires.1
