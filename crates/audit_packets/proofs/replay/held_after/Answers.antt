use Rattle.audit_packets.proofs.ReplayedCounts.{held_cut}
use Rattle.audit_packets.proofs.replay.held_after.Goals as goal

pub returns : goal.returns
returns c =
    let q = c.args.queue.now in
    held_cut q c.args.j c.args.x c.args.root.0 _ _ c.waiting_changes-sums.ensures.sums.held c.with.ensures
