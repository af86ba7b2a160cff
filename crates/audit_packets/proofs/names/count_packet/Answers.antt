use native.Mathlib.Omega.{arith}
use Rattle.queue.specs.Sums.{packet_of}
use Rattle.scratch_counts.proofs.Counts.{below_more}
use Rattle.audit_packets.specs.Names.{most_names}
use Rattle.audit_packets.proofs.NamesInScratch.{packet_counted}
use Rattle.audit_packets.proofs.names.count_packet.Goals as goal

pub raise-requires : goal.raise-requires
raise-requires c =
    (c.requires.0, λ i l. omega (arith, c.requires.1 i l))

pub raise-requires-2 : goal.raise-requires-2
raise-requires-2 c =
    let r = c.raise in
    let few = below_more c.args.c _ most_names c.args.scratch.now r.new.scratch c.requires.1 r.ensures in
    (omega (arith, r.auto.scratch), λ i l. omega (arith, few i l))

pub raise-requires-3 : goal.raise-requires-3
raise-requires-3 c =
    let r = c.raise in
    let r2 = c.raise-2 in
    let few = below_more c.args.c _ most_names c.args.scratch.now r.new.scratch c.requires.1 r.ensures in
    let few-2 = below_more c.args.c _ _ r.new.scratch r2.new.scratch few r2.ensures in
    (omega (arith, r.auto.scratch, r2.auto.scratch), λ i l. omega (arith, few-2 i l))

pub returns : goal.returns
returns c =
    packet_counted c.args.c (packet_of c.args.p) _ _ _ c.names_of-names.ensures _ _ _ _
    c.raise.ensures c.raise-2.ensures c.raise-3.ensures
