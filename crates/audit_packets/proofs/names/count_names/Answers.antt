use native.Mathlib.Omega.{arith}
use Rattle.audit_packets.proofs.NamesInScratch.{counting_none, counting_more, counting_below, counting_done}
use Rattle.audit_packets.proofs.names.count_names.Goals as goal

pub loop-j-init : goal.loop-j-init
loop-j-init c = counting_none _ _ _ _ c.clear.ensures

pub count_packet-requires : goal.count_packet-requires
count_packet-requires c =
    let l = c.loop-j in
    let most = c.requires.0.count in
    let kept = c.clear.auto.scratch in
    (omega (arith, l.invariant.same), counting_below _ _ l.j _ _ l.invariant (omega arith))

pub loop-j-preserved : goal.loop-j-preserved
loop-j-preserved c =
    let l = c.loop-j in
    counting_more _ _ l.j _ _ l.scratch _ c.packet_on.ensures l.invariant c.count_packet.ensures c.count_packet.auto.scratch

pub returns : goal.returns
returns c = counting_done _ _ c.loop-j.j _ _ _ c.loop-j.invariant (omega arith) c.clear.ensures
