use Rattle.machine.specs.Packets.{kind_of, minus}
use Rattle.counts.proofs.Naming.{named_three, packet_unnamed}
use Rattle.counts.proofs.names.unname_packet.Goals as goal

pub returns : goal.returns
returns c =
    let i = c.args in
    let p = i.packet in
    packet_unnamed i.table.now _ p.kind p.a p.b p.c
    (named_three minus i.table.now _ _ _ (kind_of p.kind) p.a p.b p.c _ _ _ c.names_of-names.ensures
    c.down.ensures c.down-2.ensures c.down-3.ensures)
