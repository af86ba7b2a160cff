use Rattle.machine.specs.Packets.{kind_of, plus}
use Rattle.counts.proofs.Naming.{named_three, packet_named}
use Rattle.counts.proofs.names.name_packet.Goals as goal

pub returns : goal.returns
returns c =
    let i = c.args in
    let p = i.packet in
    packet_named i.table.now _ p.kind p.a p.b p.c
    (named_three plus i.table.now _ _ _ (kind_of p.kind) p.a p.b p.c _ _ _ c.names_of-names.ensures
    c.up.ensures c.up-2.ensures c.up-3.ensures)
