use mathlib.Core.Path.{sym, ◌∙◌}
use Rattle.queue.specs.Sums.{packet_of}
use Rattle.collector.proofs.Applied.{changed_room, still_shaped, still_enough, short, long}
use Rattle.collector.proofs.apply_oldest.Goals as goal

pub unname_packet-requires : goal.unname_packet-requires
unname_packet-requires c =
    let i = c.args in
    changed_room i.table.now i.scratch.now c.requires.0 c.requires.1 (packet_of i.oldest) _ c.apply.ensures

pub stays_root-requires : goal.stays_root-requires
stays_root-requires c =
    let i = c.args in
    still_shaped i.table.now i.scratch.now c.requires.0 c.requires.1 (packet_of i.oldest) _ c.apply.ensures
    _ c.unname_packet.ensures

pub clear-requires : goal.clear-requires
clear-requires c =
    rw c.capacity_of-capacity.ensures c.requires.1

pub returns-then-stays_root : goal.returns-then-stays_root
returns-then-stays_root c =
    let i = c.args in
    short i.table.now i.scratch.now c.requires.0 c.requires.1 (packet_of i.oldest) _ c.apply.ensures
    _ c.unname_packet.ensures _ c.watched_of-watched.ensures (sym c.stays_root.ensures ∙ c.if-stays_root.true)
    _ c.capacity_of-capacity.ensures _ c.clear.ensures

pub collect_from-requires : goal.collect_from-requires
collect_from-requires c =
    let i = c.args in
    let f = c.apply.ensures in
    let g = c.unname_packet.ensures in (
      still_shaped i.table.now i.scratch.now c.requires.0 c.requires.1 (packet_of i.oldest) _ f _ g,
      still_enough i.table.now i.scratch.now c.requires.0 c.requires.1 (packet_of i.oldest) _ f _ g,
      sym c.stays_root.ensures ∙ c.if-stays_root.false,
    )

pub returns : goal.returns
returns c =
    let i = c.args in
    long i.table.now i.scratch.now c.requires.0 c.requires.1 (packet_of i.oldest) _ c.apply.ensures
    _ c.unname_packet.ensures _ c.watched_of-watched.ensures _ _ _ c.collect_from.ensures
