use mathlib.Core.Path.{sym, ap, ◌∙◌}
use Rattle.machine.specs.Packets.{uses}
use Rattle.machine.specs.Queue.{Packet}
use Rattle.audit_packets.specs.Packets.{packet_on, oldest}
use Rattle.audit_packets.proofs.ReplayedCounts.{oldest_next, question_6, stage_unheld, stage_held}
use Rattle.audit_packets.proofs.replay.stage_sound.Goals as goal

pub returns-then-at_least : goal.returns-then-at_least
returns-then-at_least c =
    let q = c.args.queue.now in
    let j = c.args.j in
    let x = c.args.x in
    let n = c.args.root.0 in
    let u = c.times_named.ensures.0 ∙ ap (λ (r : Packet). uses r x) c.packet_on.ensures in
    let e = question_6 x n (oldest q j) (packet_on q j) _ _ c.held_after-before.ensures u c.at_least.ensures in
    stage_held x n (oldest q j) (packet_on q j) (sym e ∙ c.if-at_least.true) _ (rw (oldest_next q j) at c.held_after-after.ensures) c.within.ensures

pub returns-else-at_least : goal.returns-else-at_least
returns-else-at_least c =
    let q = c.args.queue.now in
    let j = c.args.j in
    let x = c.args.x in
    let n = c.args.root.0 in
    let u = c.times_named.ensures.0 ∙ ap (λ (r : Packet). uses r x) c.packet_on.ensures in
    let e = question_6 x n (oldest q j) (packet_on q j) _ _ c.held_after-before.ensures u c.at_least.ensures in
    c.if-at_least.false ∙ sym (stage_unheld x n (oldest q j) (packet_on q j) (sym e ∙ c.if-at_least.false))
