use borrow.Author.Rules.{rules}
use Rattle.machine.specs.Packets.{root, cell}
use Rattle.calls.proofs.TallyLaws.{counter_tally, counter_other}
use Rattle.calls.proofs.operands.tally_of.Goals as goal

pub returns : goal.returns
returns c =
    let s = c.waiting_changes-s.result in
    let e = c.waiting_changes-s.ensures.sums in
    let held = c.with in
    let pointers = c.with-2 in (
      record {
        held = counter_tally root 2 _ _ _ _ _ s.held.raised s.held.lowered _ _ c.in-Some.ensures c.count.ensures e.held held.ensures;
        pointers = counter_tally cell 0 _ _ _ _ _ s.pointers.raised s.pointers.lowered _ _ c.in-Some.ensures c.count-2.ensures e.pointers pointers.ensures;
      },
      record { held = held.ensures.few; pointers = pointers.ensures.few },
    )

pub returns-in_default : goal.returns-in_default
returns-in_default c =
    let h = c.new.ensures in
    let p = c.new-in_default.ensures in
    (record { held = counter_other root 2 _ _ _ _ _ c.in_default.ensures h.0 h.1; pointers = counter_other cell 0 _ _ _ _ _ c.in_default.ensures p.0 p.1 }, search rules)
