use Rattle.roster.proofs.PastLaws.{removed_absent, removed_first, removed_later}
use Rattle.roster.proofs.past.seat_removed.Goals as goal

pub returns-in-None : goal.returns-in-None
returns-in-None c = removed_absent c.atom.ensures (rw c.in-None.is at c.find.ensures)

pub returns-then-place-eq0 : goal.returns-then-place-eq0
returns-then-place-eq0 c = removed_first c.atom.ensures (rw c.in-Some.is at c.find.ensures) c.if-place-eq0.true c.drop_first.ensures

pub returns-else-place-eq0 : goal.returns-else-place-eq0
returns-else-place-eq0 c = removed_later c.atom.ensures (rw c.in-Some.is at c.find.ensures) c.if-place-eq0.false c.link_past.ensures
