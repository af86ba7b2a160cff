use Rattle.roster.proofs.PastLaws.{set_new, set_present}
use Rattle.roster.proofs.past.seat_set.Goals as goal

pub returns-in-None : goal.returns-in-None
returns-in-None c = set_new c.atom.ensures (rw c.in-None.is at c.find.ensures) c.add.ensures

pub returns-in-Some : goal.returns-in-Some
returns-in-Some c = set_present c.atom.ensures (rw c.in-Some.is at c.find.ensures) c.replace.ensures
