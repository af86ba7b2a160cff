use Rattle.roster.proofs.PastLaws.{read_absent, read_found}
use Rattle.roster.proofs.past.seat_read.Goals as goal

pub returns-in-None : goal.returns-in-None
returns-in-None c = read_absent c.atom.ensures (rw c.in-None.is at c.find.ensures)

pub returns-in-Some : goal.returns-in-Some
returns-in-Some c = read_found c.atom.ensures (rw c.in-Some.is at c.find.ensures) c.read_out.ensures
