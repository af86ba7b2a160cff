use Rattle.roster.proofs.PastLaws.{counted_past}
use Rattle.roster.proofs.past.seats_counted.Goals as goal

pub returns : goal.returns
returns c = counted_past c.count-number.ensures
