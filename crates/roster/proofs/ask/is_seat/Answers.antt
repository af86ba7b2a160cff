use borrow.Author.Rules.{rules}
use Rattle.readings.specs.Calls.{is_seat}
use Rattle.roster.proofs.ask.is_seat.Goals as goal

pub returns : goal.returns
unfolding is_seat
returns c = search rules
