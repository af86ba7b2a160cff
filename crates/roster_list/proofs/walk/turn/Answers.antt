use Rattle.roster_list.proofs.Turning.{turn_stays, turn_goes}
use Rattle.roster_list.proofs.walk.turn.Goals as goal

pub returns-then-seat-key : goal.returns-then-seat-key
returns-then-seat-key c = turn_stays c.entry_word-seat.ensures c.if-seat-key.true

pub returns : goal.returns
returns c = turn_goes c.entry_word-seat.ensures c.if-seat-key.false c.settle-next.ensures
