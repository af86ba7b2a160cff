use mathlib.Core.Path.{sym, ◌∙◌}
use Rattle.roster.proofs.PromiseLaws.{asks_out, asks_seat}
use Rattle.roster.proofs.ask.seat_asked.Goals as goal

pub returns-then-not-is_seat : goal.returns-then-not-is_seat
returns-then-not-is_seat c = asks_out _ (sym c.is_seat.ensures ∙ c.if-not-is_seat.true)

pub returns : goal.returns
returns c = asks_seat _ (sym c.is_seat.ensures ∙ c.if-not-is_seat.false) c.store_asked.ensures
