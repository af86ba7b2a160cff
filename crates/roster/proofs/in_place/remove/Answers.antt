use borrow.Author.Rules.{rules}
use mathlib.Core.Path.{◌≡◌}
use Rattle.std.specs.Prelude.{Err}
use Rattle.roster.proofs.PromiseLaws.{remove_asks, refused_then, past_then}
use Rattle.roster.proofs.in_place.remove.Goals as goal

pub returns-in_err-seat_asked : goal.returns-in_err-seat_asked
returns-in_err-seat_asked c =
    let r = c.in_err-seat_asked.field-0.0 in
    let same : c.from_residual.result ≡ Err r = search rules in
    rw same (refused_then (remove_asks _ _) _ (rw c.in_err-seat_asked.was at c.seat_asked.ensures))

pub returns : goal.returns
returns c = past_then (remove_asks _ _) (rw c.in_ok-seat_asked.was at c.seat_asked.ensures) c.seat_removed.ensures
