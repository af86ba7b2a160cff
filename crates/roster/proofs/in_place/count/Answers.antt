use borrow.Author.Rules.{rules}
use mathlib.Core.Path.{◌≡◌}
use Rattle.std.specs.Prelude.{Err}
use Rattle.roster.proofs.PromiseLaws.{count_asks, refused_then, past_then}
use Rattle.roster.proofs.in_place.count.Goals as goal

pub returns-in_err-store_asked : goal.returns-in_err-store_asked
returns-in_err-store_asked c =
    let r = c.in_err-store_asked.field-0.0 in
    let same : c.from_residual.result ≡ Err r = search rules in
    rw same (refused_then (count_asks _ _) _ (rw c.in_err-store_asked.was at c.store_asked.ensures))

pub returns : goal.returns
returns c = past_then (count_asks _ _) (rw c.in_ok-store_asked.was at c.store_asked.ensures) c.seats_counted.ensures
