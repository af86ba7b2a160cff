use borrow.Author.Rules.{rules}
use mathlib.Core.Path.{◌≡◌, refl}
use Rattle.std.specs.Prelude.{Err}
use Rattle.roster.proofs.PromiseLaws.{refused_then, past_then}
use Rattle.roster.proofs.in_place.set.Goals as goal

pub returns-in_err-set_asked : goal.returns-in_err-set_asked
returns-in_err-set_asked c =
    let r = c.in_err-set_asked.field-0.0 in
    let same : c.from_residual.result ≡ Err r = search rules in
    rw same (refused_then refl _ (rw c.in_err-set_asked.was at c.set_asked.ensures))

pub returns : goal.returns
returns c = past_then refl (rw c.in_ok-set_asked.was at c.set_asked.ensures) c.seat_set.ensures
