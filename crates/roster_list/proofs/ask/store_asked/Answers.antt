use borrow.Author.Rules.{rules}
use mathlib.Core.Path.{◌≡◌}
use Rattle.std.specs.Prelude.{Err}
use Rattle.roster_list.proofs.Asking.{asks_no, asks_then}
use Rattle.roster_list.proofs.ask.store_asked.Goals as goal

pub returns-in_err-read : goal.returns-in_err-read
returns-in_err-read c =
    let r = c.in_err-read.field-0.0 in
    let same : c.from_residual.result ≡ Err r = search rules in
    rw same (asks_no _ (rw c.in_err-read.was at c.car-reply.ensures))

pub returns : goal.returns
returns c = asks_then (rw c.in_ok-read.was at c.car-reply.ensures) c.scratch_asked.ensures
