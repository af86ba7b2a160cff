use borrow.Author.Rules.{rules}
use mathlib.Core.Path.{◌≡◌}
use Rattle.std.specs.Prelude.{Err}
use Rattle.roster_list.proofs.Asking.{scratch_no, scratch_done}
use Rattle.roster_list.proofs.ask.scratch_asked.Goals as goal

pub returns-in_err-answer : goal.returns-in_err-answer
returns-in_err-answer c =
    let r = c.in_err-answer.field-0.0 in
    let same : c.from_residual.result ≡ Err r = search rules in
    rw same (scratch_no (rw (c.empty.ensures, c.in_err-answer.was) at c.step-stepped.ensures))

pub returns : goal.returns
returns c = scratch_done c.in_ok-answer.was (rw c.empty.ensures at c.step-stepped.ensures)
