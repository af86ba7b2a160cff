use borrow.Author.Rules.{rules}
use mathlib.Core.Path.{◌≡◌}
use Rattle.std.specs.Prelude.{Err}
use Rattle.writer.proofs.FrontLaws.{front_room}
use Rattle.writer.proofs.WriteLaws.{puts_refused, puts_measured}
use Rattle.writer.proofs.put_text.Goals as goal

pub put_text-requires : goal.put_text-requires
put_text-requires c =
    let i = c.args in
    front_room i.table.now i.queue i.word (rw c.in_ok-asked.was at c.asked.ensures)

pub returns-in_err-asked : goal.returns-in_err-asked
returns-in_err-asked c =
    let i = c.args in
    let r = c.in_err-asked.field-0.0 in
    let same : c.from_residual.result ≡ Err r = search rules in
    rw same (puts_refused i.table.now i.queue i.word i.buffer.now r (rw c.in_err-asked.was at c.asked.ensures))

pub returns : goal.returns
returns c =
    let i = c.args in
    rw c.answer_of.ensures
    (puts_measured i.table.now i.queue i.word i.buffer.now _ _ (rw c.in_ok-asked.was at c.asked.ensures) c.put_text.ensures)
