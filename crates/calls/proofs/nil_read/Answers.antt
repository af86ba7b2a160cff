use mathlib.Core.Path.{sym, ◌∙◌}
use Rattle.calls.proofs.RowLaws.{nil_refused, nil_done}
use Rattle.calls.proofs.nil_read.Goals as goal

pub returns-then-in_range : goal.returns-then-in_range
returns-then-in_range c r n =
    let i = c.args in
    nil_done i.table.now i.queue r n (sym c.in_range.ensures ∙ c.if-in_range.true)

pub returns : goal.returns
returns c r n =
    let i = c.args in
    let reply = c.refused in
    nil_refused i.table.now i.queue r n reply.result.answer reply.result.queue
    (sym c.in_range.ensures ∙ c.if-in_range.false) reply.ensures.0 reply.ensures.1
