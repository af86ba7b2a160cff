use Rattle.collector.proofs.FreedCells.{prepend_none, prepend_some}
use Rattle.collector.proofs.freeing.prepend.Goals as goal

pub returns-then-first-eq0 : goal.returns-then-first-eq0
returns-then-first-eq0 c =
    let i = c.args in
    prepend_none i.table.now i.index _ c.first_free-first.ensures _ (rw c.from.ensures at c.set_free.ensures) c.if-first-eq0.true _
    c.set_ends.ensures

pub returns-else-first-eq0 : goal.returns-else-first-eq0
returns-else-first-eq0 c =
    let i = c.args in
    prepend_some i.table.now i.index _ c.first_free-first.ensures _ (rw c.from.ensures at c.set_free.ensures) c.if-first-eq0.false _
    c.last_free-last.ensures _ c.set_ends-else-first-eq0.ensures
