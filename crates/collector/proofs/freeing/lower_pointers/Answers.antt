use Rattle.collector.proofs.FreedCells.{lower_is}
use Rattle.collector.proofs.freeing.lower_pointers.Goals as goal

pub returns : goal.returns
returns c =
    let i = c.args in
    let left = rw c.from-place.ensures at c.field-left.ensures in
    let right = rw c.from-place.ensures at c.field-right.ensures in
    lower_is i.table.now i.index _ _ left right _ _ c.down.ensures c.down-2.ensures
