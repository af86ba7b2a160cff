use Rattle.calls.proofs.WriteLaws.{taken_first}
use Rattle.calls.proofs.writes.take_first.Goals as goal

pub returns : goal.returns
returns c =
    let i = c.args in
    taken_first i.table.now _ _ c.first_free.result c.field-next.result c.end_without_first-last.result i.x i.y
    c.first_free.ensures
    c.field-next.ensures c.end_without_first-last.ensures c.set_ends.ensures c.set_new.ensures
