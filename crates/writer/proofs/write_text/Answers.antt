use mathlib.Core.Path.{sym}
use lib.Seq.{length-take-le}
use Rattle.writer.proofs.WriteLaws.{part_within, part_text, part_none}
use Rattle.writer.proofs.write_text.Goals as goal

pub slice_bounds-result-end : goal.slice_bounds-result-end
slice_bounds-result-end c =
    let i = c.args in
    let n = c.in-Ok.n in
    sym (length-take-le n _ (part_within i.table.now i.queue i.word i.buffer.now _ n (rw c.in-Ok.is at c.put_text-answer.ensures)))

pub returns-in-Ok : goal.returns-in-Ok
returns-in-Ok c =
    let i = c.args in
    let n = c.in-Ok.n in
    part_text i.table.now i.queue i.word i.buffer.now _ n i.buffer.ref_ptr (rw c.in-Ok.is at c.put_text-answer.ensures)

pub returns-in-Err : goal.returns-in-Err
returns-in-Err c =
    let i = c.args in
    part_none i.table.now i.queue i.word i.buffer.now _ _ i.buffer.ref_ptr (rw c.in-Err.is at c.put_text-answer.ensures)
