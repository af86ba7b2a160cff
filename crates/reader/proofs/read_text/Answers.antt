use Rattle.reader.proofs.CalledLaws.{readable, read_refused, read_done_lem}
use Rattle.reader.proofs.read_text.Goals as goal

pub build-built-requires : goal.build-built-requires
build-built-requires c =
    let i = c.args in
    readable i.table.now i.queue i.text.now c.text_asked.result c.text_asked.ensures c.in-Ok.is

pub returns-in-Err : goal.returns-in-Err
returns-in-Err c =
    let i = c.args in
    read_refused i.table.now i.queue i.text.now c.text_asked.result _ c.text_asked.ensures c.in-Err.is

pub returns-in-Ok : goal.returns-in-Ok
returns-in-Ok c =
    let i = c.args in
    read_done_lem i.table.now i.queue i.text.now c.text_asked.result c.text_asked.ensures c.in-Ok.is _ _ _ c.build-built.ensures
