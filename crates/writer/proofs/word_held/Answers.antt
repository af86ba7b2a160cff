use Rattle.machine.specs.Queue.{waiting}
use Rattle.writer.proofs.FrontLaws.{held_cell, held_other}
use Rattle.writer.proofs.word_held.Goals as goal

pub returns : goal.returns
returns c =
    let i = c.args in
    let s = c.waiting_changes-s.ensures.sums.held in
    let with = c.with.ensures in
    held_cell i.table.now (waiting i.queue.now) i.word _ _ _ _ _ _ c.in-Some.ensures c.count.ensures s.raised s.lowered with.raised with.lowered c.at_least.ensures

pub returns-in_default : goal.returns-in_default
returns-in_default c =
    let i = c.args in
    held_other i.table.now (waiting i.queue.now) i.word c.in_default.ensures
