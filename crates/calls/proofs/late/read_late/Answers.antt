use Rattle.calls.proofs.LateLaws.{read_asked}
use Rattle.calls.proofs.late.read_late.Goals as goal

pub returns : goal.returns
returns c z =
    let i = c.args in
    let q = i.queue.now in
    read_asked i.table.now q i.x i.w c.tally_of-tx.result c.tally_of-tw.result c.matched.result _
    c.requires.1 c.tally_of-tx.ensures.0 c.tally_of-tw.ensures.0 c.matched.ensures.0 c.read_tests.ensures z
