use Rattle.calls.proofs.LateLaws.{cons_asked}
use Rattle.calls.proofs.late.cons_late.Goals as goal

pub returns : goal.returns
returns c z =
    let i = c.args in
    let q = i.queue.now in
    let x = c.tally_of-tx in
    let y = c.tally_of-ty in
    let same = c.matched-same in
    let first = c.first_free in
    cons_asked i.table.now q i.x i.y x.result y.result same.result first.result _
    x.ensures.0 y.ensures.0 same.ensures.0 first.ensures c.cons_tests.ensures z
