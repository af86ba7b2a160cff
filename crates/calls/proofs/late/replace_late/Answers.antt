use Rattle.calls.proofs.LateLaws.{replace_either}
use Rattle.calls.proofs.late.replace_late.Goals as goal

pub returns : goal.returns
returns c kind h =
    let i = c.args in
    let q = i.queue.now in
    let y = c.tally_of-ty in
    let x = c.tally_of-tx in
    let same = c.matched-same in
    let kept = c.matched in
    replace_either i.table.now q i.y i.d i.x y.result x.result same.result kept.result _
    y.ensures.0 x.ensures.0 same.ensures.0 kept.ensures.0 c.replace_tests.ensures kind h
