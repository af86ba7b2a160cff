use Rattle.std.proofs.Common.{arith}
use Rattle.rule_lines.proofs.FeedLaws.{finish_none, finish_line, all_told}
use Rattle.rule_lines.proofs.finish.Goals as goal

pub returns-then-rules-eq0 : goal.returns-then-rules-eq0
returns-then-rules-eq0 c = all_told (finish_none _ _ c.if-rules-eq0.true)

pub returns : goal.returns
returns c =
    let answered = c.answer_held-written in
    all_told (finish_line _ c.if-rules-eq0.false (omega (arith, c.if-out-lt-ROOM.false, answered.auto.out)) answered.ensures)
