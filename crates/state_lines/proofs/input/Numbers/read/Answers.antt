use Rattle.state_lines.proofs.LineLaws.{behind_line}
use Rattle.state_lines.proofs.input.Numbers.read.Goals as goal

pub returns-then-b-eq10 : goal.returns-then-b-eq10
returns-then-b-eq10 c =
    behind_line c.args.input.now c.in_ok-letter.rest.now c.in_ok-letter.letter.now c.loop-i.i c.in_ok-letter.ensures.cases.0 c.loop-i-test.true
