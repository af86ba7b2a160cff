use Rattle.load_lines.proofs.WriteLaws.{later_call}
use Rattle.load_lines.proofs.lines.next_call.Goals as goal

pub returns-then-done-eq0 : goal.returns-then-done-eq0
returns-then-done-eq0 c = rw c.if-done-eq0.true

pub returns : goal.returns
returns c = later_call _ _ _ c.if-done-eq0.false c.draw_call.ensures
