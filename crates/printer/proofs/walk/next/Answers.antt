use Rattle.printer.specs.Walk.{rests_of, items_of}
use Rattle.printer.proofs.walk.next.Goals as goal

pub returns-then-depth-eq0 : goal.returns-then-depth-eq0
unfolding items_of rests_of
returns-then-depth-eq0 c = rw (c.if-walk.true, c.if-depth-eq0.true)

pub returns-then-walk : goal.returns-then-walk
unfolding items_of
returns-then-walk c = rw c.if-walk.true c.at_rest.ensures

pub returns : goal.returns
unfolding items_of
returns c = rw c.if-walk.false c.at_element.ensures
