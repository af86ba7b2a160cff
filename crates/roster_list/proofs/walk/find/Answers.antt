use Rattle.roster_list.proofs.Walking.{find_none, find_from}
use Rattle.roster_list.proofs.walk.find.Goals as goal

pub returns-then-word-eq0 : goal.returns-then-word-eq0
returns-then-word-eq0 c = find_none c.if-word-eq0.true c.audit.ensures

pub returns : goal.returns
returns c = find_from c.if-word-eq0.false c.settle.ensures c.seek.ensures
