use Rattle.roster_list.proofs.Walking.{count_none, count_from}
use Rattle.roster_list.proofs.tally.count.Goals as goal

pub returns-then-word-eq0 : goal.returns-then-word-eq0
returns-then-word-eq0 c = count_none c.if-word-eq0.true c.audit.ensures

pub returns : goal.returns
returns c = count_from c.if-word-eq0.false c.settle.ensures c.tally.ensures
