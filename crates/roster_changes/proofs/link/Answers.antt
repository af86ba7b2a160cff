use Rattle.roster_changes.proofs.Adding.{links_done, links_refused}
use Rattle.roster_changes.proofs.link.Goals as goal

pub returns-then-first-eq0 : goal.returns-then-first-eq0
returns-then-first-eq0 c = links_refused c.settle-first.ensures c.if-first-eq0.true c.settle.ensures

pub returns : goal.returns
returns c = links_done c.settle-first.ensures c.if-first-eq0.false
