use Rattle.roster_changes.proofs.Adding.{adds_none, adds_then}
use Rattle.roster_changes.proofs.add.Goals as goal

pub returns-then-pair-eq0 : goal.returns-then-pair-eq0
returns-then-pair-eq0 c = adds_none c.atom.ensures c.atom-2.ensures c.settle-pair.ensures c.if-pair-eq0.true

pub returns : goal.returns
returns c = adds_then c.atom.ensures c.atom-2.ensures c.settle-pair.ensures c.if-pair-eq0.false c.link.ensures
