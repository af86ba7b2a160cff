use Rattle.roster_changes.proofs.Changing.{drops_first}
use Rattle.roster_changes.proofs.drop_first.Goals as goal

pub returns : goal.returns
returns c = drops_first c.settle-next.ensures c.settle.ensures
