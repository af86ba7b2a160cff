use Rattle.roster_changes.proofs.Changing.{relinks}
use Rattle.roster_changes.proofs.relink.Goals as goal

pub returns : goal.returns
returns c = relinks c.settle.ensures c.settle-2.ensures
