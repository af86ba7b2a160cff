use Rattle.roster_list.proofs.Turning.{weighs}
use Rattle.roster_list.proofs.tally.weigh.Goals as goal

pub returns : goal.returns
returns c = weighs c.entry_word-reading.ensures c.weight_of-weight.ensures c.settle-next.ensures
