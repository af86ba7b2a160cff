use Rattle.roster_changes.proofs.Changing.{reads_out}
use Rattle.roster_changes.proofs.read_out.Goals as goal

pub returns : goal.returns
returns c = reads_out c.entry_word-reading.ensures c.value_of.ensures c.settle.ensures
