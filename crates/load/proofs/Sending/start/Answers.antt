use Rattle.machine.specs.Table.{scratch_words}
use Rattle.load.proofs.Sending.start.Goals as goal

-- table and scratch are those of a load that begins, by their lengths
pub returns : goal.returns
unfolding scratch_words
returns c = rw c.start.ensures
