use Rattle.machine.specs.Table.{scratch_words}
use Rattle.session.proofs.Serving.start.Goals as goal

-- table and scratch are those of an empty session, by their lengths
pub returns : goal.returns
unfolding scratch_words
returns c = rw c.start.ensures
