use Rattle.std.proofs.Common.{rules, refl}
use Rattle.machine.specs.Table.{scratch_words}
use Rattle.rules.proofs.Answering.start.Goals as goal

pub returns : goal.returns
unfolding scratch_words
returns c = record { handed = _; long = search rules; starts = c.start-rules.ensures; lent = search rules; kept = refl }
