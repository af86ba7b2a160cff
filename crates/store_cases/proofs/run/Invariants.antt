use Rattle.std.proofs.Common.{length}
use Rattle.store_cases.proofs.run.Given as goal

abbrev pub decreases-loop-letter : goal.decreases-loop-letter
decreases-loop-letter g l = length l.rest
