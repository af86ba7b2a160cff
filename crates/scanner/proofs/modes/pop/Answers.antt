use Rattle.scanner.proofs.ModeLaws.{pops}
use Rattle.scanner.proofs.modes.pop.Goals as goal

pub returns : goal.returns
returns c = rw c.of_digit.ensures (pops _ _ c.requires.2 c.requires.0)
