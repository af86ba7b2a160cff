use Rattle.base_ten.proofs.ByteLaws.{position_found}
use Rattle.base_ten.proofs.WordLaws.{parts}
use Rattle.base_ten.proofs.bytes.split_once.Goals as goal

pub returns-in_err-at : goal.returns-in_err-at
returns-in_err-at c = rw c.from_residual.ensures (position_found _ _ _ c.in_err-at.ensures)

pub returns : goal.returns
returns c = let f = position_found _ _ _ c.in_ok-at.ensures in parts _ _ _ f.0 f.1
