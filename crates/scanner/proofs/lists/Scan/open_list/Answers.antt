use Rattle.std.proofs.Common.{refl, arith}
use Rattle.scanner.proofs.ScanLaws.{too_many_lem, opens}
use Rattle.scanner.proofs.lists.Scan.open_list.Goals as goal

pub returns-then-self-eq-MOST : goal.returns-then-self-eq-MOST
returns-then-self-eq-MOST c = λ text x. too_many_lem text _ _ x c.if-self-eq-MOST.true

pub returns-then-self : goal.returns-then-self
returns-then-self c = λ text x. (opens text _ _ x _ _ c.if-self-eq-MOST.false c.push.ensures (rw c.if-self.true refl), omega arith)

pub returns-else-self : goal.returns-else-self
returns-else-self c = λ text x. (opens text _ _ x _ _ c.if-self-eq-MOST.false c.push.ensures (rw c.if-self.false refl), omega arith)
