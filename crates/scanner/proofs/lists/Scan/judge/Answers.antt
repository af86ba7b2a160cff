use Rattle.std.proofs.Common.{ap}
use Rattle.scanner.specs.Modes.{digit}
use Rattle.scanner.proofs.ScanLaws.{not_full, still_open, no_datum, is_deep, is_shallow}
use Rattle.scanner.proofs.lists.Scan.judge.Goals as goal

pub returns-then-self-ne0 : goal.returns-then-self-ne0
returns-then-self-ne0 c = λ text words x end. still_open text words _ x end c.if-self-ne0.true

pub returns-in_default : goal.returns-in_default
returns-in_default c = λ text words x end. no_datum text words _ x end (not_full _ c.in_default.not-Full)

pub returns-then-self : goal.returns-then-self
returns-then-self c = λ text words x end. is_deep text words _ x end c.if-self-ne0.false (ap digit c.in-Full.is) c.if-self.true

pub returns : goal.returns
returns c = λ text words x end. is_shallow text words _ x end c.if-self-ne0.false (ap digit c.in-Full.is) c.if-self.false
