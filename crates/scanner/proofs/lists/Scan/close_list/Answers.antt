use Rattle.std.proofs.Common.{ap}
use Rattle.scanner.specs.Modes.{digit}
use Rattle.scanner.proofs.ScanLaws.{not_dotted, closes_none, closes_dotted, closes}
use Rattle.scanner.proofs.lists.Scan.close_list.Goals as goal

pub returns-then-self-eq0 : goal.returns-then-self-eq0
returns-then-self-eq0 c = λ text x. closes_none text _ _ x c.if-self-eq0.true

pub returns-in-Dotted : goal.returns-in-Dotted
returns-in-Dotted c = λ text x. closes_dotted text _ _ x (ap digit c.in-Dotted.is)

pub returns : goal.returns
returns c =
    λ text x. closes text _ _ x _ _ c.if-self-eq0.false (not_dotted _ c.in_default.not-Dotted) c.pop.ensures (c.deliver.ensures text _)
