use Rattle.std.proofs.Common.{ap, add-zero, arith}
use Rattle.scanner.specs.Modes.{digit}
use Rattle.scanner.proofs.ScanLaws.{not_dotted, not_full, deliver_full, deliver_behind, deliver_element}
use Rattle.scanner.proofs.lists.Scan.deliver.Goals as goal

pub returns-in-Full : goal.returns-in-Full
returns-in-Full c = λ text words t x. deliver_full text words _ t x (ap digit c.in-Full.is)

pub returns-in-Dotted : goal.returns-in-Dotted
returns-in-Dotted c = λ text words t x. (rw (add-zero c.args.self.pairs) at (deliver_behind text words c.args.self t x (ap digit c.in-Dotted.is)), omega arith)

pub returns-in_default : goal.returns-in_default
returns-in_default c =
    λ text words t x. (deliver_element text words _ t x (not_full _ c.in_default.not-Full) (not_dotted _ c.in_default.not-Dotted), omega arith)
