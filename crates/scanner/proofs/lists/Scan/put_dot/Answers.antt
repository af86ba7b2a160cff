use Rattle.std.proofs.Common.{ap, add-zero, arith}
use Rattle.scanner.specs.Modes.{digit}
use Rattle.scanner.proofs.ScanLaws.{not_started, dot_outside, dot_taken}
use Rattle.scanner.proofs.lists.Scan.put_dot.Goals as goal

pub returns-in-Started : goal.returns-in-Started
returns-in-Started c = λ text words x. (rw (add-zero c.args.self.pairs) at (dot_taken text words c.args.self x (ap digit c.in-Started.is)), omega arith)

pub returns-in_default : goal.returns-in_default
returns-in_default c = λ text words x. dot_outside text words _ x (not_started _ c.in_default.not-Started)
