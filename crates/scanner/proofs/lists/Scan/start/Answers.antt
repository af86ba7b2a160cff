use Rattle.scanner.proofs.ScanLaws.{started}
use Rattle.scanner.proofs.lists.Scan.start.Goals as goal

pub returns : goal.returns
returns c = λ text words short stacked. started text words short stacked
