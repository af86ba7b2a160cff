use Rattle.rules.proofs.ThreadingLaws.{serves_listed}
use Rattle.rules.proofs.run.Goals as goal

pub returns : goal.returns
returns g c = record {
  serves = c.serve-ended.ensures;
  listed = serves_listed c.serve-ended.result c.requires.begins c.serve-ended.ensures;
}
