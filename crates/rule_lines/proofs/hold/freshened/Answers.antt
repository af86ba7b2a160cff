use Rattle.rule_lines.proofs.HoldLaws.{fresh_cleans}
use Rattle.rule_lines.proofs.hold.freshened.Goals as goal

pub returns : goal.returns
returns c = fresh_cleans c.fresh.ensures
