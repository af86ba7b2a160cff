use Rattle.rule_lines.proofs.HoldLaws.{all_cleaned}
use Rattle.rule_lines.proofs.hold.clean.Goals as goal

pub returns : goal.returns
returns c = all_cleaned c.drain.ensures c.give_up.ensures c.drain-2.ensures
