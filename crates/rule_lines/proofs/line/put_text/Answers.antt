use Rattle.rule_lines.proofs.AnswerLaws.{puts_text}
use Rattle.rule_lines.proofs.line.put_text.Goals as goal

pub returns : goal.returns
returns c = puts_text c.write_text-part.ensures c.put_front.ensures
