use Rattle.rule_lines.proofs.AnswerLaws.{answers_kept}
use Rattle.rule_lines.proofs.line.answer_held.Goals as goal

pub returns : goal.returns
returns c = answers_kept c.keep-size.ensures c.answer_line-2.ensures
