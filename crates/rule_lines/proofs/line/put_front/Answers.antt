use Rattle.rule_lines.proofs.AnswerLaws.{put_shortened}
use Rattle.rule_lines.proofs.line.put_front.Goals as goal

pub returns : goal.returns
returns c = put_shortened c.args.part.now c.min-size.ensures c.put_word.ensures
