use Rattle.rule_lines.proofs.AnswerLaws.{answers_no, answers_text}
use Rattle.rule_lines.proofs.line.answer.Goals as goal

pub returns-in-Err : goal.returns-in-Err
returns-in-Err c = answers_no (rw (c.in-Err.is, ← c.number.ensures) at c.read_text-reply.ensures) c.put_counted.ensures

pub returns-in-Ok : goal.returns-in-Ok
returns-in-Ok c = answers_text (rw c.in-Ok.is at c.read_text-reply.ensures) c.put_text-end.ensures c.clean.ensures
