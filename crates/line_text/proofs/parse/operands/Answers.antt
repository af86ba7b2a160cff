use Rattle.std.proofs.Common.{◌∙◌}
use Rattle.line_text.proofs.RequestLaws.{one_word, more_words}
use Rattle.line_text.proofs.parse.operands.Goals as goal

pub returns-in-None : goal.returns-in-None
returns-in-None c = c.if_one.ensures ∙ one_word _ _ c.operand.ensures c.in-None.ensures

pub returns-in-Some : goal.returns-in-Some
returns-in-Some c = c.second_operand.ensures ∙ more_words _ c.in-Some.ensures
