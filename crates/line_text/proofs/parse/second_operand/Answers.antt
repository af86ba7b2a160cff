use Rattle.std.proofs.Common.{◌∙◌}
use Rattle.line_text.proofs.RequestLaws.{both_words, too_many_lem}
use Rattle.line_text.proofs.parse.second_operand.Goals as goal

pub returns-in-None : goal.returns-in-None
returns-in-None c = c.if_both.ensures ∙ both_words _ _ _ c.operand.ensures c.operand-in-None.ensures c.in-None.ensures

pub returns-in-Some : goal.returns-in-Some
returns-in-Some c = too_many_lem _ _ c.in-Some.ensures
