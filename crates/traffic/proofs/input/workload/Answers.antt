use Rattle.std.proofs.Common.{◌∙◌}
use Rattle.traffic.proofs.InputLaws.{whole_line, more_lines, fed_line}
use Rattle.traffic.proofs.input.workload.Goals as goal

pub returns-in_default : goal.returns-in_default
returns-in_default c = c.first_word.ensures ∙ whole_line _ c.in_default.ensures

pub returns-then-rest-gt0 : goal.returns-then-rest-gt0
returns-then-rest-gt0 c = more_lines c.in-Some.ensures c.if-rest-gt0.true

pub returns : goal.returns
returns c = c.first_word-2.ensures ∙ fed_line _ c.in-Some.ensures c.if-rest-gt0.false
