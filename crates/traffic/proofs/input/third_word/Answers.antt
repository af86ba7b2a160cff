use Rattle.std.proofs.Common.{◌∙◌}
use Rattle.traffic.proofs.InputLaws.{three_words, four_words}
use Rattle.traffic.proofs.input.third_word.Goals as goal

pub returns-in-None : goal.returns-in-None
returns-in-None c = c.run.ensures ∙ three_words _ c.in-None.ensures _ _

pub returns-in-Some : goal.returns-in-Some
returns-in-Some c = four_words c.in-Some.ensures _ _
