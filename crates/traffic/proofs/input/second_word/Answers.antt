use Rattle.std.proofs.Common.{◌∙◌}
use Rattle.traffic.proofs.InputLaws.{two_words, more_words_after}
use Rattle.traffic.proofs.input.second_word.Goals as goal

pub returns-in-None : goal.returns-in-None
returns-in-None c = two_words _ c.in-None.ensures _

pub returns-in-Some : goal.returns-in-Some
returns-in-Some c = c.third_word.ensures ∙ more_words_after c.in-Some.ensures _
