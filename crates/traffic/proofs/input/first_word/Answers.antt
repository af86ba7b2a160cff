use Rattle.std.proofs.Common.{◌∙◌}
use Rattle.traffic.proofs.InputLaws.{one_word, more_words}
use Rattle.traffic.proofs.input.first_word.Goals as goal

pub returns-in-None : goal.returns-in-None
returns-in-None c = one_word _ c.in-None.ensures

pub returns-in-Some : goal.returns-in-Some
returns-in-Some c = c.second_word.ensures ∙ more_words c.in-Some.ensures
