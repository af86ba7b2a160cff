use borrow.Author.Rules.{rules}
use Rattle.machine.specs.Questions.{slot_empty}
use Rattle.questions.proofs.slot_empty.Goals as goal

pub returns : goal.returns
unfolding slot_empty
returns c = search rules
