use Rattle.questions.proofs.Rules.{chain}
use Rattle.machine.specs.Questions.{number_in_range}
use Rattle.questions.proofs.number_in_range.Goals as goal

pub returns-then-n-ge1 : goal.returns-then-n-ge1
unfolding number_in_range
returns-then-n-ge1 c = search chain

pub returns-else-n-ge1 : goal.returns-else-n-ge1
unfolding number_in_range
returns-else-n-ge1 c = search chain
