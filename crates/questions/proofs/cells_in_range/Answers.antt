use Rattle.questions.proofs.Rules.{chain}
use Rattle.machine.specs.Questions.{cells_in_range}
use Rattle.questions.proofs.cells_in_range.Goals as goal

pub returns-then-c-ge1 : goal.returns-then-c-ge1
unfolding cells_in_range
returns-then-c-ge1 c = search chain

pub returns-else-c-ge1 : goal.returns-else-c-ge1
unfolding cells_in_range
returns-else-c-ge1 c = search chain
