use Rattle.questions.proofs.Rules.{chain}
use Rattle.machine.specs.Words.{is_cell}
use Rattle.questions.proofs.is_cell.Goals as goal

pub returns-then-w-ge1 : goal.returns-then-w-ge1
unfolding is_cell
returns-then-w-ge1 c = search chain

pub returns-else-w-ge1 : goal.returns-else-w-ge1
unfolding is_cell
returns-else-w-ge1 c = search chain
