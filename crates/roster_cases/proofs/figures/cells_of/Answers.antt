use Rattle.std.proofs.Common.{arith, sym, ◌∙◌}
use Rattle.roster_cases.proofs.FigureLaws.{cells_none, cells_all}
use Rattle.roster_cases.proofs.figures.cells_of.Goals as goal

pub returns-then-table-words_for : goal.returns-then-table-words_for
returns-then-table-words_for c = sym (cells_none _ (omega arith))

pub returns-then-table-words_for-2 : goal.returns-then-table-words_for-2
returns-then-table-words_for-2 c = sym (cells_none _ (omega arith))

pub returns : goal.returns
returns c = c.capacity_of-c.ensures ∙ sym (cells_all _ (omega arith))
