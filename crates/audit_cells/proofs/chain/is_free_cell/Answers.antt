use Rattle.std.proofs.Common.{arith}
use Rattle.std.proofs.lemmas.Grind.{common_steps}
use Rattle.audit_cells.specs.FreeChain.{is_free_cell}
use Rattle.machine.specs.Table.{is_free}
use Rattle.machine.specs.Words.{is_cell}
use Rattle.audit_cells.proofs.Tests.{index_of}
use Rattle.audit_cells.proofs.chain.is_free_cell.Goals as goal

pub overflow_sub-w : goal.overflow_sub-w
unfolding is_free_cell is_free is_cell
overflow_sub-w c = grind (arith, common_steps, index_of)

pub in_use-requires : goal.in_use-requires
unfolding is_free_cell is_free is_cell
in_use-requires c = grind (arith, common_steps, index_of)

pub returns-then-is_cell : goal.returns-then-is_cell
unfolding is_free_cell is_free is_cell
returns-then-is_cell c = grind (arith, common_steps, index_of)

pub returns-else-is_cell : goal.returns-else-is_cell
unfolding is_free_cell is_free is_cell
returns-else-is_cell c = grind (arith, common_steps, index_of)
