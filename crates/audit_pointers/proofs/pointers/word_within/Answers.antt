use Rattle.std.proofs.Common.{arith}
use Rattle.std.proofs.lemmas.Grind.{common_steps}
use Rattle.machine.specs.Table.{scratch_words}
use Rattle.machine.specs.Words.{is_cell}
use Rattle.audit_cells.proofs.Tests.{index_of}
use Rattle.audit_pointers.specs.PointerCounts.{count_within, word_within}
use Rattle.audit_pointers.proofs.pointers.word_within.Goals as goal

pub overflow_sub-result : goal.overflow_sub-result
unfolding word_within count_within scratch_words is_cell
overflow_sub-result c = grind (arith, common_steps, index_of)

pub bounds-scratch-w : goal.bounds-scratch-w
unfolding word_within count_within scratch_words is_cell
bounds-scratch-w c = grind (arith, common_steps, index_of)

pub returns-then-not-is_cell : goal.returns-then-not-is_cell
unfolding word_within count_within scratch_words is_cell
returns-then-not-is_cell c = grind (arith, common_steps, index_of)

pub returns-else-not-is_cell : goal.returns-else-not-is_cell
unfolding word_within count_within scratch_words is_cell
returns-else-not-is_cell c = grind (arith, common_steps, index_of)
