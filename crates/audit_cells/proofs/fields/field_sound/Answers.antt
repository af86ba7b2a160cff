use Rattle.std.proofs.Common.{arith}
use Rattle.std.proofs.lemmas.Grind.{common_steps}
use Rattle.machine.specs.Audit.{field_sound}
use Rattle.machine.specs.Words.{is_nil, is_atom, is_cell}
use Rattle.audit_cells.proofs.Tests.{index_of}
use Rattle.audit_cells.proofs.fields.field_sound.Goals as goal

pub in_use-requires : goal.in_use-requires
unfolding field_sound is_nil is_atom is_cell
in_use-requires c = grind (arith, common_steps, index_of)

pub returns-then-w-ge-FIRST_ATOM : goal.returns-then-w-ge-FIRST_ATOM
unfolding field_sound is_nil is_atom is_cell
returns-then-w-ge-FIRST_ATOM c = grind (arith, common_steps, index_of)

pub returns-then-is_cell : goal.returns-then-is_cell
unfolding field_sound is_nil is_atom is_cell
returns-then-is_cell c = grind (arith, common_steps, index_of)

pub returns-else-is_cell : goal.returns-else-is_cell
unfolding field_sound is_nil is_atom is_cell
returns-else-is_cell c = grind (arith, common_steps, index_of)
