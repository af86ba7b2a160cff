use mathlib.Core.Path.{◌≡◌}
use mathlib.Core.Bool.{true}
use Rattle.machine.specs.Audit.{cell_sound}
use Rattle.machine.specs.Range.{every}
use Rattle.audit_cells.specs.Cells.{counts_sound, field_holds}
use Rattle.audit_cells.proofs.fields.cells_sound.Given as goal

abbrev pub invariant-loop-k : goal.invariant-loop-k
invariant-loop-k l = record {
  sound : l.sound ≡ true;
  counts : counts_sound l.table l.index ≡ true;
  fields : every l.k-index (field_holds l.table l.index) ≡ true;
}

abbrev pub invariant-cells : goal.invariant-cells
invariant-cells l = record { sound : l.sound ≡ true; cells : every l.index (cell_sound l.table) ≡ true }
