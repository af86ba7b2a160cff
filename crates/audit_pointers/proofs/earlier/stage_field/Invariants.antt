use mathlib.Core.Path.{◌≡◌}
use Prim.Native.Nat.{◌≤◌}
use Rattle.audit_pointers.specs.EarlierFields.{newer, stage_field}
use Rattle.audit_pointers.proofs.earlier.stage_field.Given as goal

abbrev pub invariant-loop-j : goal.invariant-loop-j
invariant-loop-j l = record {
  from : l.from ≤ l.j;
  count : l.j ≤ l.queue.count;
  field : l.w ≡ stage_field l.table (newer l.queue l.j) l.index l.k;
}
