use mathlib.Core.Path.{sym, ◌∙◌}
use native.Mathlib.Omega.{arith}
use Rattle.audit_pointers.specs.PointerCounts.{most_pointers}
use Rattle.scratch_counts.proofs.Counts.{below_more}
use Rattle.audit_pointers.proofs.PointerCounts.{cell_counted, cell_free_lem}
use Rattle.audit_pointers.proofs.pointers.count_cell.Goals as goal

pub raise-requires : goal.raise-requires
raise-requires c =
    (omega arith, λ i l. omega (arith, c.requires.4 i l))

pub raise-requires-then-in_use : goal.raise-requires-then-in_use
raise-requires-then-in_use c =
    let i = c.args in
    let r = c.raise in
    let few = below_more i.c _ most_pointers i.scratch.now r.new.scratch c.requires.4 r.ensures in
    (omega (arith, r.auto.scratch), λ k l. omega (arith, few k l))

pub returns-then-in_use : goal.returns-then-in_use
returns-then-in_use c =
    let used = sym c.in_use.ensures ∙ c.if-in_use.true in
    cell_counted _ _ _ _ _ _ _ _ c.requires.1 used c.field.ensures c.field-then-in_use.ensures c.raise.ensures
    c.raise-then-in_use.ensures

pub returns-else-in_use : goal.returns-else-in_use
returns-else-in_use c = cell_free_lem _ _ _ (sym c.in_use.ensures ∙ c.if-in_use.false)
