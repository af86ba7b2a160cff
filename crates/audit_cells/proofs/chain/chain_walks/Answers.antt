use mathlib.Core.Path.{ap, ◌≡◌, sym, ◌∙◌}
use mathlib.Core.List.{[]}
use native.Mathlib.Omega.{arith}
use lib.Dec.{eqb}
use borrow.Author.Tests.{ne_eqb}
use Rattle.machine.proofs.Range.{not_both, refuted}
use Rattle.audit_cells.specs.FreeChain.{free_cells}
use Rattle.audit_cells.proofs.FreeChain.{walk_ends, walked_none, walked_more, free_cell_lem, walk_next, walk_stops}
use Rattle.audit_cells.proofs.chain.chain_walks.Goals as goal

pub loop-init : goal.loop-init
loop-init c = ([], rw c.first_free-w.ensures (walked_none _))

pub returns-then-not-is_free_cell : goal.returns-then-not-is_free_cell
returns-then-not-is_free_cell c =
    sym (refuted _ (λ h. not_both (walk_next _ h _ _ _ _ c.loop.invariant.1 (omega arith)) (sym c.is_free_cell.ensures ∙ c.if-not-is_free_cell.true)))

pub overflow_sub-w : goal.overflow_sub-w
overflow_sub-w c = let f = free_cell_lem _ _ (sym c.is_free_cell.ensures ∙ c.if-not-is_free_cell.false) in omega arith

pub field-w-requires : goal.field-w-requires
field-w-requires c = let f = free_cell_lem _ _ (sym c.is_free_cell.ensures ∙ c.if-not-is_free_cell.false) in omega arith

pub loop-preserved : goal.loop-preserved
loop-preserved c = (_, walked_more _ _ _ _ _ _ c.loop.invariant.1 (sym c.is_free_cell.ensures ∙ c.if-not-is_free_cell.false) c.field-w.ensures)

pub returns-then-w-eq0 : goal.returns-then-w-eq0
returns-then-w-eq0 c =
    let t = c.args.table.now in
    let l = c.loop in
    let e : l.counter ≡ free_cells t = omega arith in
    ap (eqb l.last) c.last_free.ensures ∙ walk_ends t l.w l.last l.invariant.0 (rw e at l.invariant.1) c.if-w-eq0.true c.requires.1

pub returns-else-w-eq0 : goal.returns-else-w-eq0
returns-else-w-eq0 c =
    ne_eqb _ _ c.if-w-eq0.false ∙ sym (refuted _ (λ h. c.if-w-eq0.false (walk_stops _ h _ _ _ _ c.loop.invariant.1 (omega arith)).0))
