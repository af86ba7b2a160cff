use mathlib.Core.Path.{refl, sym, ◌∙◌}
use Prim.Native.Nat.{◌-◌}
use native.Mathlib.Omega.{arith}
use Rattle.scratch_counts.proofs.Counts.{cell_bounds, cell_place, up_none, up_here}
use Rattle.scratch_counts.proofs.raise.Goals as goal

pub overflow_sub-index : goal.overflow_sub-index
overflow_sub-index c = let b = cell_bounds c.args.c c.args.w c.is_cell.ensures c.if-is_cell.true in omega arith

pub bounds-scratch-index : goal.bounds-scratch-index
bounds-scratch-index c = cell_place c.args.c c.args.w _ c.is_cell.ensures c.if-is_cell.true c.requires.0

pub overflow_add-scratch : goal.overflow_add-scratch
overflow_add-scratch c =
    let b = cell_bounds c.args.c c.args.w c.is_cell.ensures c.if-is_cell.true in
    let h = c.requires.1 (c.args.w - 1) (omega arith) in omega arith

pub bounds-scratch-index-then-is_cell : goal.bounds-scratch-index-then-is_cell
bounds-scratch-index-then-is_cell c = cell_place c.args.c c.args.w _ c.is_cell.ensures c.if-is_cell.true c.requires.0

pub returns-then-is_cell : goal.returns-then-is_cell
returns-then-is_cell c =
    let b = cell_bounds c.args.c c.args.w c.is_cell.ensures c.if-is_cell.true in
    up_here c.args.c c.args.w _ c.args.scratch.now b.0 b.1 c.requires.0 refl

pub returns-else-is_cell : goal.returns-else-is_cell
returns-else-is_cell c = up_none _ _ _ (sym c.is_cell.ensures ∙ c.if-is_cell.false)
