use mathlib.Core.Path.{sym, ◌∙◌}
use native.Mathlib.Omega.{arith}
use Rattle.scratch_counts.proofs.Counts.{cell_bounds, cell_place, down_none, down_here}
use Rattle.scratch_counts.proofs.lower.Goals as goal

pub overflow_sub-index : goal.overflow_sub-index
overflow_sub-index c = let b = cell_bounds c.args.c c.args.w c.is_cell.ensures c.if-is_cell.true in omega arith

pub bounds-scratch-index : goal.bounds-scratch-index
bounds-scratch-index c = cell_place c.args.c c.args.w _ c.is_cell.ensures c.if-is_cell.true c.requires

pub bounds-scratch-index-then-is_cell : goal.bounds-scratch-index-then-is_cell
bounds-scratch-index-then-is_cell c = cell_place c.args.c c.args.w _ c.is_cell.ensures c.if-is_cell.true c.requires

pub returns-then-is_cell : goal.returns-then-is_cell
returns-then-is_cell c =
    let b = cell_bounds c.args.c c.args.w c.is_cell.ensures c.if-is_cell.true in
    down_here c.args.c c.args.w _ c.args.scratch.now b.0 b.1 c.requires (omega arith)

pub returns-else-is_cell : goal.returns-else-is_cell
returns-else-is_cell c = down_none _ _ _ (sym c.is_cell.ensures ∙ c.if-is_cell.false)
