use native.Mathlib.Omega.{arith}
use Rattle.counts.proofs.Cells.{told, bounds}
use Rattle.counts.proofs.cell_index.Goals as goal

pub overflow_sub-result : goal.overflow_sub-result
overflow_sub-result c = let b = bounds _ _ (told _ c.capacity_of.ensures c.is_cell.ensures c.if-is_cell.true) in omega arith

pub returns-then-is_cell : goal.returns-then-is_cell
returns-then-is_cell c =
    let h = told _ c.capacity_of.ensures c.is_cell.ensures c.if-is_cell.true in
    let b = bounds _ _ h in
    (h, omega arith, omega arith)
