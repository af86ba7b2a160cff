use mathlib.Core.Path.{ap, ◌∙◌}
use mathlib.Core.Bool.{not}
use native.Mathlib.Omega.{arith}
use Rattle.counts.proofs.Cells.{told, bounds}
use Rattle.marks.proofs.RootTests.{stays_none, stays_rooted}
use Rattle.marks.proofs.roots.stays_root.Goals as goal

pub overflow_sub-w : goal.overflow_sub-w
overflow_sub-w c = let b = bounds _ _ (told _ c.capacity_of.ensures c.is_cell.ensures c.if-not-is_cell.false) in omega arith

pub rooted-requires : goal.rooted-requires
rooted-requires c = let b = bounds _ _ (told _ c.capacity_of.ensures c.is_cell.ensures c.if-not-is_cell.false) in omega arith

pub returns-then-not-is_cell : goal.returns-then-not-is_cell
returns-then-not-is_cell c =
    ap not c.if-not-is_cell.true ∙ stays_none _ _ (told _ c.capacity_of.ensures c.is_cell.ensures c.if-not-is_cell.true)

pub returns-else-not-is_cell : goal.returns-else-not-is_cell
returns-else-not-is_cell c =
    let rooted = rw c.from.ensures at c.rooted.ensures in
    rooted ∙ stays_rooted _ _ (told _ c.capacity_of.ensures c.is_cell.ensures c.if-not-is_cell.false)
