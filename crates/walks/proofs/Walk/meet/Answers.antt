use mathlib.Core.Path.{sym, ◌∙◌}
use native.Mathlib.Omega.{arith}
use Rattle.counts.proofs.Cells.{told, bounds}
use Rattle.walks.proofs.Counting.{met_none, met_root, met_entered}
use Rattle.walks.proofs.Walk.meet.Goals as goal

pub overflow_sub-w : goal.overflow_sub-w
overflow_sub-w c = let b = bounds _ _ (told _ c.capacity_of.ensures c.is_cell.ensures c.if-is_cell.true) in omega arith

pub rooted-requires : goal.rooted-requires
rooted-requires c = let b = bounds _ _ (told _ c.capacity_of.ensures c.is_cell.ensures c.if-is_cell.true) in omega arith

pub returns-then-rooted : goal.returns-then-rooted
returns-then-rooted c =
    met_root c.args.table.now _ _ _ c.requires.1 (told _ c.capacity_of.ensures c.is_cell.ensures c.if-is_cell.true)
    (rw c.from.ensures at (sym c.rooted.ensures ∙ c.if-rooted.true))

pub overflow_sub-w-then-is_cell : goal.overflow_sub-w-then-is_cell
overflow_sub-w-then-is_cell c =
    let b = bounds _ _ (told _ c.capacity_of.ensures c.is_cell.ensures c.if-is_cell.true) in omega arith

pub returns-then-is_cell : goal.returns-then-is_cell
returns-then-is_cell c =
    met_entered c.args.table.now _ _ _ _ _ (told _ c.capacity_of.ensures c.is_cell.ensures c.if-is_cell.true)
    (rw c.from.ensures at (sym c.rooted.ensures ∙ c.if-rooted.false)) c.count.ensures

pub returns : goal.returns
returns c =
    met_none c.args.table.now _ _ _ c.requires.1 (told _ c.capacity_of.ensures c.is_cell.ensures c.if-is_cell.false)
