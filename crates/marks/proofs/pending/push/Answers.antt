use mathlib.Core.Path.{sym, ◌∙◌}
use native.Mathlib.Omega.{arith}
use Rattle.marks.proofs.Loops.{push_new, push_met, push_none}
use Rattle.counts.proofs.Cells.{bounds}
use Rattle.marks.proofs.Scratch.{word_within_lem}
use Rattle.marks.proofs.pending.push.Goals as goal

pub overflow_sub-w : goal.overflow_sub-w
overflow_sub-w c = let b = bounds _ _ (sym c.is_cell.ensures ∙ c.if-is_cell.true) in omega arith

pub bounds-scratch-index : goal.bounds-scratch-index
bounds-scratch-index c =
    let b = bounds _ _ (sym c.is_cell.ensures ∙ c.if-is_cell.true) in
    word_within_lem _ _ _ (omega arith) c.requires.0

pub bounds-scratch-index-then-scratch-index-eq0 : goal.bounds-scratch-index-then-scratch-index-eq0
bounds-scratch-index-then-scratch-index-eq0 c =
    let b = bounds _ _ (sym c.is_cell.ensures ∙ c.if-is_cell.true) in
    word_within_lem _ _ _ (omega arith) c.requires.0

pub returns-then-scratch-index-eq0 : goal.returns-then-scratch-index-eq0
returns-then-scratch-index-eq0 c =
    let free = rw c.from-index.ensures at c.if-scratch-index-eq0.true in
    rw c.from-index.ensures (push_new _ _ c.args.scratch.now _ (sym c.is_cell.ensures ∙ c.if-is_cell.true) free)

pub returns-else-scratch-index-eq0 : goal.returns-else-scratch-index-eq0
returns-else-scratch-index-eq0 c =
    let taken = rw c.from-index.ensures at c.if-scratch-index-eq0.false in
    push_met _ _ c.args.scratch.now _ c.requires.2 (sym c.is_cell.ensures ∙ c.if-is_cell.true) taken

pub returns-else-is_cell : goal.returns-else-is_cell
returns-else-is_cell c =
    push_none _ _ c.args.scratch.now _ c.requires.2 (sym c.is_cell.ensures ∙ c.if-is_cell.false)
