use mathlib.Core.Path.{sym, ◌∙◌}
use Rattle.marks.proofs.Scratch.{enough_fewer}
use Rattle.collector.proofs.SweepPass.{passes_live, passes_dead, marked_live, unmarked_dead}
use Rattle.collector.proofs.sweep.sweep_cell.Goals as goal
use Rattle.collector.proofs.sweep.sweep_cell.Goals.{then-is_marked-via-then-is_marked, then-is_marked-via-else-is_marked+then-not-in_use}

pub is_marked-requires : goal.is_marked-requires
is_marked-requires c = rw c.from-place.ensures (enough_fewer _ _ _ c.requires.1 c.requires.2)

pub returns-then-is_marked : goal.returns-then-is_marked
returns-then-is_marked c =
    let i = c.args in
    let marked = rw c.from-place.ensures at c.is_marked.ensures in
    passes_live _ _ _ (elim c.then-is_marked.branch [
      | then-is_marked-via-then-is_marked w ↦ marked_live i.table.now i.scratch.now i.index (sym marked ∙ w.if-is_marked.true)
      | then-is_marked-via-else-is_marked+then-not-in_use w ↦
          unmarked_dead i.table.now i.scratch.now i.index (sym marked ∙ w.if-is_marked.false)
          ∙ (rw c.from-place.ensures at (sym w.in_use.ensures ∙ w.if-not-in_use.true))
    ])

pub returns : goal.returns
returns c =
    let i = c.args in
    let marked = rw c.from-place.ensures at c.is_marked.ensures in
    passes_dead _ _ _
    (unmarked_dead i.table.now i.scratch.now i.index (sym marked ∙ c.if-is_marked.false)
    ∙ (rw c.from-place.ensures at (sym c.in_use.ensures ∙ c.if-not-in_use.false)))
    _ c.free.ensures
