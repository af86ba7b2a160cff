use Rattle.audit_pointers.specs.UndoStages.{Undoing}
use Rattle.audit_pointers.proofs.undo_all.Given as goal

abbrev pub invariant-loop-j : goal.invariant-loop-j
invariant-loop-j l = Undoing l.table l.queue l.j l.initial.scratch l.scratch
