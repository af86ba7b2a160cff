use Rattle.audit_pointers.proofs.PointerCounts.{Counting}
use Rattle.audit_pointers.proofs.pointers.count_pointers.Given as goal

abbrev pub invariant-loop-index : goal.invariant-loop-index
invariant-loop-index l = Counting l.table l.index l.c l.initial.scratch l.scratch
