use Rattle.audit_packets.proofs.NamesInScratch.{Counting}
use Rattle.audit_packets.proofs.names.count_names.Given as goal

abbrev pub invariant-loop-j : goal.invariant-loop-j
invariant-loop-j l = Counting l.c l.queue l.j l.initial.scratch l.scratch
