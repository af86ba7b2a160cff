use Rattle.machine.specs.Queue.{placed, packets_from}
use Rattle.queue.specs.Sums.{SumsOf, Bounded}
use Rattle.queue.proofs.waiting_changes.Given as goal

abbrev pub invariant-loop-i : goal.invariant-loop-i
invariant-loop-i l = record {
  sums : SumsOf (packets_from (placed l.queue l.queue.place l.count) l.queue.place l.i) l.x l.s;
  bounded : Bounded l.i l.s;
}
