use Prim.Native.Nat.{◌-◌}
use lib.ListN.{length}
use Rattle.machine.specs.Table.{capacity}
use Rattle.collector.proofs.FreedCells.{Remaining}
use Rattle.collector.proofs.freeing.free_all.Given as goal

abbrev pub invariant-loop-index : goal.invariant-loop-index
invariant-loop-index l = Remaining (capacity l.initial.table) l.initial.table l.dead (length l.dead - length l.yielded) l.table
