-- The sums of a held count: root count and waiting root changes.
use Rattle.machine.specs.declared.counters.RootCount.{RootCount}
use Rattle.queue.specs.declared.CounterSums.{CounterSums}

-- "Held count", as two sums
abbrev pub HeldSums : Type 0
HeldSums = CounterSums RootCount
