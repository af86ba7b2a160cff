use Prim.Native.Nat.{◌-◌}
use lib.ListN.{length}
use Rattle.printer.specs.Walk.{Filling}
use Rattle.printer.proofs.fill.Given as goal

abbrev pub invariant-loop-piece : goal.invariant-loop-piece
invariant-loop-piece l = Filling (length l.initial.part) l.table l.word l.part l.at l.walk l.rests

abbrev pub decreases-loop-piece : goal.decreases-loop-piece
decreases-loop-piece l = length l.initial.part - l.at
