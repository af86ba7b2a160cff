use Prim.Native.Nat.{◌-◌}
use lib.ListN.{length}
use Rattle.reader.proofs.BuildLaws.{Going}
use Rattle.reader.proofs.build.build.Given as goal

abbrev pub invariant-loop-at : goal.invariant-loop-at
invariant-loop-at l =
    Going l.initial.table l.initial.rest l.text l.words l.count l.starts l.dots l.opened l.table l.rest l.at

abbrev pub decreases-loop-at : goal.decreases-loop-at
decreases-loop-at l =
    length l.text - l.at
