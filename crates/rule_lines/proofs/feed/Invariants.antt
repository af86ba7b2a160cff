use Prim.Native.Nat.{◌-◌}
use lib.ListN.{length}
use Rattle.rule_lines.specs.Progress.{state}
use Rattle.rule_lines.proofs.FeedLaws.{Going}
use Rattle.rule_lines.proofs.feed.Given as goal

abbrev pub invariant-loop-next : goal.invariant-loop-next
invariant-loop-next l =
    Going (state l.initial.present l.initial.table l.initial.scratch l.initial.line) l.input l.initial.out (state l.present l.table l.scratch l.line) l.out l.taken l.written l.next

abbrev pub decreases-loop-next : goal.decreases-loop-next
decreases-loop-next l = length l.input - l.taken
