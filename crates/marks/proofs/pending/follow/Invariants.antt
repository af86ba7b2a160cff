use mathlib.Core.Path.{◌≡◌}
use lib.ListN.{length, drop}
use Rattle.machine.specs.Table.{scratch_words}
use Rattle.marks.specs.Marks.{is_marked}
use Rattle.marks.specs.Stack.{stack}
use Rattle.marks.proofs.Closure.{Following}
use Rattle.marks.proofs.Stack.{work}
use Rattle.marks.proofs.pending.follow.Given as goal

abbrev pub invariant-loop-top : goal.invariant-loop-top
invariant-loop-top l =
    Following l.c (is_marked l.initial.scratch) l.table l.c (stack l.scratch l.top)
    × (drop (scratch_words l.c) l.scratch ≡ drop (scratch_words l.c) l.initial.scratch)
    × (length l.scratch ≡ length l.initial.scratch)

abbrev pub decreases-loop-top : goal.decreases-loop-top
decreases-loop-top l = work l.c l.scratch
