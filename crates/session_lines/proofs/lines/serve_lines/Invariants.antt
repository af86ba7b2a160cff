use Prim.Native.Nat.{◌-◌}
use lib.ListN.{length}
use Rattle.session_lines.specs.Progress.{session_of}
use Rattle.session_lines.proofs.FeedLaws.{Going}
use Rattle.session_lines.proofs.lines.serve_lines.Given as goal

abbrev pub invariant-loop-feed : goal.invariant-loop-feed
invariant-loop-feed l =
    Going l.initial.table l.initial.scratch l.input l.initial.out (session_of l.initial.state.line l.initial.state.held l.initial.state.lines l.initial.queue) l.table l.scratch l.out (session_of l.state.line l.state.held l.state.lines l.queue) l.count l.taken l.written l.feed

abbrev pub decreases-loop-feed : goal.decreases-loop-feed
decreases-loop-feed l = length l.input - l.taken
