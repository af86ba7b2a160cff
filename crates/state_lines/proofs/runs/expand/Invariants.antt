use Rattle.std.proofs.Common.{◌≤◌, length}
use Rattle.state_lines.proofs.runs.expand.Given as goal

abbrev pub invariant-loop-run : goal.invariant-loop-run
invariant-loop-run l =
    (goal.iterator-loop-run).can_next l.run-iterator ×
    (goal.iterator-loop-run).is_finite l.run-iterator ×
    (l.end ≤ length l.words)
