use Rattle.std.proofs.Common.{◌*◌, ◌≤◌}
use Rattle.up_and_step.proofs.rounds.Given as goal

abbrev pub invariant-loop-i : goal.invariant-loop-i
invariant-loop-i l = l.counted.done ≤ 4 * l.i
