use Prim.Native.Nat.{◌+◌, ◌-◌}
use Rattle.load_lines.proofs.WriteLaws.{Going}
use Rattle.load_lines.proofs.lines.serve_calls.Given as goal

abbrev pub invariant-loop-present : goal.invariant-loop-present
invariant-loop-present l =
    Going l.initial.table l.initial.scratch l.initial.out l.initial.present l.table l.scratch l.out l.present l.count l.written

abbrev pub decreases-loop-present : goal.decreases-loop-present
decreases-loop-present l = l.workload.calls + 1 - l.present.done
