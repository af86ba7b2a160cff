use Rattle.std.proofs.Common.{◌≡◌, ℕ, cond, ◌≤◌}
use Rattle.machine.specs.Range.{total}
use Rattle.machine.specs.Table.{in_use}
use Rattle.roster_cases.proofs.figures.cells_in_use.Given as goal

abbrev pub invariant-loop-i : goal.invariant-loop-i
invariant-loop-i l = (l.n ≤ l.i) × (l.n ≡ total l.i (λ (j : ℕ). cond (in_use l.table j) 1 0))
