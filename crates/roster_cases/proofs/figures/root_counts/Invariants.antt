use Rattle.std.proofs.Common.{◌≡◌, ℕ, ◌*◌, ◌≤◌}
use Rattle.machine.specs.Range.{total}
use Rattle.machine.specs.Table.{root_count, word_at}
use Rattle.roster_cases.proofs.figures.root_counts.Given as goal

abbrev pub invariant-loop-i : goal.invariant-loop-i
invariant-loop-i l = (l.sum ≤ 65535 * l.i) × (l.sum ≡ total l.i (λ (j : ℕ). word_at l.table j root_count))
