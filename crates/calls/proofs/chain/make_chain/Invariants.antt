use mathlib.Core.Path.{◌≡◌}
use lib.ListN.{length}
use Rattle.machine.specs.Calls.{chained}
use Rattle.calls.proofs.chain.make_chain.Given as goal

abbrev pub invariant-loop-i : goal.invariant-loop-i
invariant-loop-i l = (l.table ≡ chained l.c l.i l.initial.table) × (length l.table ≡ length l.initial.table)
