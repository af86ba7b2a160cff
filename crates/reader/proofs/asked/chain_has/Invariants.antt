use mathlib.Core.Path.{◌≡◌}
use Prim.Native.Nat.{◌-◌}
use Rattle.machine.specs.Table.{first_free}
use Rattle.reader.specs.Called.{chain_has}
use Rattle.reader.proofs.asked.chain_has.Given as goal

abbrev pub invariant-loop : goal.invariant-loop
invariant-loop l = chain_has (l.n - l.counter) l.table l.w ≡ chain_has l.n l.table (first_free l.table)
