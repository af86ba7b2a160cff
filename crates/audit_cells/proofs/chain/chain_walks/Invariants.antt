use mathlib.Core.List.{List}
use Prim.Native.Nat.{ℕ}
use Rattle.audit_cells.proofs.FreeChain.{Walked}
use Rattle.audit_cells.proofs.chain.chain_walks.Given as goal

abbrev pub invariant-loop : goal.invariant-loop
invariant-loop l = (is : List ℕ) × Walked l.table l.counter l.w l.last is
