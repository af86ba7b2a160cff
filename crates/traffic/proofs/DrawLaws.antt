-- What the code's moves and tests tell of the call drawn.
use Rattle.std.proofs.Common.{◌≡◌, ℕ, ◌+◌, ◌*◌, ◌%◌, ◌^◌, ◌≤◌, mod-lt, arith, eq-eqb, ne_eqb}
use native.Mathlib.Nat.{mod-add-mod}
use Rattle.machine.specs.Words.{first_atom}
use Rattle.traffic.specs.Traffic.{moved, operand_drawn}

-- wrapped after the product and again after the sum is wrapped once
pub moves : (s : ℕ) {grown : ℕ} → grown ≡ (1664525 * s) % 2 ^ 32 → (grown + 1013904223) % 2 ^ 32 ≡ moved s
unfolding moved
moves s e = rw e (mod-add-mod (1664525 * s) (2 ^ 32) 1013904223)

module _ (c d : ℕ) where
  pub operand_atom : d % (c + 2) ≡ c + 1 → first_atom ≡ operand_drawn c d
  unfolding operand_drawn
  operand_atom h = rw (eq-eqb (d % (c + 2)) (c + 1) h)

  pub operand_word : (d % (c + 2) ≡ c + 1 → ⊥) → d % (c + 2) ≡ operand_drawn c d
  unfolding operand_drawn
  operand_word h = rw (ne_eqb (d % (c + 2)) (c + 1) h)

  pub operand_below : (d % (c + 2) ≡ c + 1 → ⊥) → d % (c + 2) ≤ c
  operand_below h = omega (arith, mod-lt d {m = c + 2} (omega arith))
