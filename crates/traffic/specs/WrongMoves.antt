-- Moves that stop at the largest state where the rule's wraps: no program that keeps the contract of `next_state` makes them. The proof is `differ` in
-- proofs/WrongMoves.
use Rattle.std.specs.Prelude.{◌≡◌, ℕ, ◌+◌, ◌-◌, ◌*◌, ◌%◌, ◌^◌, min}
use Rattle.traffic.specs.Traffic.{moved}

abbrev most : ℕ
most = 2 ^ 32 - 1

-- the sum is trimmed, or the product
abbrev pub trimmed_sum : ℕ → ℕ
trimmed_sum s = min (1664525 * s % 2 ^ 32 + 1013904223) most

abbrev pub trimmed_product : ℕ → ℕ
trimmed_product s = (min (1664525 * s) most + 1013904223) % 2 ^ 32

pub record Differ : Type 0 where
  pub sum : trimmed_sum 2000 ≡ moved 2000 → ⊥
  pub product : trimmed_product 2600 ≡ moved 2600 → ⊥
