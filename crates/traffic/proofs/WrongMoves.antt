-- Trimmed moves at a state where they differ from the rule's, by computation.
use Rattle.std.proofs.Common.{◌≡◌, arith}
use Rattle.traffic.specs.Traffic.{moved}
use Rattle.traffic.specs.WrongMoves.{trimmed_sum, trimmed_product, Differ}

sum_differs : trimmed_sum 2000 ≡ moved 2000 → ⊥
unfolding moved
sum_differs e = omega arith

product_differs : trimmed_product 2600 ≡ moved 2600 → ⊥
unfolding moved
product_differs e = omega arith

pub differ : Differ
differ = record { sum = sum_differs; product = product_differs }
