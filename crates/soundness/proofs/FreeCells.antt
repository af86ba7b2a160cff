-- The free chain has as many cells as are free.
use mathlib.Core.Path.{◌≡◌, sym, ◌∙◌}
use mathlib.Core.Bool.{cond}
use mathlib.Core.List.{List, [], ◌∷◌}
use Prim.Native.Nat.{ℕ}
use native.Mathlib.Omega.{arith}
use lib.ListN.{length}
use Rattle.machine.specs.Range.{total, matching, occurrences}
use Rattle.machine.specs.Table.{capacity, first_free, is_free}
use Rattle.machine.specs.Facts.{Chain}
use Rattle.machine.proofs.Range.{total_same, total_zero, total_add, total_one}
use Rattle.machine.proofs.Lists.{Indices}
use Rattle.machine.proofs.Select.{select_length}
use Rattle.machine.proofs.Chain.{linked_indices}
use Rattle.soundness.proofs.BuiltCells.{free_cells}

-- numbers below c, counted one by one
counted : (c : ℕ) (is : List ℕ) → Indices c is → total c (λ i. occurrences i is) ≡ length is
unfolding occurrences
counted c [] h = total_zero c
counted c (j ∷ is) h =
    total_add c (λ i. matching j i 1) (λ i. occurrences i is)
    ∙ omega (arith, total_one c j h.0, counted c is h.1)

pub chain_length : (t : List ℕ) (is : List ℕ) → Chain t is → free_cells t ≡ length is
chain_length t is h =
    select_length (capacity t) (is_free t)
    ∙ sym (total_same (capacity t) (λ i. occurrences i is) (λ i. cond (is_free t i) 1 0) h.once)
    ∙ counted (capacity t) is (linked_indices t (first_free t) is h.linked)
