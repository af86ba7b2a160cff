-- Laws of the pointers out of a list of cells, and of lists made from another by a function.
use mathlib.Core.Path.{◌≡◌, refl, ap₂}
use mathlib.Core.Logic.{⊎_elim}
use mathlib.Core.Bool.{true, false≢true}
use mathlib.Core.List.{List, [], ◌∷◌, ◌++◌, map}
use Prim.Native.Nat.{ℕ, zero, suc, ◌+◌, ◌*◌, ◌≤◌, ◌<◌}
use native.Mathlib.Omega.{arith}
use lib.Dec.{eqb}
use lib.ListN.{length, get_or, replicate}
use borrow.Author.Tests.{eqb-true, eq-eqb}
use Rattle.machine.specs.Range.{matching}
use Rattle.machine.specs.Table.{left, right, word_at}
use Rattle.machine.specs.Packets.{contains}
use Rattle.machine.specs.Reached.{points_to}
use Rattle.machine.specs.Facts.{pointers_out}
use Rattle.machine.proofs.Range.{or_true, or_left, or_right, matching_same}
use Rattle.machine.proofs.Lists.{at_most_one}
use Rattle.machine.proofs.Sweep.{out_append}

matching_most : (w x : ℕ) → matching w x 1 ≤ 1
unfolding matching
matching_most w x = at_most_one (eqb w x)

module _ (t : List ℕ) where
  pub out_none : (x : ℕ) → pointers_out t [] x ≡ 0
  unfolding pointers_out
  out_none x = refl

  pub out_snoc : (is : List ℕ) (j x : ℕ) → pointers_out t (is ++ (j ∷ [])) x ≡ pointers_out t is x + matching (word_at t j left) x 1 + matching (word_at t j right) x 1
  unfolding pointers_out
  out_snoc is j x = omega (arith, out_append t is (j ∷ []) x)

  pub out_most : (is : List ℕ) (x : ℕ) → pointers_out t is x ≤ 2 * length is
  unfolding pointers_out
  out_most [] x = omega arith
  out_most (i ∷ is) x = omega (arith, out_most is x, matching_most (word_at t i left) x, matching_most (word_at t i right) x)

  -- a cell of the list has a pointer to x
  pub out_some : (is : List ℕ) (j x : ℕ) → contains is j ≡ true → points_to t j x ≡ true → 0 < pointers_out t is (suc x)
  unfolding pointers_out contains points_to
  out_some [] j x m p = absurd (false≢true m)
  out_some (i ∷ is) j x m p = ⊎_elim (λ e. here (eqb-true i j e)) (λ e. omega (arith, out_some is j x e p)) (or_true (eqb i j) (contains is j) m)
    where
      here : i ≡ j → 0 < matching (word_at t i left) (suc x) 1 + matching (word_at t i right) (suc x) 1 + pointers_out t is (suc x)
      here e =
          rw e (⊎_elim (λ d. omega (arith, matching_same (word_at t j left) (suc x) 1 (eqb-true (word_at t j left) (suc x) d)))
          (λ d. omega (arith, matching_same (word_at t j right) (suc x) 1 (eqb-true (word_at t j right) (suc x) d)))
          (or_true (eqb (word_at t j left) (suc x)) (eqb (word_at t j right) (suc x)) p))

module _ (f : ℕ → ℕ) where
  pub map_same : (g : ℕ → ℕ) (ys : List ℕ) → ((i : ℕ) → contains ys i ≡ true → f i ≡ g i) → map f ys ≡ map g ys
  unfolding contains
  map_same g [] e = refl
  map_same g (y ∷ ys) e = ap₂ ◌∷◌ (e y (or_left (contains ys y) (eq-eqb y y refl))) (map_same g ys (λ i m. e i (or_right (eqb y i) m)))

  pub map_most : (b : ℕ) → ((i : ℕ) → f i ≤ b) → (ys : List ℕ) (k : ℕ) → get_or (map f ys) k 0 ≤ b
  map_most b h [] k = omega arith
  map_most b h (y ∷ ys) zero = h y
  map_most b h (y ∷ ys) (suc k) = map_most b h ys k

  pub map_zero : ((i : ℕ) → f i ≡ 0) → (ys : List ℕ) → map f ys ≡ replicate (length ys) 0
  map_zero h [] = refl
  map_zero h (y ∷ ys) = ap₂ ◌∷◌ (h y) (map_zero h ys)
