-- Laws of what the first words of a list contain.
use mathlib.Core.Path.{◌≡◌, refl, sym, ap, ◌∙◌}
use mathlib.Core.Logic.{⊎_elim}
use mathlib.Core.Bool.{Bool, true, false, ◌||◌, or-false}
use mathlib.Core.List.{List, [], ◌∷◌, ◌++◌}
use Prim.Native.Nat.{ℕ, zero, suc, ◌≤◌, ◌<◌}
use native.Mathlib.Omega.{arith}
use native.Mathlib.Nat.{not-suc-le-zero}
use lib.Dec.{eqb}
use lib.ListN.{length, get_or, take}
use lib.Seq.{take-suc}
use borrow.Author.Tests.{eqb-true, le-ltb}
use Rattle.machine.specs.Range.{occurrences}
use Rattle.machine.specs.Packets.{contains}
use Rattle.machine.proofs.Range.{not_both, refuted, or_true, matching_same}
use Rattle.machine.proofs.Names.{occurs_contains}
use Rattle.machine.proofs.Select.{contains_append}
use Rattle.walks.proofs.Places.{contains_at}

-- each number at most once
abbrev pub Once : List ℕ → Type 0
Once xs = (i : ℕ) → occurrences i xs ≤ 1

pub contains_one : (x i : ℕ) → contains (x ∷ []) i ≡ eqb x i
unfolding contains
contains_one x i = or-false (eqb x i)

-- with one number more at the end
pub contains_snoc : (xs : List ℕ) (x i : ℕ) → contains (xs ++ (x ∷ [])) i ≡ contains xs i || eqb x i
contains_snoc xs x i = contains_append xs (x ∷ []) i ∙ ap (λ (b : Bool). contains xs i || b) (contains_one x i)

pub contains_take : (xs : List ℕ) (k i : ℕ) → k < length xs → contains (take (suc k) xs) i ≡ contains (take k xs) i || eqb (get_or xs k 0) i
contains_take xs k i h = ap (λ (ys : List ℕ). contains ys i) (take-suc xs k 0 h) ∙ contains_snoc (take k xs) (get_or xs k 0) i

-- in a list that has each number once
pub once_tail : (x : ℕ) (xs : List ℕ) → Once (x ∷ xs) → Once xs
unfolding occurrences
once_tail x xs h i = omega (arith, h i)

pub once_first : (x : ℕ) (xs : List ℕ) → Once (x ∷ xs) → contains xs x ≡ false
unfolding occurrences
once_first x xs h = sym (occurs_contains x xs) ∙ le-ltb 0 (occurrences x xs) (omega (arith, h x, matching_same x x 1 refl))

-- the word at a place is none of those before it
pub once_new : (xs : List ℕ) (k : ℕ) → k < length xs → Once xs → contains (take k xs) (get_or xs k 0) ≡ false
unfolding contains
once_new [] k l o = absurd (not-suc-le-zero l)
once_new (x ∷ xs) zero l o = refl
once_new (x ∷ xs) (suc k) l o =
    refuted (eqb x (get_or xs k 0) || contains (take k xs) (get_or xs k 0)) (λ e. ⊎_elim
    (λ (d : eqb x (get_or xs k 0) ≡ true). not_both (rw (eqb-true x (get_or xs k 0) d) (contains_at xs k (get_or xs k 0) (omega arith) refl)) (once_first x xs o))
    (λ d. not_both d (once_new xs k (omega arith) (once_tail x xs o)))
    (or_true (eqb x (get_or xs k 0)) (contains (take k xs) (get_or xs k 0)) e))
