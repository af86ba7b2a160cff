-- Laws of the ascending list of the numbers that pass a test, and what the list of cells to free is.
use mathlib.Core.Path.{◌≡◌, refl, sym, ap, ap₂, ◌∙◌}
use mathlib.Core.Logic.{⊎_elim, ◌↔◌}
use mathlib.Core.Bool.{Bool, true, false, cond, not, ◌&&◌, ◌||◌, false≢true}
use mathlib.Core.List.{List, [], ◌∷◌, ◌++◌}
use Prim.Native.Nat.{ℕ, zero, suc, ◌+◌, ◌≤◌, ◌<◌}
use native.Mathlib.Omega.{arith}
use native.Mathlib.Nat.{not-suc-le-zero}
use lib.Dec.{eqb}
use lib.ListN.{length, length-append}
use borrow.Author.Tests.{eqb-true, eq-eqb, not-true}
use Rattle.machine.specs.Range.{exists, total, matching, occurrences, select}
use Rattle.machine.specs.Table.{capacity, in_use}
use Rattle.machine.specs.Packets.{contains}
use Rattle.machine.specs.Reached.{Reached, reached}
use Rattle.machine.specs.Step.{unreached}
use Rattle.machine.specs.Facts.{Ascending, Dead}
use Rattle.machine.proofs.Range.{tested, not_both, below_suc, or_true, or_left, or_right, and_both, and_first, and_second, exists_some, matching_same, matching_other, occurrences_append, total_le}
use Rattle.machine.proofs.Lists.{Indices, none_past, select_none}
use Rattle.machine.proofs.Reached.{reached_is}
use Rattle.machine.proofs.Chain.{total_occurrences}

pub contains_append : (xs ys : List ℕ) (i : ℕ) → contains (xs ++ ys) i ≡ contains xs i || contains ys i
unfolding contains
contains_append [] ys i = refl
contains_append (x ∷ xs) ys i = ap (λ (b : Bool). eqb x i || b) (contains_append xs ys i) ∙ or_assoc (eqb x i) (contains xs i) (contains ys i)
  where
    or_assoc : (a b c : Bool) → a || (b || c) ≡ a || b || c
    or_assoc true b c = refl
    or_assoc false b c = refl

-- the last number tried
abbrev tail : (ℕ → Bool) → ℕ → List ℕ
tail p n = cond (p n) (n ∷ []) []

tail_contains : (p : ℕ → Bool) (n i : ℕ) → contains (tail p n) i ≡ true → (i ≡ n) × (p n ≡ true)
unfolding contains
tail_contains p n i h = ⊎_elim (λ (e : p n ≡ true). here e (rw e at h)) (λ (e : p n ≡ false). absurd (false≢true (rw e at h))) (tested (p n))
  where
    here : p n ≡ true → eqb n i || false ≡ true → (i ≡ n) × (p n ≡ true)
    here e k = (sym (eqb-true n i (⊎_elim (λ d. d) (λ d. absurd (false≢true d)) (or_true (eqb n i) false k))), e)

contains_tail : (p : ℕ → Bool) (n : ℕ) → p n ≡ true → contains (tail p n) n ≡ true
unfolding contains
contains_tail p n e = rw e (or_left false (eq-eqb n n refl))

pub select_members : (n : ℕ) (p : ℕ → Bool) (i : ℕ) → (contains (select n p) i ≡ true) ↔ ((i < n) × (p i ≡ true))
unfolding select
select_members zero p i = (none, λ w. absurd (not-suc-le-zero w.0))
  where
    none : contains [] i ≡ true → (i < zero) × (p i ≡ true)
    none h = absurd (false≢true (unfold contains in h))
select_members (suc n) p i = (there (select_members n p i).0, back (select_members n p i).1)
  where
    there : (contains (select n p) i ≡ true → (i < n) × (p i ≡ true)) → contains (select n p ++ tail p n) i ≡ true → (i < suc n) × (p i ≡ true)
    there ih h =
        ⊎_elim (λ e. let w = ih e in let l = w.0 in (omega arith, w.1))
        (λ e. let w = tail_contains p n i e in let d = w.0 in (omega arith, rw d w.1))
        (or_true (contains (select n p) i) (contains (tail p n) i) (rw contains_append at h))

    back : ((i < n) × (p i ≡ true) → contains (select n p) i ≡ true) → (i < suc n) × (p i ≡ true) → contains (select n p ++ tail p n) i ≡ true
    back ih w =
        rw contains_append (⊎_elim (λ l. or_left (contains (tail p n) i) (ih (l, w.1)))
        (λ (e : i ≡ n). or_right (contains (select n p) i) (rw e (contains_tail p n (rw e at w.1)))) (below_suc w.0))

-- indices below a bound stay below a larger one
indices_more : (n : ℕ) (is : List ℕ) → Indices n is → Indices (suc n) is
indices_more n [] h = tt
indices_more n (i ∷ is) h = let l = h.0 in (omega arith, indices_more n is h.1)

indices_append : (n : ℕ) (xs ys : List ℕ) → Indices n xs → Indices n ys → Indices n (xs ++ ys)
indices_append n [] ys h k = k
indices_append n (x ∷ xs) ys h k = (h.0, indices_append n xs ys h.1 k)

indices_tail : (p : ℕ → Bool) (n : ℕ) (b : Bool) → Indices (suc n) (cond b (n ∷ []) [])
indices_tail p n true = (omega arith, tt)
indices_tail p n false = tt

pub select_indices : (n : ℕ) (p : ℕ → Bool) → Indices n (select n p)
unfolding select
select_indices zero p = tt
select_indices (suc n) p = indices_append (suc n) (select n p) (tail p n) (indices_more n (select n p) (select_indices n p)) (indices_tail p n (p n))

ascending_snoc : (n : ℕ) (is : List ℕ) (b : Bool) → Ascending is → Indices n is → Ascending (is ++ cond b (n ∷ []) [])
ascending_snoc n [] true h p = tt
ascending_snoc n [] false h p = tt
ascending_snoc n (i ∷ []) true h p = (p.0, tt)
ascending_snoc n (i ∷ []) false h p = tt
ascending_snoc n (i ∷ j ∷ is) b h p = (h.0, ascending_snoc n (j ∷ is) b h.1 p.1)

pub select_ascending : (n : ℕ) (p : ℕ → Bool) → Ascending (select n p)
unfolding select
select_ascending zero p = tt
select_ascending (suc n) p = ascending_snoc n (select n p) (p n) (select_ascending n p) (select_indices n p)

-- each number that passes stands there once
occurrences_tail : (n i : ℕ) (b : Bool) → occurrences i (cond b (n ∷ []) []) ≡ cond b (matching n i 1) 0
unfolding occurrences
occurrences_tail n i true = omega arith
occurrences_tail n i false = refl

none_or_none : (b : Bool) → ◌≡◌ {A = ℕ} (cond b 0 0) 0
none_or_none true = refl
none_or_none false = refl

pub select_once : (n : ℕ) (p : ℕ → Bool) (i : ℕ) → i < n → occurrences i (select n p) ≡ cond (p i) 1 0
unfolding select
select_once zero p i l = absurd (not-suc-le-zero l)
select_once (suc n) p i l = ⊎_elim (λ m. inside m (select_once n p i m)) last (below_suc l)
  where
    split : occurrences i (select n p ++ tail p n) ≡ occurrences i (select n p) + cond (p n) (matching n i 1) 0
    split = occurrences_append i (select n p) (tail p n) ∙ ap (λ (m : ℕ). occurrences i (select n p) + m) (occurrences_tail n i (p n))

    inside : i < n → occurrences i (select n p) ≡ cond (p i) 1 0 → occurrences i (select n p ++ tail p n) ≡ cond (p i) 1 0
    inside m ih = split ∙ ap₂ ◌+◌ ih (ap (λ (k : ℕ). cond (p n) k 0) (matching_other n i 1 (omega arith)) ∙ none_or_none (p n)) ∙ omega arith

    last : i ≡ n → occurrences i (select n p ++ tail p n) ≡ cond (p i) 1 0
    last e =
        split
        ∙ ap₂ ◌+◌ (none_past n (select n p) (select_indices n p) i (omega arith)) (ap (λ (k : ℕ). cond (p n) k 0) (matching_same n i 1 (sym e)) ∙ ap (λ (k : ℕ). cond (p k) 1 0) (sym e))
        ∙ omega arith

-- the same tests select the same numbers
pub select_same : (n : ℕ) (p q : ℕ → Bool) → ((i : ℕ) → i < n → p i ≡ q i) → select n p ≡ select n q
unfolding select
select_same zero p q e = refl
select_same (suc n) p q e = rw (select_same n p q (λ i h. e i (omega arith)), e n (omega arith))

-- the cells that a step frees
pub dead_is : (t : List ℕ) → Dead t (unreached t)
unfolding unreached
dead_is t = record { members = members; ascending = select_ascending (capacity t) dead }
  where
    dead : ℕ → Bool
    dead i = in_use t i && not (reached t i)

    members : (i : ℕ) → (contains (select (capacity t) dead) i ≡ true) ↔ ((i < capacity t) × (in_use t i ≡ true) × (Reached t i → ⊥))
    members i = (
      λ h. let w = (select_members (capacity t) dead i).0 h in
          (w.0, and_first (in_use t i) (not (reached t i)) w.1, λ r. not_both ((reached_is t i).1 r) (not-true (reached t i) (and_second (in_use t i) (not (reached t i)) w.1))),
      λ w. (select_members (capacity t) dead i).1 (w.0, and_both w.1 (unmarked w.2)),
    )
      where
        unmarked : (Reached t i → ⊥) → not (reached t i) ≡ true
        unmarked f = ⊎_elim (λ e. absurd (f ((reached_is t i).0 e))) (λ (e : reached t i ≡ false). rw e) (tested (reached t i))

-- how many pass
pub select_length : (n : ℕ) (p : ℕ → Bool) → length (select n p) ≡ total n (λ i. cond (p i) 1 0)
unfolding select total
select_length zero p = refl
select_length (suc n) p = length-append (select n p) (cond (p n) (n ∷ []) []) ∙ ap₂ ◌+◌ (select_length n p) (one (p n))
  where
    one : (b : Bool) → length (cond b (n ∷ []) []) ≡ cond b 1 0
    one true = refl
    one false = refl

pub selected_some : (n : ℕ) (p : ℕ → Bool) → 0 < length (select n p) → exists n p ≡ true
selected_some n p h = ⊎_elim (λ e. e) (λ e. absurd (none e)) (tested (exists n p))
  where
    fails : exists n p ≡ false → (i : ℕ) → i < n → p i ≡ false
    fails e i l = ⊎_elim (λ y. absurd (not_both (exists_some n p i l y) e)) (λ y. y) (tested (p i))

    none : exists n p ≡ false → ⊥
    none e = let z = ap length (select_none n p (fails e)) in omega arith

-- numbers that pass, each once, are no more than all that pass
pub few_selected : (n : ℕ) (p : ℕ → Bool) (is : List ℕ) → Indices n is → ((i : ℕ) → i < n → occurrences i is ≤ cond (p i) 1 0)
    → length is ≤ length (select n p)
few_selected n p is below once =
    omega (arith, select_length n p, total_occurrences n is below, total_le n (λ i. occurrences i is) (λ i. cond (p i) 1 0) once)
