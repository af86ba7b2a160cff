-- Laws of the tests over a range and over lists.
use mathlib.Core.Path.{◌≡◌, refl, sym, ap, ap₂, ◌∙◌}
use mathlib.Core.Logic.{◌⊎◌, inl, inr, ⊎_elim, ◌≢◌}
use mathlib.Core.Bool.{Bool, true, false, ◌&&◌, ◌||◌, and-eq-true_iff, true≢false, false≢true}
use mathlib.Core.List.{List, [], ◌∷◌, ◌++◌}
use Prim.Native.Nat.{ℕ, zero, suc, ◌+◌, ◌≤◌, ◌<◌}
use native.Mathlib.Nat.{le_of_suc-le-suc, not-suc-le-zero}
use native.Mathlib.Omega.{arith}
use lib.Dec.{ltb}
use lib.ListN.{length, get_or, length-append, get_or-append}
use lib.Seq.{get_or_at}
use borrow.Author.Tests.{eq-eqb, ne_eqb, ltb-true, ltb-false}
use Rattle.machine.specs.Range.{every, exists, total, tabulate, matching, occurrences}

-- the cases of a bound that is one larger
pub below_suc : {i n : ℕ} → i < suc n → (i < n) ⊎ (i ≡ n)
below_suc {i} {n} h = ⊎_elim (λ e. inr (omega arith)) (λ l. inl (omega arith)) (native.Mathlib.Nat.eq-or-lt_of_le (le_of_suc-le-suc h))

-- a test has an outcome
pub tested : (b : Bool) → (b ≡ true) ⊎ (b ≡ false)
tested true = inl refl
tested false = inr refl

pub or_true : (a b : Bool) → a || b ≡ true → (a ≡ true) ⊎ (b ≡ true)
or_true true b h = inl refl
or_true false b h = inr h

pub or_left : {a : Bool} (b : Bool) → a ≡ true → a || b ≡ true
or_left b h = rw h

pub or_right : (a : Bool) {b : Bool} → b ≡ true → a || b ≡ true
or_right true h = refl
or_right false h = h

pub or-false : (a b : Bool) → a || b ≡ false → (a ≡ false) × (b ≡ false)
or-false true b h = absurd (true≢false h)
or-false false b h = (refl, h)

pub and_both : {a b : Bool} → a ≡ true → b ≡ true → a && b ≡ true
and_both h k = rw (h, k)

pub and_first : (a b : Bool) → a && b ≡ true → a ≡ true
and_first a b h = ((and-eq-true_iff a b).0 h).0

pub and_second : (a b : Bool) → a && b ≡ true → b ≡ true
and_second a b h = ((and-eq-true_iff a b).0 h).1

pub not_both : {b : Bool} → b ≡ true → b ≡ false → ⊥
not_both h k = true≢false (sym h ∙ k)

pub refuted : (b : Bool) → (b ≡ true → ⊥) → b ≡ false
refuted b f = ⊎_elim (λ e. absurd (f e)) (λ e. e) (tested b)

-- two tests that imply each other
pub same_tests : (a b : Bool) → (a ≡ true → b ≡ true) → (b ≡ true → a ≡ true) → a ≡ b
same_tests a b f g = ⊎_elim (λ e. e ∙ sym (f e)) (λ e. e ∙ sym (refuted b (λ h. not_both (g h) e))) (tested a)

-- what `every` says of each number below the bound, and back
pub every_at : (n : ℕ) (p : ℕ → Bool) → every n p ≡ true → (i : ℕ) → i < n → p i ≡ true
unfolding every
every_at zero p h i l = absurd (not-suc-le-zero l)
every_at (suc n) p h i l =
    ⊎_elim (λ m. every_at n p (and_first (every n p) (p n) h) i m) (λ e. rw e (and_second (every n p) (p n) h)) (below_suc l)

pub every_all : (n : ℕ) (p : ℕ → Bool) → ((i : ℕ) → i < n → p i ≡ true) → every n p ≡ true
unfolding every
every_all zero p f = refl
every_all (suc n) p f = and_both (every_all n p (λ i l. f i (omega arith))) (f n (omega arith))

pub exists_at : (n : ℕ) (p : ℕ → Bool) → exists n p ≡ true → (i : ℕ) × (i < n) × (p i ≡ true)
unfolding exists
exists_at zero p h = absurd (false≢true h)
exists_at (suc n) p h = ⊎_elim (λ m. wider (exists_at n p m)) (λ e. (n, omega arith, e)) (or_true (exists n p) (p n) h)
  where
    wider : (i : ℕ) × (i < n) × (p i ≡ true) → (i : ℕ) × (i < suc n) × (p i ≡ true)
    wider w = let l = w.1 in (w.0, omega arith, w.2)

pub exists_some : (n : ℕ) (p : ℕ → Bool) (i : ℕ) → i < n → p i ≡ true → exists n p ≡ true
unfolding exists
exists_some zero p i l h = absurd (not-suc-le-zero l)
exists_some (suc n) p i l h =
    ⊎_elim (λ m. or_left (p n) (exists_some n p i m h)) (λ e. or_right (exists n p) (rw e at h)) (below_suc l)

-- a word that is x, and one that is not
pub matching_same : (w x n : ℕ) → w ≡ x → matching w x n ≡ n
unfolding matching
matching_same w x n e = rw (eq-eqb w x e)

pub matching_other : (w x n : ℕ) → (w ≡ x → ⊥) → matching w x n ≡ 0
unfolding matching
matching_other w x n d = rw (ne_eqb w x d)

-- sums
pub total_same : (n : ℕ) (f g : ℕ → ℕ) → ((i : ℕ) → i < n → f i ≡ g i) → total n f ≡ total n g
unfolding total
total_same zero f g e = refl
total_same (suc n) f g e = ap₂ ◌+◌ (total_same n f g (λ i l. e i (omega arith))) (e n (omega arith))

-- two sums that differ in one term
pub total_at : (n : ℕ) (f g : ℕ → ℕ) (j : ℕ) → j < n → ((i : ℕ) → i < n → i ≢ j → f i ≡ g i) → total n f + g j ≡ total n g + f j
unfolding total
total_at zero f g j l e = absurd (not-suc-le-zero l)
total_at (suc n) f g j l e = ⊎_elim (λ m. inside m (total_at n f g j m (λ i k. e i (omega arith)))) last (below_suc l)
  where
    inside : j < n → total n f + g j ≡ total n g + f j → total n f + f n + g j ≡ total n g + g n + f j
    inside m h = let d : f n ≡ g n = e n (omega arith) (omega arith) in omega arith

    last : j ≡ n → total n f + f n + g j ≡ total n g + g n + f j
    last m =
        let h : total n f ≡ total n g = total_same n f g (λ i k. e i (omega arith) (omega arith)) in
        rw (m, h) (omega arith)

pub total_le : (n : ℕ) (f g : ℕ → ℕ) → ((i : ℕ) → i < n → f i ≤ g i) → total n f ≤ total n g
unfolding total
total_le zero f g e = omega arith
total_le (suc n) f g e = omega (arith, total_le n f g (λ i l. e i (omega arith)), e n (omega arith))

pub total_lt : (n : ℕ) (f g : ℕ → ℕ) (j : ℕ) → j < n → ((i : ℕ) → i < n → f i ≤ g i) → f j < g j → total n f < total n g
unfolding total
total_lt zero f g j l e d = absurd (not-suc-le-zero l)
total_lt (suc n) f g j l e d = ⊎_elim (λ m. inside (total_lt n f g j m (λ i k. e i (omega arith)) d)) last (below_suc l)
  where
    inside : total n f < total n g → total n f + f n < total n g + g n
    inside h = omega (arith, e n (omega arith))

    last : j ≡ n → total n f + f n < total n g + g n
    last m =
        let h : total n f ≤ total n g = total_le n f g (λ i k. e i (omega arith)) in
        let k : f n < g n = rw m at d in
        omega arith

pub total_ones : (n : ℕ) → total n (λ i. 1) ≡ n
unfolding total
total_ones zero = refl
total_ones (suc n) = rw (total_ones n) (omega arith)

pub total_zero : (n : ℕ) → total n (λ i. 0) ≡ 0
unfolding total
total_zero zero = refl
total_zero (suc n) = rw (total_zero n) (omega arith)

pub total_add : (n : ℕ) (f g : ℕ → ℕ) → total n (λ i. f i + g i) ≡ total n f + total n g
unfolding total
total_add zero f g = omega arith
total_add (suc n) f g = rw (total_add n f g) (omega arith)

-- one number among n is met once
pub total_one : (n j : ℕ) → j < n → total n (λ i. matching j i 1) ≡ 1
total_one n j l =
    let e : total n (λ i. matching j i 1) + 0 ≡ total n (λ i. 0) + matching j j 1 =
    total_at n (λ i. matching j i 1) (λ i. 0) j l (λ i k d. matching_other j i 1 (λ x. d (sym x))) in
    omega (arith, total_zero n, matching_same j j 1 refl)

-- a test that fails of some number below the bound
pub every_not : (n : ℕ) (p : ℕ → Bool) → every n p ≡ false → (i : ℕ) × (i < n) × (p i ≡ false)
unfolding every
every_not zero p h = absurd (true≢false h)
every_not (suc n) p h = ⊎_elim (λ e. (n, omega arith, rw e at h)) (λ e. wider (every_not n p e)) (tested (every n p))
  where
    wider : (i : ℕ) × (i < n) × (p i ≡ false) → (i : ℕ) × (i < suc n) × (p i ≡ false)
    wider w = let l = w.1 in (w.0, omega arith, w.2)

pub every_fails : (n : ℕ) (p : ℕ → Bool) (i : ℕ) → i < n → p i ≡ false → every n p ≡ false
every_fails n p i l h = ⊎_elim (λ e. absurd (not_both (every_at n p e i l) h)) (λ e. e) (tested (every n p))

pub lt_or_ge : (i n : ℕ) → (i < n) ⊎ (n ≤ i)
lt_or_ge i n = ⊎_elim (λ e. inl (ltb-true i n e)) (λ e. inr (ltb-false i n e)) (tested (ltb i n))

-- lists made over a range
pub length_tabulate : (n : ℕ) (f : ℕ → Bool) → length (tabulate n f) ≡ n
unfolding tabulate
length_tabulate zero f = refl
length_tabulate (suc n) f = rw (length-append, length_tabulate n f) (omega arith)

pub get_d_tabulate : (n : ℕ) (f : ℕ → Bool) (i : ℕ) → i < n → get_or (tabulate n f) i false ≡ f i
unfolding tabulate
get_d_tabulate zero f i l = absurd (not-suc-le-zero l)
get_d_tabulate (suc n) f i l = ⊎_elim (λ m. inside m (get_d_tabulate n f i m)) last (below_suc l)
  where
    inside : i < n → get_or (tabulate n f) i false ≡ f i → get_or (tabulate n f ++ (f n ∷ [])) i false ≡ f i
    inside m h = rw (get_or-append (tabulate n f) (f n ∷ []) false i (rw (length_tabulate n f) m)) h

    last : i ≡ n → get_or (tabulate n f ++ (f n ∷ [])) i false ≡ f i
    last e = get_or_at (tabulate n f) (f n) [] false i (length_tabulate n f ∙ sym e) ∙ ap f (sym e)

pub occurrences_append : (x : ℕ) (xs ys : List ℕ) → occurrences x (xs ++ ys) ≡ occurrences x xs + occurrences x ys
unfolding occurrences
occurrences_append x [] ys = omega arith
occurrences_append x (w ∷ ws) ys = rw (occurrences_append x ws ys) (omega arith)
