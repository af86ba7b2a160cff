-- Laws of one pointer counted: the cell put among the others, and its count.
use mathlib.Core.Path.{◌≡◌, refl, sym, ap, ap₂, ◌∙◌}
use mathlib.Core.Logic.{⊎_elim}
use mathlib.Core.Bool.{true, false, ◌||◌, false≢true}
use mathlib.Core.List.{List, [], ◌∷◌, ◌++◌, map, map-append}
use Prim.Native.Nat.{ℕ, zero, suc, ◌+◌, ◌≤◌, ◌<◌}
use native.Mathlib.Nat.{not-suc-le-zero}
use native.Mathlib.Numerals.{add-one}
use native.Mathlib.Omega.{arith}
use lib.Dec.{eqb}
use lib.ListN.{length, get_or, take, set, length-append, length-map}
use lib.Seq.{take-append-le}
use borrow.Author.Tests.{eqb-true, eqb-false, eq-eqb, ltb-true}
use Rattle.machine.specs.Range.{matching, occurrences}
use Rattle.machine.specs.Packets.{contains}
use Rattle.machine.proofs.Range.{tested, or_true, or_left, or_right, or-false, matching_same, matching_other, occurrences_append}
use Rattle.machine.proofs.Names.{occurs_contains, none_contained}
use Rattle.machine.proofs.Select.{contains_append}
use Rattle.walks.specs.Tally.{added, raised}

module _ (x : ℕ) where
  -- the cell is there, or it is new
  pub added_there : (ys : List ℕ) → contains ys x ≡ true → added x ys ≡ ys
  unfolding added
  added_there ys h = rw h

  pub added_new : (ys : List ℕ) → contains ys x ≡ false → added x ys ≡ ys ++ (x ∷ [])
  unfolding added
  added_new ys h = rw h

  pub added_cases : (P : List ℕ → Type 0) (ys : List ℕ) → (contains ys x ≡ true → P ys) → (contains ys x ≡ false → P (ys ++ (x ∷ []))) → P (added x ys)
  added_cases P ys f g = ⊎_elim (λ (e : contains ys x ≡ true). rw (added_there ys e) (f e)) (λ (e : contains ys x ≡ false). rw (added_new ys e) (g e)) (tested (contains ys x))

  pub added_longer : (ys : List ℕ) → length ys ≤ length (added x ys)
  added_longer ys = added_cases (λ (zs : List ℕ). length ys ≤ length zs) ys (λ _. omega arith) (λ _. rw length-append (omega arith))

  pub added_front : (n : ℕ) (ys : List ℕ) → n ≤ length ys → take n (added x ys) ≡ take n ys
  added_front n ys l = added_cases (λ (zs : List ℕ). take n zs ≡ take n ys) ys (λ _. refl) (λ _. take-append-le n ys (x ∷ []) l)

  pub added_keeps : (ys : List ℕ) (i : ℕ) → contains ys i ≡ true → contains (added x ys) i ≡ true
  added_keeps ys i h = added_cases (λ (zs : List ℕ). contains zs i ≡ true) ys (λ _. h) (λ _. rw contains_append (or_left (contains (x ∷ []) i) h))

  pub added_here : (ys : List ℕ) (i : ℕ) → x ≡ i → contains (added x ys) i ≡ true
  added_here ys i e = added_cases (λ (zs : List ℕ). contains zs i ≡ true) ys (λ m. rw e at m)
      (λ _. rw contains_append (or_right (contains ys i) (unfold contains in or_left false (eq-eqb x i e))))

  -- what is so of the others and of the last one is so of all
  pub snoc_all : (P : ℕ → Type 0) (ys : List ℕ) → ((i : ℕ) → contains ys i ≡ true → P i) → P x → (i : ℕ) → contains (ys ++ (x ∷ [])) i ≡ true → P i
  unfolding contains
  snoc_all P ys f p i h = ⊎_elim (f i) last (or_true (contains ys i) (contains (x ∷ []) i) (rw contains_append at h))
    where
      last : eqb x i || false ≡ true → P i
      last e = ⊎_elim (λ d. let same : x ≡ i = eqb-true x i d in rw same at p) (λ d. absurd (false≢true d)) (or_true (eqb x i) false e)

  pub added_all : (P : ℕ → Type 0) (ys : List ℕ) → ((i : ℕ) → contains ys i ≡ true → P i) → P x → (i : ℕ) → contains (added x ys) i ≡ true → P i
  added_all P ys f p = added_cases (λ (zs : List ℕ). (i : ℕ) → contains zs i ≡ true → P i) ys (λ _. f) (λ _. snoc_all P ys f p)

  pub added_once : (ys : List ℕ) → ((i : ℕ) → occurrences i ys ≤ 1) → (i : ℕ) → occurrences i (added x ys) ≤ 1
  unfolding occurrences
  added_once ys once = added_cases (λ (zs : List ℕ). (i : ℕ) → occurrences i zs ≤ 1) ys (λ _. once) (λ e i. rw (occurrences_append i ys (x ∷ [])) (new e i))
    where
      new : contains ys x ≡ false → (i : ℕ) → occurrences i ys + (matching x i 1 + 0) ≤ 1
      new e i = ⊎_elim (λ d. here (eqb-true x i d)) (λ d. omega (arith, once i, matching_other x i 1 (eqb-false x i d))) (tested (eqb x i))
        where
          here : x ≡ i → occurrences i ys + (matching x i 1 + 0) ≤ 1
          here d = let z : occurrences i ys ≡ 0 = rw d at (none_contained x ys e) in omega (arith, matching_same x i 1 d)

  -- the count, where the code has it
  pub raised_there : (ys ns : List ℕ) (k : ℕ) → length ns ≡ length ys → k < length ys → contains (take k ys) x ≡ false → get_or ys k 0 ≡ x
      → raised x ys ns ≡ set ns k (get_or ns k 0 + 1)
  unfolding raised contains
  raised_there [] ns k s l h e = absurd (not-suc-le-zero l)
  raised_there (y ∷ ys) [] k s l h e = absurd (omega arith)
  raised_there (y ∷ ys) (n ∷ ns) zero s l h e = rw (eq-eqb y x e, add-one n)
  raised_there (y ∷ ys) (n ∷ ns) (suc k) s l h e =
      let o = or-false (eqb y x) (contains (take k ys) x) h in
      rw (o.0, raised_there ys ns k (omega arith) (omega arith) o.1 e)

  pub raised_new : (ys ns : List ℕ) → length ns ≡ length ys → contains ys x ≡ false → raised x ys ns ≡ ns ++ (1 ∷ [])
  unfolding raised contains
  raised_new [] [] s h = refl
  raised_new [] (n ∷ ns) s h = absurd (omega arith)
  raised_new (y ∷ ys) [] s h = absurd (omega arith)
  raised_new (y ∷ ys) (n ∷ ns) s h =
      let o = or-false (eqb y x) (contains ys x) h in
      rw (o.0, raised_new ys ns (omega arith) o.1)

  pub raised_most : (ys ns : List ℕ) (k : ℕ) → get_or (raised x ys ns) k 0 ≤ get_or ns k 0 + 1
  unfolding raised
  raised_most [] ns zero = omega arith
  raised_most [] ns (suc k) = omega arith
  raised_most (y ∷ ys) [] k = omega arith
  raised_most (y ∷ ys) (n ∷ ns) k = ⊎_elim (λ (e : eqb y x ≡ true). rw e (here k)) (λ (e : eqb y x ≡ false). rw e (there k (raised_most ys ns))) (tested (eqb y x))
    where
      here : (k : ℕ) → get_or (suc n ∷ ns) k 0 ≤ get_or (n ∷ ns) k 0 + 1
      here zero = omega arith
      here (suc k) = omega arith

      there : (k : ℕ) → ((j : ℕ) → get_or (raised x ys ns) j 0 ≤ get_or ns j 0 + 1) → get_or (n ∷ raised x ys ns) k 0 ≤ get_or (n ∷ ns) k 0 + 1
      there zero f = omega arith
      there (suc k) f = f k

  -- counts by a function, and the function with one pointer more
  module _ (f : ℕ → ℕ) where
    abbrev more : ℕ → ℕ
    more i = f i + matching x i 1

    pub uncounted : (ys : List ℕ) → contains ys x ≡ false → map f ys ≡ map more ys
    unfolding contains
    uncounted [] h = refl
    uncounted (y ∷ ys) h =
        let o = or-false (eqb y x) (contains ys x) h in
        let z = matching_other x y 1 (λ e. eqb-false y x o.0 (sym e)) in
        ap₂ ◌∷◌ (omega arith) (uncounted ys o.1)

    counts_there : (ys : List ℕ) → contains ys x ≡ true → occurrences x ys ≤ 1 → raised x ys (map f ys) ≡ map more ys
    unfolding raised contains occurrences
    counts_there [] h l = absurd (false≢true h)
    counts_there (y ∷ ys) h l =
        ⊎_elim (λ (e : eqb y x ≡ true). rw e (here (eqb-true y x e)))
        (λ (e : eqb y x ≡ false). rw e (there (eqb-false y x e) (counts_there ys (rw e at h))))
        (tested (eqb y x))
      where
        here : y ≡ x → suc (f y) ∷ map f ys ≡ (f y + matching x y 1) ∷ map more ys
        here e =
            let z : occurrences x ys ≡ 0 = omega (arith, matching_same y x 1 e) in
            let m = matching_same x y 1 (sym e) in
            ap₂ ◌∷◌ (omega arith) (uncounted ys (⊎_elim (λ d. absurd (some d z)) (λ d. d) (tested (contains ys x))))
          where
            some : contains ys x ≡ true → occurrences x ys ≡ 0 → ⊥
            some d z = let p = ltb-true 0 (occurrences x ys) (occurs_contains x ys ∙ d) in omega arith

        there : (y ≡ x → ⊥) → (occurrences x ys ≤ 1 → raised x ys (map f ys) ≡ map more ys) → f y ∷ raised x ys (map f ys) ≡ (f y + matching x y 1) ∷ map more ys
        there d ih = let m = matching_other x y 1 (λ e. d (sym e)) in ap₂ ◌∷◌ (omega arith) (ih (omega arith))

    pub counts_added : (ys : List ℕ) → occurrences x ys ≤ 1 → (contains ys x ≡ false → f x ≡ 0) → raised x ys (map f ys) ≡ map more (added x ys)
    counts_added ys l z = added_cases (λ (zs : List ℕ). raised x ys (map f ys) ≡ map more zs) ys (λ e. counts_there ys e l) new
      where
        new : contains ys x ≡ false → raised x ys (map f ys) ≡ map more (ys ++ (x ∷ []))
        new e =
            let o : 1 ≡ f x + matching x x 1 = omega (arith, z e, matching_same x x 1 refl) in
            raised_new ys (map f ys) (length-map ys f) e
            ∙ ap₂ ◌++◌ (uncounted ys e) (ap (λ (m : ℕ). m ∷ []) o) ∙ sym (map-append more ys (x ∷ []))
