-- Which cells of a store at rest are in use: those of a list that has the cells held and all that its cells point to, and has no others.
use mathlib.Core.Path.{◌≡◌, refl, sym, ◌∙◌}
use mathlib.Core.Logic.{◌⊎◌, inl, inr, ⊎_elim}
use mathlib.Core.Bool.{Bool, true, false, cond}
use mathlib.Core.List.{List, [], ◌∷◌}
use Prim.Native.Nat.{ℕ, zero, suc, ◌+◌, ◌*◌, ◌≤◌, ◌<◌, zero-le}
use native.Mathlib.Omega.{arith}
use lib.Dec.{eqb}
use lib.ListN.{length}
use borrow.Author.Tests.{eqb-true, eqb-false, eq-eqb}
use Rattle.machine.specs.declared.Queue.{Queue}
use Rattle.machine.specs.Range.{exists, select, matching, occurrences}
use Rattle.machine.specs.Table.{left, right, capacity, word_at, in_use, is_free}
use Rattle.machine.specs.Queue.{waiting}
use Rattle.machine.specs.Packets.{contains, waiting_change}
use Rattle.machine.specs.Counts.{pointers_from, pointers}
use Rattle.machine.specs.Questions.{cell_free}
use Rattle.machine.specs.Reached.{begun, onward, ReachedFrom}
use Rattle.machine.proofs.Range.{tested, or_true, or-false, not_both, exists_at, exists_some, matching_same, matching_other, total_same, total_le, total_lt, total_ones, total_add}
use Rattle.machine.proofs.Lists.{Indices, at_most_one}
use Rattle.machine.proofs.Table.{free_not_in_use, not_in_use_free}
use Rattle.machine.proofs.Chain.{total_occurrences}
use Rattle.machine.proofs.Select.{select_length}
use Rattle.soundness.specs.Demand3.{Holds, holds, Held}
use Rattle.soundness.specs.Reliable.{Fields}
use Rattle.soundness.proofs.Facts.{sound_facts}
use Rattle.soundness.proofs.ReachedCells.{points_by, points_cases, pointed_used}
use Rattle.soundness.proofs.RootsAreHolds.{Agrees}
use Rattle.soundness.proofs.Theorem.{from_held, exact_when_done}
use Rattle.soundness.proofs.Reliable.{none_waits}
use Rattle.resting.specs.Rests.{Rests, cells_in_use}

-- in a list, or not
pub occurs : (x : ℕ) (xs : List ℕ) → contains xs x ≡ true → 1 ≤ occurrences x xs
unfolding contains occurrences
occurs x (w ∷ xs) e =
    ⊎_elim (λ a. omega (arith, matching_same w x 1 (eqb-true w x a))) (λ a. omega (arith, occurs x xs a)) (or_true (eqb w x) (contains xs x) e)
occurs x [] e = absurd (let z : ◌≡◌ {A = ℕ} 0 1 = cc in omega arith)

pub occurs_not : (x : ℕ) (xs : List ℕ) → contains xs x ≡ false → occurrences x xs ≡ 0
unfolding contains occurrences
occurs_not x [] e = refl
occurs_not x (w ∷ xs) e =
    let o = or-false (eqb w x) (contains xs x) e in
    omega (arith, matching_other w x 1 (eqb-false w x o.0), occurs_not x xs o.1)

-- a cell is free exactly where fewer are in use than there are
pub some_free : (t : List ℕ) → cells_in_use t < capacity t → cell_free t ≡ true
unfolding cells_in_use cell_free
some_free t h = ⊎_elim (λ e. e) (λ e. absurd (omega (arith, all e))) (tested (exists (capacity t) (is_free t)))
  where
    used : exists (capacity t) (is_free t) ≡ false → (i : ℕ) → i < capacity t → ◌≡◌ {A = ℕ} (cond (in_use t i) 1 0) 1
    used e i l = ⊎_elim (λ (u : in_use t i ≡ true). rw u refl) (λ u. absurd (not_both (exists_some (capacity t) (is_free t) i l (not_in_use_free t i u)) e)) (tested (in_use t i))

    all : exists (capacity t) (is_free t) ≡ false → length (select (capacity t) (in_use t)) ≡ capacity t
    all e = select_length (capacity t) (in_use t) ∙ total_same (capacity t) (λ i. cond (in_use t i) 1 0) (λ i. 1) (used e) ∙ total_ones (capacity t)

pub none_free : (t : List ℕ) → cells_in_use t ≡ capacity t → cell_free t ≡ false
unfolding cells_in_use cell_free
none_free t h = ⊎_elim (λ e. absurd (some e)) (λ e. e) (tested (exists (capacity t) (is_free t)))
  where
    some : exists (capacity t) (is_free t) ≡ true → ⊥
    some e =
        let w = exists_at (capacity t) (is_free t) e in
        let u = free_not_in_use t w.0 w.2 in
        let z : ◌<◌ (cond (in_use t w.0) 1 0) 1 = rw u (omega arith) in
        omega (
          arith,
          select_length (capacity t) (in_use t),
          total_ones (capacity t),
          total_lt (capacity t) (λ i. cond (in_use t i) 1 0) (λ i. 1) w.0 w.1 (λ i l. at_most_one (in_use t i)) z,
        )

-- no more are in use than there are
pub in_use_within : (t : List ℕ) → cells_in_use t ≤ capacity t
unfolding cells_in_use
in_use_within t =
    omega (arith, select_length (capacity t) (in_use t), total_ones (capacity t), total_le (capacity t) (λ i. cond (in_use t i) 1 0) (λ i. 1) (λ i l. at_most_one (in_use t i)))

-- no more than two pointers come from each cell in use
pub pointers_few : (t : List ℕ) (x : ℕ) → pointers t x ≤ 2 * cells_in_use t
unfolding pointers pointers_from cells_in_use matching
pointers_few t x =
    let one : ℕ → ℕ = λ i. cond (in_use t i) 1 0 in
    omega (arith, select_length (capacity t) (in_use t), total_le (capacity t) (pointers_from t x) (λ i. one i + one i) each, total_add (capacity t) one one)
  where
    two : (u a b : Bool) → cond u (cond a 1 0 + cond b 1 0) 0 ≤ cond u 1 0 + cond u 1 0
    two true a b = omega (arith, at_most_one a, at_most_one b)
    two false a b = omega arith

    each : (i : ℕ) → i < capacity t → pointers_from t x i ≤ cond (in_use t i) 1 0 + cond (in_use t i) 1 0
    each i l = two (in_use t i) (eqb (word_at t i left) x) (eqb (word_at t i right) x)

module _ (t : List ℕ) (q : Queue) (hs : List ℕ) (f : ℕ → Fields) (k : Rests t q hs f) where
  abbrev h : ℕ → Holds
  h x = holds (occurrences x hs) 0

  agrees : Agrees t q h
  unfolding waiting_change
  agrees = record { whole = k.whole; roots = rw (none_waits q k.idle) (λ (i : ℕ) (l : i < capacity t). omega (arith, k.held i l)); owed = λ i l. zero-le }

  -- a cell held is in use, and so is a cell in a field of one in use
  pub held_used : (i : ℕ) → i < capacity t → 0 < occurrences (suc i) hs → in_use t i ≡ true
  held_used i l o = (from_held t q h agrees i o (begun l (eq-eqb i i refl))).1

  pub field_used : (j i : ℕ) → j < capacity t → i < capacity t → in_use t j ≡ true → ((f (suc j)).left ≡ suc i) ⊎ ((f (suc j)).right ≡ suc i) → in_use t i ≡ true
  field_used j i m l u e =
      let g = k.fields j m u in
      let p = pointed_used t (waiting q) (sound_facts t q k.whole.sound) j i m l u in
      ⊎_elim (λ d. p (points_by t j i left (omega arith) (g.0 ∙ d))) (λ d. p (points_by t j i right (omega arith) (g.1 ∙ d))) e

  -- a list of indices that has the cells held, and what the fields of its cells contain
  pub record Closed (cs : List ℕ) : Type 0 where
    pub holds : (i : ℕ) → i < capacity t → 0 < occurrences (suc i) hs → contains cs i ≡ true
    pub leads : (j i : ℕ) → j < capacity t → i < capacity t → contains cs j ≡ true → ((f (suc j)).left ≡ suc i) ⊎ ((f (suc j)).right ≡ suc i) → contains cs i ≡ true

  module _ (cs : List ℕ) (c : Closed cs) where
    reached_in : (j : ℕ) → Held t q h j → {i : ℕ} → ReachedFrom t j i → contains cs i ≡ true
    reached_in j g (begun {i = i} l e) = let d : j ≡ i = eqb-true j i e in c.holds i l (rw d at g)
    reached_in j g (onward {j = n} {i = i} r l e) =
        let b = from_held t q h agrees j g r in
        let w = k.fields n b.0 b.1 in
        c.leads n i b.0 l (reached_in j g r) (either w (points_cases t n i e))
      where
        either : {n i : ℕ} → (word_at t n left ≡ (f (suc n)).left) × (word_at t n right ≡ (f (suc n)).right) → (m : ℕ) × (m ≤ right) × (word_at t n m ≡ suc i)
            → ((f (suc n)).left ≡ suc i) ⊎ ((f (suc n)).right ≡ suc i)
        either {n} {i} w p = go p.0 p.1 p.2
          where
            go : (m : ℕ) → m ≤ right → word_at t n m ≡ suc i → ((f (suc n)).left ≡ suc i) ⊎ ((f (suc n)).right ≡ suc i)
            go zero l d = inl (sym w.0 ∙ d)
            go (suc zero) l d = inr (sym w.1 ∙ d)
            go (suc (suc m)) l d = absurd (omega arith)

    pub used_in : (i : ℕ) → i < capacity t → in_use t i ≡ true → contains cs i ≡ true
    used_in i l u = let w = (exact_when_done t q h agrees (none_waits q k.idle) i l).0 u in reached_in w.0 w.1 w.2

    -- at most so many are in use
    pub in_use_most : Indices (capacity t) cs → cells_in_use t ≤ length cs
    unfolding cells_in_use
    in_use_most below =
        omega (
          arith,
          select_length (capacity t) (in_use t),
          total_le (capacity t) (λ i. cond (in_use t i) 1 0) (λ i. occurrences i cs) (λ i l. go i l (in_use t i) refl),
          total_occurrences (capacity t) cs below,
        )
      where
        go : (i : ℕ) → i < capacity t → (b : Bool) → in_use t i ≡ b → cond b 1 0 ≤ occurrences i cs
        go i l true e = omega (arith, occurs i cs (used_in i l e))
        go i l false e = omega arith

    -- and just so many where each is listed once
    pub in_use_exactly : Indices (capacity t) cs → ((i : ℕ) → occurrences i cs ≤ 1) → ((i : ℕ) → i < capacity t → contains cs i ≡ true → in_use t i ≡ true)
        → cells_in_use t ≡ length cs
    unfolding cells_in_use
    in_use_exactly below once used =
        select_length (capacity t) (in_use t)
        ∙ total_same (capacity t) (λ i. cond (in_use t i) 1 0) (λ i. occurrences i cs) (λ i l. go i l (in_use t i) refl)
        ∙ total_occurrences (capacity t) cs below
      where
        go : (i : ℕ) → i < capacity t → (b : Bool) → in_use t i ≡ b → cond b 1 0 ≡ occurrences i cs
        go i l true e = omega (arith, once i, occurs i cs (used_in i l e))
        go i l false e = ⊎_elim (λ d. absurd (not_both (used i l d) e)) (λ d. omega (arith, occurs_not i cs d)) (tested (contains cs i))
