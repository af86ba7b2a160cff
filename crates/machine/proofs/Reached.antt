-- Inductive and computed reached are the same: a round of spreading either adds a mark or changes nothing, so c rounds are enough.
use mathlib.Core.Path.{◌≡◌, sym, ◌∙◌}
use mathlib.Core.Logic.{◌⊎◌, inl, inr, ⊎_elim, ◌↔◌}
use mathlib.Core.Bool.{Bool, true, false, cond, not, ◌&&◌, ◌||◌, false≢true}
use mathlib.Core.List.{List}
use Prim.Native.Nat.{ℕ, zero, suc, ◌≤◌, ◌<◌}
use native.Mathlib.Omega.{arith}
use native.Mathlib.Decide.{le_ind}
use lib.ListN.{get_or-eq_default}
use Rattle.machine.specs.Range.{every, exists, total, tabulate}
use Rattle.machine.specs.Table.{capacity}
use Rattle.machine.specs.Reached.{is_root, points_to, ReachedBy, begun, onward, Reached, ReachedFrom, marked, spread, marks, reached_by, reached, reached_from}
use borrow.Author.Tests.{not-false}
use lib.Dec.{eqb}
use Rattle.machine.proofs.Range.{tested, lt_or_ge, or-false, or_true, or_left, or_right, and_both, and_first, and_second, every_at, every_not, exists_at, exists_some, total_lt, total_ones, length_tabulate, get_d_tabulate}

-- a mark of a table of tests is a test passed below its bound
marked_tabulate : (c : ℕ) (f : ℕ → Bool) (i : ℕ) → marked (tabulate c f) i ≡ true → (i < c) × (f i ≡ true)
unfolding marked
marked_tabulate c f i h = ⊎_elim inside outside (lt_or_ge i c)
  where
    inside : i < c → (i < c) × (f i ≡ true)
    inside l = (l, sym (get_d_tabulate c f i l) ∙ h)

    outside : c ≤ i → (i < c) × (f i ≡ true)
    outside l = absurd (false≢true (sym (get_or-eq_default (tabulate c f) false (rw (length_tabulate c f) l)) ∙ h))

tabulate_marked : (c : ℕ) (f : ℕ → Bool) (i : ℕ) → i < c → f i ≡ true → marked (tabulate c f) i ≡ true
unfolding marked
tabulate_marked c f i l h = get_d_tabulate c f i l ∙ h

module _ (c : ℕ) (start : ℕ → Bool) (edge : ℕ → ℕ → Bool) where
  abbrev from : List Bool → ℕ → ℕ → Bool
  from ms i j = marked ms j && edge j i

  -- what one round gives
  spread_cases : (ms : List Bool) (i : ℕ) → marked (spread c edge ms) i ≡ true → (i < c) × ((marked ms i ≡ true) ⊎ ((j : ℕ) × (j < c) × (from ms i j ≡ true)))
  unfolding spread
  spread_cases ms i h =
      let m = marked_tabulate c (λ k. marked ms k || exists c (from ms k)) i h in
      (m.0, ⊎_elim inl (λ e. inr (exists_at c (from ms i) e)) (or_true (marked ms i) (exists c (from ms i)) m.1))

  spread_stays : (ms : List Bool) (i : ℕ) → i < c → marked ms i ≡ true → marked (spread c edge ms) i ≡ true
  unfolding spread
  spread_stays ms i l h = tabulate_marked c (λ k. marked ms k || exists c (from ms k)) i l (or_left (exists c (from ms i)) h)

  spread_edge : (ms : List Bool) (i j : ℕ) → i < c → j < c → marked ms j ≡ true → edge j i ≡ true → marked (spread c edge ms) i ≡ true
  unfolding spread
  spread_edge ms i j l m h e =
      tabulate_marked c (λ k. marked ms k || exists c (from ms k)) i l
      (or_right (marked ms i) (exists_some c (from ms i) j m (and_both h e)))

  -- a mark is earned
  marks_reached : (n i : ℕ) → marked (marks c start edge n) i ≡ true → ReachedBy c start edge i
  unfolding marks
  marks_reached zero i h = let m = marked_tabulate c start i h in begun m.0 m.1
  marks_reached (suc n) i h =
      let m = spread_cases (marks c start edge n) i h in
      ⊎_elim (λ e. marks_reached n i e)
      (λ w. onward (marks_reached n w.0 (and_first (marked (marks c start edge n) w.0) (edge w.0 i) w.2)) m.0 (and_second (marked (marks c start edge n) w.0) (edge w.0 i) w.2))
      m.1

  reached_below : {i : ℕ} → ReachedBy c start edge i → i < c
  reached_below (begun l e) = l
  reached_below (onward r l e) = l

  -- marks stay
  marks_later : (n m i : ℕ) → n ≤ m → marked (marks c start edge n) i ≡ true → marked (marks c start edge m) i ≡ true
  unfolding marks
  marks_later n m i l h =
      le_ind (λ (k : ℕ). marked (marks c start edge k) i ≡ true) h
      (λ k _ e. spread_stays (marks c start edge k) i (reached_below (marks_reached n i h)) e) m l

  -- marks that a round does not add to
  Stable : List Bool → Type 0
  Stable ms = (i : ℕ) → i < c → marked (spread c edge ms) i ≡ true → marked ms i ≡ true

  stable_all : (n : ℕ) → Stable (marks c start edge n) → {i : ℕ} → ReachedBy c start edge i → marked (marks c start edge n) i ≡ true
  unfolding Stable marks
  stable_all n s (begun {i = i} l e) = marks_later zero n i (omega arith) (tabulate_marked c start i l e)
  stable_all n s (onward {j = j} {i = i} r l e) =
      s i l (spread_edge (marks c start edge n) i j l (reached_below r) (stable_all n s r) e)

  -- how many cells are marked
  abbrev bit : List Bool → ℕ → ℕ
  bit ms i = cond (marked ms i) 1 0

  count : List Bool → ℕ
  count ms = total c (bit ms)

  bit_le : (ms : List Bool) (i : ℕ) → i < c → bit ms i ≤ bit (spread c edge ms) i
  bit_le ms i l = ⊎_elim (λ (e : marked ms i ≡ true). rw (e, spread_stays ms i l e) (omega arith)) (λ (e : marked ms i ≡ false). rw e (omega arith)) (tested (marked ms i))

  stable_or_more : (ms : List Bool) → Stable ms ⊎ (count ms < count (spread c edge ms))
  unfolding Stable count
  stable_or_more ms = ⊎_elim (λ e. inl (λ i l h. settled e i l h)) (λ e. inr (more (every_not c test e))) (tested (every c test))
    where
      test : ℕ → Bool
      test i = not (marked (spread c edge ms) i) || marked ms i

      settled : every c test ≡ true → (i : ℕ) → i < c → marked (spread c edge ms) i ≡ true → marked ms i ≡ true
      settled e i l h = let k : not (marked (spread c edge ms) i) || marked ms i ≡ true = every_at c test e i l in rw h at k

      more : (i : ℕ) × (i < c) × (test i ≡ false) → total c (bit ms) < total c (bit (spread c edge ms))
      more w =
          let o = or-false (not (marked (spread c edge ms) w.0)) (marked ms w.0) w.2 in
          total_lt c (bit ms) (bit (spread c edge ms)) w.0 w.1 (bit_le ms)
          (rw (o.1, not-false (marked (spread c edge ms) w.0) o.0) (omega arith))

  -- n rounds have come to rest, or have marked n cells
  grown : (n : ℕ) → ((k : ℕ) × (k ≤ n) × Stable (marks c start edge k)) ⊎ (n ≤ count (marks c start edge n))
  unfolding marks
  grown zero = inr (omega arith)
  grown (suc n) = ⊎_elim (λ w. inl (earlier w)) (λ h. ⊎_elim (λ s. inl (n, omega arith, s)) (λ l. inr (counted h l)) (stable_or_more (marks c start edge n))) (grown n)
    where
      earlier : (k : ℕ) × (k ≤ n) × Stable (marks c start edge k) → (k : ℕ) × (k ≤ suc n) × Stable (marks c start edge k)
      earlier w = let l = w.1 in (w.0, omega arith, w.2)

      counted : n ≤ count (marks c start edge n) → count (marks c start edge n) < count (spread c edge (marks c start edge n)) → suc n ≤ count (spread c edge (marks c start edge n))
      counted h l = omega arith

  full : (ms : List Bool) → c ≤ count ms → (i : ℕ) → i < c → marked ms i ≡ true
  unfolding count
  full ms h i l = ⊎_elim (λ e. e) (λ e. absurd (short e)) (tested (marked ms i))
    where
      most : (k : ℕ) → k < c → bit ms k ≤ 1
      most k m = ⊎_elim (λ (e : marked ms k ≡ true). rw e (omega arith)) (λ (e : marked ms k ≡ false). rw e (omega arith)) (tested (marked ms k))

      short : marked ms i ≡ false → ⊥
      short e =
          let less : total c (bit ms) < total c (λ k. 1) = total_lt c (bit ms) (λ k. 1) i l most (rw e (omega arith)) in
          omega (arith, total_ones c)

  pub computed : (i : ℕ) → reached_by c start edge i ≡ true → ReachedBy c start edge i
  unfolding reached_by
  computed i h = marks_reached c i h

  pub computes : {i : ℕ} → ReachedBy c start edge i → reached_by c start edge i ≡ true
  unfolding reached_by
  computes {i} r =
      ⊎_elim (λ w. marks_later w.0 c i w.1 (stable_all w.0 w.2 r)) (λ h. full (marks c start edge c) h i (reached_below r)) (grown c)

pub reached_is : (t : List ℕ) (i : ℕ) → (reached t i ≡ true) ↔ Reached t i
unfolding reached
reached_is t i = (computed (capacity t) (is_root t) (points_to t) i, λ r. computes (capacity t) (is_root t) (points_to t) r)

pub reached_from_is : (t : List ℕ) (j i : ℕ) → (reached_from t j i ≡ true) ↔ ReachedFrom t j i
unfolding reached_from
reached_from_is t j i = (computed (capacity t) (eqb j) (points_to t) i, λ r. computes (capacity t) (eqb j) (points_to t) r)
