-- A walk's cells: each is earned, and what was met is in; following one more keeps that, and once all are followed they are what the starts lead on to.
use mathlib.Core.Path.{◌≡◌, refl, sym, ap, fun_ext, ◌∙◌}
use mathlib.Core.Logic.{⊎_elim}
use mathlib.Core.Bool.{Bool, true, false, cond, not, ◌&&◌}
use mathlib.Core.List.{List, [], ◌∷◌, ◌++◌, map}
use Prim.Native.Nat.{ℕ, suc, pred, ◌+◌, ◌≤◌, ◌<◌}
use native.Mathlib.Omega.{arith}
use lib.Dec.{eqb}
use lib.ListN.{length, get_or, take}
use lib.Seq.{take-suc}
use borrow.Author.Tests.{eqb-true, eqb-false, eq-eqb, not-true}
use Rattle.machine.specs.Range.{matching, occurrences, select}
use Rattle.machine.specs.Words.{is_cell}
use Rattle.machine.specs.Table.{left, right, capacity, word_at}
use Rattle.machine.specs.Packets.{contains}
use Rattle.machine.specs.Reached.{is_root, points_to, ReachedBy, begun, onward, reached_by}
use Rattle.machine.specs.Facts.{pointers_out}
use Rattle.machine.specs.Suspects.{leads_on}
use Rattle.machine.proofs.Range.{tested, not_both, lt_or_ge, or_left, or_right, and_both, and_first, and_second, matching_other}
use Rattle.machine.proofs.Lists.{Indices}
use Rattle.machine.proofs.Words.{cell_index, cell_number_lem, index_cell}
use Rattle.machine.proofs.Reached.{computed, computes}
use Rattle.machine.proofs.Chain.{matching_suc}
use Rattle.machine.proofs.Names.{none_contained}
use Rattle.machine.proofs.Select.{few_selected}
use Rattle.walks.specs.Walk.{Walked}
use Rattle.walks.specs.Tally.{Tally, added, raised, counted, is_entered, met, followed}
use Rattle.walks.proofs.Places.{contains_at}
use Rattle.walks.proofs.Tally.{added_front, added_keeps, added_here, added_all, added_once, counts_added}
use Rattle.walks.proofs.Counting.{met_cases, met_longer}
use Rattle.walks.proofs.Pointers.{out_snoc, out_some, map_same}

-- f says how often each word was met
pub record Walking (t starts : List ℕ) (f : ℕ → ℕ) (y : Tally) : Type 0 where
  pub no_roots : (i : ℕ) → contains y.cells i ≡ true → is_root t i ≡ false
  pub once : (i : ℕ) → occurrences i y.cells ≤ 1
  pub started : (i : ℕ) → contains starts i ≡ true → contains y.cells i ≡ true
  pub earned : (i : ℕ) → contains y.cells i ≡ true → ReachedBy (capacity t) (contains starts) (leads_on t) i
  pub entered : (i : ℕ) → i < capacity t → is_root t i ≡ false → 0 < f (suc i) → contains y.cells i ≡ true
  pub counts : y.counts ≡ map (λ i. f (suc i)) y.cells

-- what is entered
pub record Entered (t : List ℕ) (w : ℕ) : Type 0 where
  pub index : pred w < capacity t
  pub number : w ≡ suc (pred w)
  pub no_root : is_root t (pred w) ≡ false

entered_is : (t : List ℕ) (w : ℕ) → is_entered t w ≡ true → Entered t w
unfolding is_entered
entered_is t w h =
    let e = and_first (is_cell (capacity t) w) (not (is_root t (pred w))) h in
    record {
      index = cell_index (capacity t) w e;
      number = cell_number_lem (capacity t) w e;
      no_root = not-true (is_root t (pred w)) (and_second (is_cell (capacity t) w) (not (is_root t (pred w))) h);
    }

is_entered_lem : (t : List ℕ) (i : ℕ) → i < capacity t → is_root t i ≡ false → is_entered t (suc i) ≡ true
unfolding is_entered
is_entered_lem t i l h = and_both (index_cell (capacity t) i l) (rw h)

module _ (t starts : List ℕ) where
  abbrev Got : ℕ → Type 0
  Got = ReachedBy (capacity t) (contains starts) (leads_on t)

  pub got_below : {i : ℕ} → Got i → i < capacity t
  got_below (begun l e) = l
  got_below (onward r l e) = l

  -- a word met
  module _ (f : ℕ → ℕ) (w : ℕ) (y : Tally) (h : Walking t starts f y) where
    abbrev more : ℕ → ℕ
    more x = f x + matching w x 1

    passed_over : is_entered t w ≡ false → Walking t starts more y
    passed_over out = record {
      no_roots = h.no_roots;
      once = h.once;
      started = h.started;
      earned = h.earned;
      entered = λ i l r g. h.entered i l r (omega (arith, other i l r));
      counts = h.counts ∙ map_same (λ i. f (suc i)) (λ i. more (suc i)) y.cells (λ i m. let z = other i (got_below (h.earned i m)) (h.no_roots i m) in omega arith);
    }
      where
        other : (i : ℕ) → i < capacity t → is_root t i ≡ false → matching w (suc i) 1 ≡ 0
        other i l r = matching_other w (suc i) 1 (λ e. not_both (is_entered_lem t i l r) (rw e at out))

    gone_into : Entered t w → Got (pred w) → Walking t starts more (counted (pred w) y)
    gone_into e got = record {
      no_roots = added_all (pred w) (λ (i : ℕ). is_root t i ≡ false) y.cells h.no_roots e.no_root;
      once = added_once (pred w) y.cells h.once;
      started = λ i m. added_keeps (pred w) y.cells i (h.started i m);
      earned = added_all (pred w) Got y.cells h.earned got;
      entered = λ i l r g. ⊎_elim (λ d. added_here (pred w) y.cells i (ap pred (eqb-true w (suc i) d)))
          (λ d. let z = matching_other w (suc i) 1 (eqb-false w (suc i) d) in added_keeps (pred w) y.cells i (h.entered i l r (omega arith)))
          (tested (eqb w (suc i)));
      counts = ap (raised (pred w) y.cells) h.counts
          ∙ counts_added (pred w) (λ i. f (suc i)) y.cells (h.once (pred w)) new
          ∙ ap (λ (g : ℕ → ℕ). map g (added (pred w) y.cells)) (fun_ext (λ i. ap (λ (m : ℕ). f (suc i) + m) (number i)));
    }
      where
        new : contains y.cells (pred w) ≡ false → f (suc (pred w)) ≡ 0
        new d =
            ⊎_elim (λ l. absurd (not_both (h.entered (pred w) e.index e.no_root l) d)) (λ l. omega arith) (lt_or_ge 0 (f (suc (pred w))))

        number : (i : ℕ) → matching (pred w) i 1 ≡ matching w (suc i) 1
        number i = sym (matching_suc (pred w) i 1) ∙ ap (λ (x : ℕ). matching x (suc i) 1) (sym e.number)

    walking_met : (Entered t w → Got (pred w)) → Walking t starts more (met t w y)
    walking_met g = met_cases t w y (Walking t starts more) passed_over (λ e. gone_into (entered_is t w e) (g (entered_is t w e)))

  met_front : (w n : ℕ) (y : Tally) → n ≤ length y.cells → take n (met t w y).cells ≡ take n y.cells
  met_front w n y l = met_cases t w y (λ (z : Tally). take n z.cells ≡ take n y.cells) (λ _. refl) (λ _. added_front (pred w) n y.cells l)

  -- the cell at place i followed
  module _ (i : ℕ) (y : Tally) (h : Walking t starts (pointers_out t (take i y.cells)) y) (l : i < length y.cells) where
    abbrev x : ℕ
    x = get_or y.cells i 0

    abbrev v : ℕ
    v = word_at t x left

    abbrev w : ℕ
    w = word_at t x right

    onto : (z : ℕ) → Entered t z → points_to t x (pred z) ≡ true → Got (pred z)
    unfolding leads_on
    onto z e p = onward (h.earned x (contains_at y.cells i x l refl)) e.index (and_both p (rw e.no_root))

    onto_left : Entered t v → Got (pred v)
    unfolding points_to
    onto_left e = onto v e (or_left (eqb w (suc (pred v))) (eq-eqb v (suc (pred v)) e.number))

    onto_right : Entered t w → Got (pred w)
    unfolding points_to
    onto_right e = onto w e (or_right (eqb v (suc (pred w))) (eq-eqb w (suc (pred w)) e.number))

    pub followed_longer : length y.cells ≤ length (followed t i y).cells
    unfolding followed
    followed_longer = omega (arith, met_longer t v y, met_longer t w (met t v y))

    pub walking_followed : Walking t starts (pointers_out t (take (suc i) (followed t i y).cells)) (followed t i y)
    unfolding followed
    walking_followed =
        rw (front, fun_ext (out_snoc t (take i y.cells) x))
        (walking_met (λ z. pointers_out t (take i y.cells) z + matching v z 1) w (met t v y) (walking_met (pointers_out t (take i y.cells)) v y h onto_left) onto_right)
      where
        front : take (suc i) (met t w (met t v y)).cells ≡ take i y.cells ++ (x ∷ [])
        front =
            met_front w (suc i) (met t v y) (omega (arith, met_longer t v y)) ∙ met_front v (suc i) y l ∙ take-suc y.cells i 0 l

  -- all cells are earned: no more of them than are reached
  pub few_reached : (f : ℕ → ℕ) (y : Tally) → Walking t starts f y → length y.cells ≤ length (select (capacity t) (reached_by (capacity t) (contains starts) (leads_on t)))
  few_reached f y h = few_selected (capacity t) reach y.cells (indices y.cells (λ i m. got_below (h.earned i m))) once
    where
      reach : ℕ → Bool
      reach = reached_by (capacity t) (contains starts) (leads_on t)

      indices : (is : List ℕ) → ((i : ℕ) → contains is i ≡ true → i < capacity t) → Indices (capacity t) is
      indices [] g = tt
      indices (i ∷ is) g = (g i (unfold contains in or_left (contains is i) (eq-eqb i i refl)), indices is (λ j m. g j (unfold contains in or_right (eqb i j) m)))

      once : (i : ℕ) → i < capacity t → occurrences i y.cells ≤ cond (reach i) 1 0
      once i l =
          ⊎_elim (λ (e : reach i ≡ true). rw e (h.once i))
          (λ (e : reach i ≡ false). rw e (omega (arith, none_contained i y.cells (⊎_elim (λ m. absurd (not_both (computes (capacity t) (contains starts) (leads_on t) (h.earned i m)) e)) (λ m. m) (tested (contains y.cells i))))))
          (tested (reach i))

  -- all cells are followed
  pub walked : (y : Tally) → Walking t starts (pointers_out t y.cells) y → Walked t starts y.cells y.counts
  walked y h = record { members = members; below = λ i m. got_below (h.earned i m); once = h.once; counts = h.counts }
    where
      closed : {i : ℕ} → Got i → contains y.cells i ≡ true
      closed (begun {i = i} l e) = h.started i e
      closed (onward {j = j} {i = i} r l e) =
          let o : points_to t j i && not (is_root t i) ≡ true = unfold leads_on in e in
          h.entered i l (not-true (is_root t i) (and_second (points_to t j i) (not (is_root t i)) o))
          (out_some t y.cells j i (closed r) (and_first (points_to t j i) (not (is_root t i)) o))

      members : (i : ℕ) → contains y.cells i ≡ reached_by (capacity t) (contains starts) (leads_on t) i
      members i =
          ⊎_elim (λ (e : contains y.cells i ≡ true). e ∙ sym (computes (capacity t) (contains starts) (leads_on t) (h.earned i e)))
          (λ e. e ∙ sym (⊎_elim (λ d. absurd (not_both (closed (computed (capacity t) (contains starts) (leads_on t) i d)) e)) (λ d. d)
          (tested (reached_by (capacity t) (contains starts) (leads_on t) i)))) (tested (contains y.cells i))
