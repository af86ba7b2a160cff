-- S2's test says that the free chain meets every free cell once, from first to last.
use mathlib.Core.Path.{◌≡◌, refl, sym, ap, ap₂, ◌∙◌}
use mathlib.Core.Logic.{⊎_elim, ◌↔◌}
use mathlib.Core.Bool.{Bool, true, false, cond, ◌&&◌, ◌||◌}
use mathlib.Core.List.{List, [], ◌∷◌, map}
use Prim.Native.Nat.{ℕ, zero, suc, pred, ◌+◌, ◌≤◌, ◌<◌}
use native.Mathlib.Omega.{arith}
use native.Mathlib.Nat.{not-suc-le-zero}
use lib.Dec.{eqb, eqb-suc-zero, eqb-suc-suc}
use lib.ListN.{length, length-map}
use borrow.Author.Tests.{eqb-true, eq-eqb}
use Rattle.machine.specs.Range.{every, total, matching, occurrences, every_of, last_of}
use Rattle.machine.specs.Words.{is_cell}
use Rattle.machine.specs.Table.{stride, left, right, capacity, first_free, last_free, word_at, in_use, is_free}
use Rattle.machine.specs.Calls.{field}
use Rattle.machine.specs.Audit.{walk, free_chain, laid_out, met_once, chain_sound}
use Rattle.machine.specs.Facts.{Linked, Chain}
use Rattle.machine.proofs.Range.{tested, or_left, or_right, and_both, and_first, and_second, every_at, every_all, total_le, total_add, total_ones, total_zero, total_one}
use Rattle.machine.proofs.Lists.{at_most_one, Indices}
use Rattle.machine.proofs.Table.{free_not_in_use, not_in_use_free}
use Rattle.machine.proofs.Words.{cell_index, cell_number_lem, index_cell}

-- indices as numbers
pub matching_suc : (w x n : ℕ) → matching (suc w) (suc x) n ≡ matching w x n
unfolding matching
matching_suc w x n = rw (eqb-suc-suc w x)

occurrences_suc : (x : ℕ) (is : List ℕ) → occurrences (suc x) (map suc is) ≡ occurrences x is
unfolding occurrences
occurrences_suc x [] = refl
occurrences_suc x (i ∷ is) = rw (matching_suc i x 1, occurrences_suc x is)

-- the indices below c, each counted as often as it stands in a list, are the list's length
pub total_occurrences : (c : ℕ) (is : List ℕ) → Indices c is → total c (λ i. occurrences i is) ≡ length is
unfolding occurrences
total_occurrences c [] p = total_zero c
total_occurrences c (i ∷ is) p =
    total_add c (λ j. matching i j 1) (λ j. occurrences j is) ∙ ap₂ ◌+◌ (total_one c i p.0) (total_occurrences c is p.1) ∙ omega arith

-- no index twice: no more than there are
few : (c : ℕ) (is : List ℕ) → Indices c is → ((i : ℕ) → i < c → occurrences i is ≤ 1) → length is ≤ c
few c is p h = omega (arith, total_occurrences c is p, total_le c (λ i. occurrences i is) (λ i. 1) h, total_ones c)

pub linked_indices : (t : List ℕ) (w : ℕ) (is : List ℕ) → Linked t w is → Indices (capacity t) is
linked_indices t w [] h = tt
linked_indices t w (i ∷ is) h = (h.1, linked_indices t (word_at t i left) is h.2)

walk_stop : (t : List ℕ) (n w : ℕ) → eqb w 0 ≡ true → walk t (suc n) w ≡ []
unfolding walk
walk_stop t n w e = rw e

walk_on : (t : List ℕ) (n w : ℕ) → eqb w 0 ≡ false → walk t (suc n) w ≡ w ∷ walk t n (field t w left)
unfolding walk
walk_on t n w e = rw e

-- a walk that ends before its steps run out is a linked list
walk_linked : (t : List ℕ) (n w : ℕ) → length (walk t n w) < n → every_of (walk t n w) (is_cell (capacity t)) ≡ true → Linked t w (map pred (walk t n w))
unfolding field every_of
walk_linked t zero w l h = absurd (not-suc-le-zero l)
walk_linked t (suc n) w l h = ⊎_elim stop (λ e. on e (λ k m. walk_linked t n (field t w left) k m)) (tested (eqb w 0))
  where
    stop : eqb w 0 ≡ true → Linked t w (map pred (walk t (suc n) w))
    stop e = rw (walk_stop t n w e) (eqb-true w 0 e)

    on : eqb w 0 ≡ false → (length (walk t n (field t w left)) < n → every_of (walk t n (field t w left)) (is_cell (capacity t)) ≡ true → Linked t (field t w left) (map pred (walk t n (field t w left)))) → Linked t w (map pred (walk t (suc n) w))
    on e f =
        let h' = rw (walk_on t n w e) at h in
        let l' = rw (walk_on t n w e) at l in
        let first = and_first (is_cell (capacity t) w) (every_of (walk t n (word_at t (pred w) left)) (is_cell (capacity t))) h' in
        let rest = and_second (is_cell (capacity t) w) (every_of (walk t n (word_at t (pred w) left)) (is_cell (capacity t))) h' in
        rw (walk_on t n w e) (cell_number_lem (capacity t) w first, cell_index (capacity t) w first, f (omega arith) rest)

-- and the numbers of its indices are the walk
walk_numbers : (c : ℕ) (ws : List ℕ) → every_of ws (is_cell c) ≡ true → map suc (map pred ws) ≡ ws
unfolding every_of
walk_numbers c [] h = refl
walk_numbers c (w ∷ ws) h =
    ap₂ ◌∷◌ (sym (cell_number_lem c w (and_first (is_cell c w) (every_of ws (is_cell c)) h))) (walk_numbers c ws (and_second (is_cell c w) (every_of ws (is_cell c)) h))

-- a linked list is what the walk meets, in steps enough
linked_walk : (t : List ℕ) (n w : ℕ) (is : List ℕ) → Linked t w is → length is < n → walk t n w ≡ map suc is
unfolding field
linked_walk t zero w is h l = absurd (not-suc-le-zero l)
linked_walk t (suc n) w [] h l = walk_stop t n w (eq-eqb w 0 h)
linked_walk t (suc n) w (i ∷ is) h l =
    walk_on t n w (rw h.0 (eqb-suc-zero i)) ∙ ap₂ ◌∷◌ h.0 (ap (λ (x : ℕ). walk t n (field t x left)) h.0 ∙ again (linked_walk t n (word_at t i left) is h.2 (omega arith)))
  where
    again : walk t n (word_at t i left) ≡ map suc is → walk t n (field t (suc i) left) ≡ map suc is
    again e = e

numbers_cells : (c : ℕ) (is : List ℕ) → Indices c is → every_of (map suc is) (is_cell c) ≡ true
unfolding every_of
numbers_cells c [] p = refl
numbers_cells c (i ∷ is) p = and_both (index_cell c i p.0) (numbers_cells c is p.1)

pub laid_wiped : (t : List ℕ) (i : ℕ) → laid_out t i ≡ true → (k : ℕ) → right ≤ k → k < stride → word_at t i k ≡ 0
unfolding laid_out
laid_wiped t i h zero low high = absurd (not-suc-le-zero low)
laid_wiped t i h (suc k) low high =
    eqb-true (word_at t i (suc k)) 0 (every_at (pred stride) (λ (n : ℕ). eqb (word_at t i (suc n)) 0) h k (omega arith))

wiped_laid : (t : List ℕ) (i : ℕ) → ((k : ℕ) → right ≤ k → k < stride → word_at t i k ≡ 0) → laid_out t i ≡ true
unfolding laid_out
wiped_laid t i f =
    every_all (pred stride) (λ (n : ℕ). eqb (word_at t i (suc n)) 0) (λ k l. eq-eqb (word_at t i (suc k)) 0 (f (suc k) (omega arith) (omega arith)))

module _ (t : List ℕ) (h : chain_sound t ≡ true) where
  abbrev met : List ℕ
  met = free_chain t

  abbrev all_cells : Bool
  all_cells = every_of met (is_cell (capacity t))

  abbrev all_once : Bool
  all_once = every (capacity t) (met_once t met)

  abbrev last_meets : Bool
  last_meets = eqb (last_of met) (last_free t)

  abbrev all_laid : Bool
  all_laid = every (capacity t) (λ i. in_use t i || laid_out t i)

  tests : (all_cells && all_once && last_meets && all_laid) ≡ true
  unfolding chain_sound
  tests = h

  met_cells : all_cells ≡ true
  met_cells = and_first all_cells all_once (and_first (all_cells && all_once) last_meets (and_first (all_cells && all_once && last_meets) all_laid tests))

  met_once_lem : (i : ℕ) → i < capacity t → occurrences (suc i) met ≡ cond (is_free t i) 1 0
  unfolding met_once
  met_once_lem i l =
      eqb-true (occurrences (suc i) met) (cond (is_free t i) 1 0)
      (every_at (capacity t) (met_once t met) (and_second all_cells all_once (and_first (all_cells && all_once) last_meets (and_first (all_cells && all_once && last_meets) all_laid tests))) i l)

  indices : List ℕ
  indices = map pred met

  numbers_of : map suc indices ≡ met
  unfolding indices
  numbers_of = walk_numbers (capacity t) met met_cells

  indices_once : (i : ℕ) → i < capacity t → occurrences i indices ≡ cond (is_free t i) 1 0
  indices_once i l = sym (occurrences_suc i indices) ∙ ap (occurrences (suc i)) numbers_of ∙ met_once_lem i l

  indices_below : (ws : List ℕ) → every_of ws (is_cell (capacity t)) ≡ true → Indices (capacity t) (map pred ws)
  unfolding every_of
  indices_below [] e = tt
  indices_below (w ∷ ws) e = (
    cell_index (capacity t) w (and_first (is_cell (capacity t) w) (every_of ws (is_cell (capacity t))) e),
    indices_below ws (and_second (is_cell (capacity t) w) (every_of ws (is_cell (capacity t))) e),
  )

  met_few : length met < suc (capacity t)
  unfolding indices
  met_few =
      let n : length (map pred met) ≤ capacity t = few (capacity t) (map pred met) (indices_below met met_cells) (λ i l. rw (indices_once i l) (at_most_one (is_free t i))) in
      omega (arith, length-map met pred)

  laid : (i : ℕ) → i < capacity t → is_free t i ≡ true → laid_out t i ≡ true
  laid i l f =
      let e = every_at (capacity t) (λ j. in_use t j || laid_out t j) (and_second (all_cells && all_once && last_meets) all_laid tests) i l in
      rw (free_not_in_use t i f) at e

  pub chain_facts : Chain t (map pred (free_chain t))
  unfolding indices free_chain
  chain_facts = record {
    linked = walk_linked t (suc (capacity t)) (first_free t) met_few met_cells;
    ends = ap last_of numbers_of ∙ eqb-true (last_of met) (last_free t) (and_second (all_cells && all_once) last_meets (and_first (all_cells && all_once && last_meets) all_laid tests));
    once = indices_once;
    wiped = λ i k l f. laid_wiped t i (laid i l f) k;
  }

module _ (t : List ℕ) (is : List ℕ) (h : Chain t is) where
  below : Indices (capacity t) is
  below = linked_indices t (first_free t) is h.linked

  pub chain_few : length is ≤ capacity t
  chain_few = few (capacity t) is below (λ i l. rw (h.once i l) (at_most_one (is_free t i)))

  pub chain_met : free_chain t ≡ map suc is
  unfolding free_chain
  chain_met = linked_walk t (suc (capacity t)) (first_free t) is h.linked (omega (arith, chain_few))

  once_test : (i : ℕ) → i < capacity t → met_once t (map suc is) i ≡ true
  unfolding met_once
  once_test i l = eq-eqb (occurrences (suc i) (map suc is)) (cond (is_free t i) 1 0) (occurrences_suc i is ∙ h.once i l)

  laid_test : (i : ℕ) → i < capacity t → in_use t i || laid_out t i ≡ true
  laid_test i l =
      ⊎_elim (λ e. or_left (laid_out t i) e)
      (λ e. or_right (in_use t i) (wiped_laid t i (λ k. h.wiped i k l (not_in_use_free t i e))))
      (tested (in_use t i))

  pub chain_test : chain_sound t ≡ true
  unfolding chain_sound
  chain_test =
      rw chain_met
      (and_both (and_both (and_both (numbers_cells (capacity t) is below) (every_all (capacity t) (met_once t (map suc is)) once_test))
      (eq-eqb (last_of (map suc is)) (last_free t) h.ends))
      (every_all (capacity t) (λ i. in_use t i || laid_out t i) laid_test))

-- S2's meaning
pub chain_is : (t : List ℕ) → (chain_sound t ≡ true) ↔ ((is : List ℕ) × Chain t is)
chain_is t = (λ h. (map pred (free_chain t), chain_facts t h), λ w. chain_test t w.0 w.1)
