-- The cell that has lost its last root: a walk may start there, and what it reaches are the suspects.
use mathlib.Core.Path.{◌≡◌, refl, sym, ◌∙◌}
use mathlib.Core.Logic.{⊎_elim}
use mathlib.Core.Bool.{true, false, not, ◌&&◌}
use mathlib.Core.List.{List, [], ◌∷◌}
use Prim.Native.Nat.{ℕ, suc, pred, ◌+◌, ◌-◌, ◌/◌, ◌≤◌, ◌<◌}
use native.Mathlib.Omega.{arith}
use lib.Dec.{eqb, ltb}
use borrow.Author.Tests.{eqb-true, eq-eqb, ltb-true, not-false}
use Rattle.machine.specs.Words.{is_cell}
use Rattle.machine.specs.Range.{matching, occurrences}
use Rattle.machine.specs.Table.{capacity}
use Rattle.machine.specs.Packets.{contains}
use Rattle.machine.specs.Reached.{is_root, reached_by}
use Rattle.machine.specs.Facts.{TableShape}
use Rattle.machine.specs.ShortWay.{stays_root}
use Rattle.machine.specs.Suspects.{is_lost, leads_on, is_suspect}
use Rattle.machine.proofs.Range.{tested, same_tests, or-false, and_both, and_first}
use Rattle.machine.proofs.Words.{cell_index, cell_number_lem}
use Rattle.machine.proofs.Lists.{at_most_one}
use Rattle.walks.specs.Walk.{most_walked, Starts}
use Rattle.walks.specs.Tally.{Tally, tally_of}
use Rattle.suspects.specs.Dead.{most_suspects}
use Rattle.suspects.proofs.Members.{contains_one}
use Rattle.suspects.proofs.Reaches.{reached_same}

-- there may be a suspect, and no more than a walk meets
pub most_range : (c : ℕ) → (1 ≤ most_suspects c) × (most_suspects c ≤ most_walked)
unfolding most_suspects
most_range c =
    ⊎_elim (λ (e : ltb (4 + c / 16) most_walked ≡ true). rw e (omega arith, omega (arith, ltb-true (4 + c / 16) most_walked e)))
    (λ (e : ltb (4 + c / 16) most_walked ≡ false). rw e (omega arith, omega arith)) (tested (ltb (4 + c / 16) most_walked))

module _ (t : List ℕ) (w : ℕ) (lost : stays_root t w ≡ false) where
  abbrev c : ℕ
  c = capacity t

  is_cell_lem : is_cell c w ≡ true
  unfolding stays_root
  is_cell_lem = not-false (is_cell c w) (or-false (not (is_cell c w)) (is_root t (pred w)) lost).0

  pub lost_some : 1 ≤ w
  lost_some = omega (arith, cell_number_lem c w is_cell_lem)

  lost_below : w - 1 < c
  lost_below = omega (arith, cell_index c w is_cell_lem)

  lost_no_root : is_root t (w - 1) ≡ false
  unfolding stays_root
  lost_no_root =
      let e : w - 1 ≡ pred w = omega arith in
      rw e (or-false (not (is_cell c w)) (is_root t (pred w)) lost).1

  -- the list with that one cell
  only : (i : ℕ) → contains ((w - 1) ∷ []) i ≡ true → w - 1 ≡ i
  only i m = eqb-true (w - 1) i (sym (contains_one (w - 1) i) ∙ m)

  only_once : (i : ℕ) → occurrences i ((w - 1) ∷ []) ≤ 1
  unfolding occurrences matching
  only_once i = omega (arith, at_most_one (eqb (w - 1) i))

  only_lost : (i : ℕ) → contains ((w - 1) ∷ []) i ≡ is_lost t w i
  unfolding is_lost
  only_lost i = contains_one (w - 1) i ∙ same_tests (eqb (w - 1) i) (eqb w (suc i) && not (is_root t i))
      (λ m. let e : w - 1 ≡ i = eqb-true (w - 1) i m in and_both (eq-eqb w (suc i) (omega (arith, lost_some))) (rw (← e, lost_no_root)))
      (λ m. eq-eqb (w - 1) i (omega (arith, eqb-true w (suc i) (and_first (eqb w (suc i)) (not (is_root t i)) m))))

  pub first_starts : (most : ℕ) → most ≡ most_suspects c → TableShape t → (y : Tally) → y ≡ tally_of ((w - 1) ∷ []) (0 ∷ []) → Starts t y.cells y.counts most
  first_starts most e shape y d = let r = most_range c in rw d (record {
    shape = shape;
    few = omega (arith, r.0);
    within = omega (arith, r.1);
    below = λ i m. omega (arith, only i m, lost_below);
    no_roots = λ i m. let e = only i m in rw (← e) lost_no_root;
    once = only_once;
    uncounted = refl;
  })

  pub reached_suspect : (i : ℕ) → reached_by c (contains ((w - 1) ∷ [])) (leads_on t) i ≡ is_suspect t w i
  unfolding is_suspect
  reached_suspect = reached_same c (contains ((w - 1) ∷ [])) (is_lost t w) (leads_on t) (λ i _. only_lost i)
