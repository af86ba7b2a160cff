-- What the functions that walk leave in their list.
use mathlib.Core.Path.{◌≡◌, refl, sym, ap, ap₂, subst, ◌∙◌}
use mathlib.Core.Logic.{⊎_elim}
use mathlib.Core.Bool.{Bool, true, false, false≢true}
use mathlib.Core.List.{List, [], ◌∷◌, ◌++◌, map-append}
use Prim.Native.Nat.{ℕ, pred, ◌+◌, ◌-◌, ◌%◌, ◌≤◌, ◌<◌}
use native.Mathlib.Numerals.{sub-one}
use native.Mathlib.Omega.{arith}
use lib.ListN.{length, get_or, set, replicate, length-set, length-append, length-map, get_or-map}
use lib.Seq.{get_or-set_same, get_or-set_other, map-set_same}
use lib.Dec.{eqb}
use borrow.Author.Tests.{eqb-true, eqb-false}
use Rattle.std.proofs.Common.{Option, Some, None}
use Rattle.std.specs.List.{refill, position}
use Rattle.std.proofs.lemmas.List.{map-set}
use Rattle.arrayvec.proofs.ArrayVecLemmas.{items-with_items}
use Rattle.machine.specs.Words.{is_cell}
use Rattle.machine.specs.Table.{left, right, capacity, word_at}
use Rattle.machine.specs.Packets.{contains}
use Rattle.machine.specs.Reached.{is_root}
use Rattle.machine.proofs.Range.{tested}
use Rattle.walks.specs.declared.Met.{Met}
use Rattle.walks.specs.Walk.{most_walked, Filtered, Places}
use Rattle.walks.specs.Tally.{Tally, tally_of, tally, counted, is_entered, met, followed, Ready, Holds}
use Rattle.walks.proofs.Places.{none_met, placed}
use Rattle.walks.proofs.Tally.{added_there, added_new, added_longer, snoc_all, raised_there, raised_new, raised_most}

-- the filter fits the list
abbrev pub Kept : List Met → List Bool → Type 0
Kept list seen = (length seen ≡ most_walked) × Filtered (tally list).cells seen

pub kept_none : (list : List Met) → list ≡ [] → Kept list (replicate most_walked false)
kept_none list e = rw e (refl, λ i m. absurd (false≢true (unfold contains in m)))

module _ (list : List Met) (seen : List Bool) (h : Kept list seen) where
  -- a cell put behind the others
  pub kept_put : (list' : List Met) (m : Met) (x : ℕ) → list' ≡ list ++ m ∷ [] → x ≡ m.cell → Kept list' (set seen (x % most_walked) true)
  kept_put list' m x e d = rw (e, d) (length-set seen (m.cell % most_walked) true ∙ h.0, rw (map-append (λ (n : Met). n.cell) list (m ∷ [])) filtered)
    where
      set_here : get_or (set seen (m.cell % most_walked) true) (m.cell % most_walked) false ≡ true
      set_here = get_or-set_same seen (m.cell % most_walked) true false (omega (arith, h.0))

      stays : (b : ℕ) → get_or seen b false ≡ true → get_or (set seen (m.cell % most_walked) true) b false ≡ true
      stays b f =
          ⊎_elim (λ (o : eqb b (m.cell % most_walked) ≡ true). rw (eqb-true b (m.cell % most_walked) o) set_here)
          (λ o. get_or-set_other seen (m.cell % most_walked) b true false (eqb-false b (m.cell % most_walked) o) ∙ f) (tested (eqb b (m.cell % most_walked)))

      filtered : Filtered ((tally list).cells ++ m.cell ∷ []) (set seen (m.cell % most_walked) true)
      filtered i f = snoc_all m.cell (λ (j : ℕ). get_or (set seen (m.cell % most_walked) true) (j % most_walked) false ≡ true) (tally list).cells
          (λ j g. stays (j % most_walked) (h.1 j g)) set_here i f

-- the pointers of the cell at place k raised by one, as the code writes them
module _ (list : List Met) (k : ℕ) (l : k < length list) (ms : List Met) (e : ms ≡ list) where
  abbrev one_more : Met
  one_more = record { cell = (get_or ms k none_met).cell; pointers = (get_or ms k none_met).pointers + 1 }

  abbrev left_list : List Met
  left_list = refill (length list) list (set ms k one_more)

  written : left_list ≡ set list k (record { cell = (get_or list k none_met).cell; pointers = (get_or list k none_met).pointers + 1 })
  written = rw e (items-with_items (record { items = list }) _ (length-set list k _))

  same_cells : (tally left_list).cells ≡ (tally list).cells
  same_cells = ap (λ (ns : List Met). (tally ns).cells) written ∙ map-set_same (λ (m : Met). m.cell) list k _ none_met refl

  pub more_pointers : tally left_list ≡ tally_of (tally list).cells (set (tally list).counts k (get_or (tally list).counts k 0 + 1))
  more_pointers = ap₂ tally_of same_cells (ap (λ (ns : List Met). (tally ns).counts) written
      ∙ map-set (λ (m : Met). m.pointers) list k _
      ∙ ap (λ (n : ℕ). set (tally list).counts k (n + 1)) (sym (get_or-map (λ (m : Met). m.pointers) list k none_met)))

  pub still_kept : (seen : List Bool) → Kept list seen → Kept left_list seen
  still_kept seen h = rw same_cells h

-- a list of met cells, and the tally that it is seen as
module _ (list : List Met) (y : Tally) (v : tally list ≡ y) where
  pub sizes : length y.counts ≡ length y.cells
  sizes = rw (← v) (length-map list (λ m. m.pointers) ∙ sym (length-map list (λ m. m.cell)))

  pub cell_at : (ms : List Met) (i : ℕ) → ms ≡ list → (get_or ms i none_met).cell ≡ get_or y.cells i 0
  cell_at ms i e = ap (λ (ns : List Met). (get_or ns i none_met).cell) e ∙ sym (get_or-map (λ (m : Met). m.cell) list i none_met)
      ∙ ap (λ (z : Tally). get_or z.cells i 0) v

  pub within : (k : ℕ) → k < length y.cells → k < length list
  within k l = omega (arith, length-map list (λ m. m.cell), ap (λ (z : Tally). length z.cells) v)

  pub within_tally : (k : ℕ) → k < length list → k < length y.cells
  within_tally k l = omega (arith, length-map list (λ m. m.cell), ap (λ (z : Tally). length z.cells) v)

  pub found_in : (ms : List Met) → ms ≡ list → (x : ℕ) (r : Option ℕ) → r ≡ position (λ m. eqb m.cell x) ms → Places y.cells x r
  found_in ms e x r h = subst (λ (z : Tally). Places z.cells x r) v (placed x list r (rw e at h))

  pub pointers_at : (ms : List Met) (i : ℕ) → ms ≡ list → (get_or ms i none_met).pointers ≡ get_or y.counts i 0
  pointers_at ms i e = ap (λ (ns : List Met). (get_or ns i none_met).pointers) e ∙ sym (get_or-map (λ (m : Met). m.pointers) list i none_met)
      ∙ ap (λ (z : Tally). get_or z.counts i 0) v

module _ (most spare : ℕ) (y : Tally) (r : Ready most spare y) where
  pub unchanged : Holds most y y (Some tt)
  unchanged = record { same = refl; few = r.few; gave_up = tt }

  module _ (x : ℕ) (list : List Met) (v : tally list ≡ y) where
    -- the cell is at place k
    pub counted_there : (k : ℕ) → Places y.cells x (Some k) → (l : k < length list) (ms : List Met) (e : ms ≡ list)
        → Holds most (counted x y) (tally (left_list list k l ms e)) (Some tt)
    counted_there k p l ms e = record {
      same = more_pointers list k l ms e ∙ ap (λ (z : Tally). tally_of z.cells (set z.counts k (get_or z.counts k 0 + 1))) v
          ∙ ap₂ tally_of (sym (added_there x y.cells p.found)) (sym (raised_there x y.cells y.counts k (sizes list y v) p.within p.before p.there));
      few = rw (added_there x y.cells p.found) r.few;
      gave_up = tt;
    }

    module _ (p : Places y.cells x None) where
      -- it is put behind the others
      pub counted_new : length y.cells < most → Holds most (counted x y) (tally_of (y.cells ++ x ∷ []) (y.counts ++ 1 ∷ [])) (Some tt)
      counted_new l = record {
        same = ap₂ tally_of (sym (added_new x y.cells p.found)) (sym (raised_new x y.cells y.counts (sizes list y v) p.found));
        few = rw (added_new x y.cells p.found, length-append y.cells (x ∷ [])) (omega arith);
        gave_up = tt;
      }

      -- there is no place for it
      pub counted_full : most ≤ length y.cells → Holds most (counted x y) y None
      counted_full l = record { same = tt; few = tt; gave_up = rw (added_new x y.cells p.found, length-append y.cells (x ∷ [])) (omega arith) }

module _ (t : List ℕ) (w : ℕ) (y : Tally) where
  pub met_cases : (P : Tally → Type 0) → (is_entered t w ≡ false → P y) → (is_entered t w ≡ true → P (counted (pred w) y)) → P (met t w y)
  unfolding met
  met_cases P f g =
      ⊎_elim (λ (e : is_entered t w ≡ true). rw e (g e)) (λ (e : is_entered t w ≡ false). rw e (f e)) (tested (is_entered t w))

  pub met_longer : length y.cells ≤ length (met t w y).cells
  met_longer = met_cases (λ (z : Tally). length y.cells ≤ length z.cells) (λ _. omega arith) (λ _. added_longer (pred w) y.cells)

  met_most : (k : ℕ) → get_or (met t w y).counts k 0 ≤ get_or y.counts k 0 + 1
  met_most k = met_cases (λ (z : Tally). get_or z.counts k 0 ≤ get_or y.counts k 0 + 1) (λ _. omega arith) (λ _. raised_most (pred w) y.cells y.counts k)

-- a word met by the code
module _ (t : List ℕ) (most w : ℕ) (y : Tally) where
  pub met_none : Ready most 1 y → is_cell (capacity t) w ≡ false → Holds most (met t w y) y (Some tt)
  unfolding met is_entered
  met_none r h = rw h (unchanged most 1 y r)

  pub met_root : Ready most 1 y → is_cell (capacity t) w ≡ true → is_root t (w - 1) ≡ true → Holds most (met t w y) y (Some tt)
  unfolding met is_entered
  met_root r h k = let e : is_root t (pred w) ≡ true = rw sub-one at k in rw (h, e) (unchanged most 1 y r)

  pub met_entered : (u : Tally) (r : Option (Unit {0})) → is_cell (capacity t) w ≡ true → is_root t (w - 1) ≡ false → Holds most (counted (w - 1) y) u r
      → Holds most (met t w y) u r
  unfolding met is_entered
  met_entered u r h k p = let e : is_root t (pred w) ≡ false = rw sub-one at k in rw (h, e) (rw sub-one at p)

-- both fields met by the code: what is between, and what is left
module _ (t : List ℕ) (most i : ℕ) (y : Tally) (r : Ready most 2 y) (v : ℕ) (e : v ≡ word_at t (get_or y.cells i 0) left) where
  module _ (u : Tally) where
    pub gave_up_lem : Holds most (met t v y) u None → Holds most (followed t i y) u None
    unfolding followed
    gave_up_lem p = record {
      same = tt;
      few = tt;
      gave_up = rw (← e) (omega (arith, p.gave_up, met_longer t (word_at t (get_or y.cells i 0) right) (met t v y)));
    }

    module _ (p : Holds most (met t v y) u (Some tt)) where
      pub between : Ready most 1 u
      between = rw p.same (record { few = p.few; within = r.within; small = λ k. omega (arith, r.small k, met_most t v y k) })

      pub both : (z : ℕ) → z ≡ word_at t (get_or y.cells i 0) right → (w : Tally) (q : Option (Unit {0})) → Holds most (met t z u) w q → Holds most (followed t i y) w q
      unfolding followed
      both z d w q h = rw (← e, ← d) (rw p.same at h)
