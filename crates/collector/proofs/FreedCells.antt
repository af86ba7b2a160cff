-- What the functions do that free one cell, and a list of cells freed from its last place down.
use mathlib.Core.Path.{◌≡◌, refl, sym, ap, ◌∙◌}
use mathlib.Core.Logic.{⊎_elim}
use mathlib.Core.Bool.{Bool, true, false, cond}
use mathlib.Core.List.{List, [], ◌∷◌, ◌++◌}
use Prim.Native.Nat.{ℕ, suc, ◌+◌, ◌-◌, ◌≤◌, ◌<◌}
use native.Mathlib.Omega.{arith}
use native.Mathlib.Numerals.{add-one}
use lib.Dec.{eqb}
use lib.ListN.{length, get_or, take, drop}
use lib.Seq.{take-suc, split_at, take_all}
use Rattle.std.proofs.Common.{reverse}
use Rattle.std.proofs.lemmas.List.{get_or-reverse, length-reverse}
use Rattle.std.proofs.lemmas.Grind.{get_or_default_zero}
use borrow.Author.Tests.{eq-eqb, ne_eqb}
use Rattle.machine.specs.Table.{left, right, free_cell, capacity, first_free, last_free, word_at, put_ends, put_cell}
use Rattle.machine.specs.Packets.{cell, minus, contains}
use Rattle.machine.specs.Step.{lower_pointers, join, join_all, swept}
use Rattle.machine.specs.Facts.{TableShape, Ascending}
use Rattle.machine.proofs.Range.{tested}
use Rattle.machine.proofs.Sweep.{alike_lower, joins}
use Rattle.machine.proofs.SweptLast.{swept_last}
use Rattle.counts.specs.Changes.{move_fitting, Moves}
use Rattle.suspects.proofs.Ascending.{lower_before}
use Rattle.collector.specs.FreedCells.{Listed}

-- a table that passes question 1, of c cells
pub record Good (c : ℕ) (t : List ℕ) : Type 0 where
  pub cells : capacity t ≡ c
  pub shape : TableShape t

pub good : (t : List ℕ) → TableShape t → Good (capacity t) t
good t h = record { cells = refl; shape = h }

lower_good : (c : ℕ) (t is : List ℕ) → Good c t → Good c (lower_pointers t is)
lower_good c t is g =
    let a = alike_lower t is in
    let s = g.shape in
    record {
      cells = a.same_capacity ∙ g.cells;
      shape = record {
        some = rw a.same_capacity s.some;
        most = rw a.same_capacity s.most;
        first = rw (a.same_first, a.same_capacity) s.first;
        last = rw (a.same_last, a.same_capacity) s.last;
        room = rw (a.same_capacity, a.same_length) s.room;
      };
    }

join_good : (c : ℕ) (t : List ℕ) → Good c t → (i : ℕ) → i < c → Good c (join t i)
join_good c t g i h =
    let s = g.shape in
    let l : i < capacity t = rw g.cells h in
    let j = joins t i s.room l in
    record {
      cells = j.same_capacity ∙ g.cells;
      shape = record {
        some = rw j.same_capacity s.some;
        most = rw j.same_capacity s.most;
        first = rw (j.new_first, j.same_capacity) l;
        last = rw (j.new_last, j.same_capacity) (within (eqb (first_free t) 0) l s.last);
        room = rw (j.same_capacity, j.same_length) s.room;
      };
    }
  where
    within : (b : Bool) → i < capacity t → last_free t ≤ capacity t → cond b (suc i) (last_free t) ≤ capacity t
    within true l k = l
    within false l k = k

pub free_good : (c : ℕ) (t : List ℕ) → Good c t → (i : ℕ) → i < c → Good c (swept t (i ∷ []))
unfolding swept join_all
free_good c t g i h = join_good c (lower_pointers t (i ∷ [])) (lower_good c t (i ∷ []) g) i h

-- a cell wiped and put before the chain, which is empty or begins at a cell
module _ (t : List ℕ) (i first : ℕ) (h : first ≡ first_free t) (u : List ℕ) (wiped : u ≡ put_cell t i (free_cell first)) where
  pub prepend_none : first ≡ 0 → (v : List ℕ) → v ≡ put_ends u (i + 1) (i + 1) → v ≡ join t i
  unfolding join
  prepend_none z v e = e ∙ rw (wiped, h, eq-eqb (first_free t) 0 (sym h ∙ z), add-one i)

  pub prepend_some : (first ≡ 0 → ⊥) → (last : ℕ) → last ≡ last_free t → (v : List ℕ) → v ≡ put_ends u (i + 1) last → v ≡ join t i
  unfolding join
  prepend_some d last k v e = e ∙ rw (wiped, h, k, ne_eqb (first_free t) 0 (λ z. d (h ∙ z)), add-one i)

-- both counts fallen
pub lower_is : (t : List ℕ) (i l r : ℕ) → l ≡ word_at t i left → r ≡ word_at t i right → (u v : List ℕ) → Moves t cell l minus 1 u → Moves u cell r minus 1 v
    → v ≡ lower_pointers t (i ∷ [])
lower_is t i l r d e u v f g = g.moved ∙ rw (f.moved, d, e) (unfold lower_pointers move_fitting in refl)

-- a cell freed
module _ (t : List ℕ) (i : ℕ) (u : List ℕ) (e : u ≡ lower_pointers t (i ∷ [])) where
  pub lowered_cell : TableShape t → i < capacity t → TableShape u × (i < capacity u)
  lowered_cell h l =
      let g = lower_good (capacity t) t (i ∷ []) (good t h) in
      rw e (g.shape, rw g.cells l)

  pub free_is : (v : List ℕ) → v ≡ join u i → v ≡ swept t (i ∷ [])
  free_is v f = f ∙ rw e (unfold swept join_all in refl)

-- the list gone through from its end: the word that comes after k others
module _ (dead : List ℕ) (k x : ℕ) (h : (k < length (reverse dead)) × (x ≡ get_or (reverse dead) k x)) where
  pub left_over : k < length dead
  left_over = omega (arith, h.0, length-reverse dead)

  pub turned : (j : ℕ) → j + 1 + k ≡ length dead → x ≡ get_or dead j 0
  turned j e =
      let i : length dead - 1 - k ≡ j = omega arith in
      h.1 ∙ get_or-reverse dead k x left_over ∙ ap (λ (n : ℕ). get_or dead n x) i ∙ get_or_default_zero dead j x (omega arith)

-- Of the cells of the list, which are to be freed, the first i remain.
pub record Remaining (c : ℕ) (t dead : List ℕ) (i : ℕ) (u : List ℕ) : Type 0 where
  pub good : Good c u
  pub table : swept u (take i dead) ≡ swept t dead

pub all_remain : (t dead : List ℕ) (i : ℕ) → i ≡ length dead → TableShape t → Remaining (capacity t) t dead i t
all_remain t dead i e h = record { good = good t h; table = ap (swept t) (take_all i dead (omega arith)) }

module _ (c : ℕ) (t dead : List ℕ) (k : Listed c dead) where
  -- no cell is listed twice
  once : (j : ℕ) → j < length dead → contains (take j dead) (get_or dead j 0) ≡ false
  once j l = ⊎_elim (λ e. let b = lower_before (take j dead) (get_or dead j 0) _ front _ e in absurd (omega arith)) (λ e. e) (tested (contains (take j dead) (get_or dead j 0)))
    where
      front : Ascending (take j dead ++ get_or dead j 0 ∷ drop (suc j) dead)
      front = rw (split_at dead j 0 l) at k.ascending

  module _ (u : List ℕ) (i j : ℕ) (s : i ≡ suc j) (l : j < length dead) (r : Remaining c t dead i u) (x : ℕ) (o : x ≡ get_or dead j 0) where
    pub at_cell : TableShape u × (x < capacity u)
    at_cell = (r.good.shape, rw (o, r.good.cells) (k.below j l))

    pub one_less : (v : List ℕ) → v ≡ swept u (x ∷ []) → Remaining c t dead j v
    one_less v f = let e = rw o at f in record {
      good = rw e (free_good c u r.good (get_or dead j 0) (k.below j l));
      table =
          ap (λ (w : List ℕ). swept w (take j dead)) e ∙ sym (swept_last u (take j dead) (get_or dead j 0) r.good.shape.room (rw o at at_cell.1) (once j l))
          ∙ ap (swept u) (sym (take-suc dead j 0 l)) ∙ (rw s at r.table);
    }

pub none_remain : (c : ℕ) (t dead : List ℕ) (i : ℕ) (u : List ℕ) → Remaining c t dead i u → i ≡ 0 → u ≡ swept t dead
none_remain c t dead i u r e = unfold swept join_all lower_pointers in (rw e at r.table)
