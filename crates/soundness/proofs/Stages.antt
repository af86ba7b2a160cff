-- Undoing packets on the table is undoing them on its view: S4's test is the stages of the view.
use mathlib.Core.Path.{◌≡◌, refl, sym, ap, ap₂, ◌∙◌}
use mathlib.Core.Logic.{⊎_elim}
use mathlib.Core.Bool.{Bool, true, false, cond, ◌&&◌}
use mathlib.Core.List.{List, [], ◌∷◌}
use Prim.Native.Nat.{ℕ, suc, pred, ◌≤◌}
use native.Mathlib.Omega.{arith}
use lib.Dec.{eqb, ltb}
use lib.ListN.{length}
use borrow.Author.Tests.{eqb-true, eq-eqb}
use Rattle.machine.specs.Table.{left, right, state, capacity, table_length, word_at, put_word, in_use}
use Rattle.machine.specs.Queue.{Packet}
use Rattle.machine.specs.Packets.{Kind, reads, makes, replaces, raises, lowers, unknown, kind_of}
use Rattle.machine.specs.Calls.{field}
use Rattle.machine.specs.Questions.{pointers_within}
use Rattle.machine.specs.Audit.{undoable_of, undone_of, undoable, undone, before, undoes}
use Rattle.machine.proofs.Range.{tested, and_both, and_first, and_second}
use Rattle.machine.proofs.Table.{room, word_put, word_other, length_put_word, capacity_put_word}
use Rattle.machine.proofs.Undo.{within_is, undoes_rest, undoes_holds, undoes_within}
use Rattle.soundness.proofs.Views.{View, shown, put_view, Same, put_views, undone_view, undo_view, HoldsOf, HoldsFor, WrittenOf, Written, All, earlier, WithinView, StagesOf, within_same, pointers_seen, seen}
use Rattle.soundness.proofs.LegalPackets.{LegalPacket, WrittenIn, legal_written}

pub shown_used : (t : List ℕ) (i k : ℕ) → in_use t i ≡ true → shown t i k ≡ word_at t i k
unfolding shown
shown_used t i k h = rw h

pub shown_free : (t : List ℕ) (i k : ℕ) → in_use t i ≡ false → shown t i k ≡ 0
unfolding shown
shown_free t i k h = rw h

-- a field written
pub used_put : (t : List ℕ) (i k w j : ℕ) → k ≤ right → in_use (put_word t i k w) j ≡ in_use t j
unfolding in_use
used_put t i k w j f = ap (ltb 0) (word_other t i k w j state (omega arith) (omega arith) (λ _ e. omega arith))

pub shown_put : (t : List ℕ) (i k w : ℕ) → table_length (capacity t) ≤ length t → WrittenIn t i k
    → Same (capacity t) (shown (put_word t i k w)) (put_view (shown t) i k w)
unfolding shown put_view
shown_put t i k w f h j m l n =
    let g = h.field in
    ap₂ (λ (b : Bool) (x : ℕ). cond b x 0) (used_put t i k w j h.field) (word_put t i k w j m (room t (capacity t) i f h.below) (omega arith) (omega arith))
    ∙ ⊎_elim here (λ (e : eqb k m && eqb i j ≡ false). rw e) (tested (eqb k m && eqb i j))
  where
    here : eqb k m && eqb i j ≡ true
        → cond (in_use t j) (cond (eqb k m && eqb i j) w (word_at t j m)) 0 ≡ cond (eqb k m && eqb i j) w (cond (in_use t j) (word_at t j m) 0)
    here e =
        let same : i ≡ j = eqb-true i j (and_second (eqb k m) (eqb i j) e) in
        let used : in_use t j ≡ true = rw same at h.used in
        rw (e, used)

-- a table with its fields changed only where it is in use
record Undone (t u : List ℕ) (v : View) : Type 0 where
  same_length : length u ≡ length t
  same_capacity : capacity u ≡ capacity t
  same_use : (i : ℕ) → in_use u i ≡ in_use t i
  sees : Same (capacity t) (shown u) v

undone_put : (t u : List ℕ) (v : View) (i k w : ℕ) → table_length (capacity t) ≤ length t → WrittenIn t i k → Undone t u v
    → Undone t (put_word u i k w) (put_view v i k w)
undone_put t u v i k w f h d = record {
  same_length = length_put_word u i k w ∙ d.same_length;
  same_capacity = capacity_put_word u i k w ∙ d.same_capacity;
  same_use = λ j. used_put u i k w j h.field ∙ d.same_use j;
  sees = λ j m l n. shown_put u i k w (rw (d.same_capacity, d.same_length) f) there j m (rw d.same_capacity l) n
      ∙ put_views (capacity t) (shown u) v i k w d.sees j m l n;
}
  where
    there : WrittenIn u i k
    there = record { below = rw d.same_capacity h.below; field = h.field; used = d.same_use i ∙ h.used }

undone_step : (t u : List ℕ) (v : View) (p : Packet) → table_length (capacity t) ≤ length t → Written (WrittenIn t) p → Undone t u v
    → Undone t (undone u p) (undo_view p v)
unfolding undone undone_of
undone_step t u v p f w d = go (kind_of p.kind) p.a p.b p.c w
  where
    go : (n : Kind) (a b c : ℕ) → WrittenOf (WrittenIn t) n c → Undone t (undone_of u n a b c) (undone_view n a b c v)
    go reads a b c h = d
    go makes a b c h = undone_put t (put_word u (pred c) left 0) (put_view v (pred c) left 0) (pred c) right 0 f h.1 (undone_put t u v (pred c) left 0 f h.0 d)
    go (replaces k) a b c h = undone_put t u v (pred c) k b f h d
    go raises a b c h = d
    go lowers a b c h = d
    go unknown a b c h = d

module _ (t : List ℕ) (f : table_length (capacity t) ≤ length t) where
  undone_all : (ps : List Packet) → All (LegalPacket t) ps → Undone t (before t ps) (earlier (shown t) ps)
  unfolding before earlier
  undone_all [] h = record { same_length = refl; same_capacity = refl; same_use = λ i. refl; sees = λ i k l m. refl }
  undone_all (p ∷ ps) h = undone_step t (before t ps) (earlier (shown t) ps) p f (legal_written t p h.0) (undone_all ps h.1)

  pub before_shown : (ps : List Packet) → All (LegalPacket t) ps → Same (capacity t) (shown (before t ps)) (earlier (shown t) ps)
  before_shown ps h = (undone_all ps h).sees

  pub before_capacity : (ps : List Packet) → All (LegalPacket t) ps → capacity (before t ps) ≡ capacity t
  before_capacity ps h = (undone_all ps h).same_capacity

within_view : (t u : List ℕ) (v : View) → Undone t u v → pointers_within u ≡ true → WithinView (capacity t) v
within_view t u v d h =
    within_same (capacity t) (shown u) v d.sees
    (λ i l. omega (arith, (within_is u).0 h i (rw d.same_capacity l), pointers_seen u i, ap (λ (c : ℕ). seen c (shown u) (suc i)) d.same_capacity))

view_within : (t u : List ℕ) (v : View) → Undone t u v → WithinView (capacity t) v → pointers_within u ≡ true
view_within t u v d h =
    (within_is u).1 (λ i l. omega (
      arith,
      pointers_seen u i,
      ap (λ (c : ℕ). seen c (shown u) (suc i)) d.same_capacity,
      within_same (capacity t) v (shown u) (λ j k m n. sym (d.sees j k m n)) h i (rw d.same_capacity at l),
    ))

-- the field that must hold a, and the new cell that must hold a and b
module _ (t u : List ℕ) (v : View) (d : Undone t u v) where
  reads_as : (i k : ℕ) → WrittenIn t i k → v i k ≡ word_at u i k
  reads_as i k w = sym (d.sees i k w.below w.field) ∙ shown_used u i k (d.same_use i ∙ w.used)

  undoable_holds : (p : Packet) → Written (WrittenIn t) p → undoable u p ≡ true → HoldsFor p v
  unfolding undoable undoable_of field
  undoable_holds p = go (kind_of p.kind) p.a p.b p.c
    where
      go : (n : Kind) (a b c : ℕ) → WrittenOf (WrittenIn t) n c → undoable_of u n a b c ≡ true → HoldsOf n a b c v
      go reads a b c w h = tt
      go makes a b c w h = (
        reads_as (pred c) left w.0 ∙ eqb-true (word_at u (pred c) left) a (and_first (eqb (word_at u (pred c) left) a) (eqb (word_at u (pred c) right) b) h),
        reads_as (pred c) right w.1 ∙ eqb-true (word_at u (pred c) right) b (and_second (eqb (word_at u (pred c) left) a) (eqb (word_at u (pred c) right) b) h),
      )
      go (replaces k) a b c w h = reads_as (pred c) k w ∙ eqb-true (word_at u (pred c) k) a h
      go raises a b c w h = tt
      go lowers a b c w h = tt
      go unknown a b c w h = tt

  holds_undoable : (p : Packet) → Written (WrittenIn t) p → HoldsFor p v → undoable u p ≡ true
  unfolding undoable undoable_of field
  holds_undoable p = go (kind_of p.kind) p.a p.b p.c
    where
      go : (n : Kind) (a b c : ℕ) → WrittenOf (WrittenIn t) n c → HoldsOf n a b c v → undoable_of u n a b c ≡ true
      go reads a b c w h = refl
      go makes a b c w h =
          and_both (eq-eqb (word_at u (pred c) left) a (sym (reads_as (pred c) left w.0) ∙ h.0))
          (eq-eqb (word_at u (pred c) right) b (sym (reads_as (pred c) right w.1) ∙ h.1))
      go (replaces k) a b c w h = eq-eqb (word_at u (pred c) k) a (sym (reads_as (pred c) k w) ∙ h)
      go raises a b c w h = refl
      go lowers a b c w h = refl
      go unknown a b c w h = refl

module _ (t : List ℕ) (f : table_length (capacity t) ≤ length t) where
  pub undoes_stages : (ps : List Packet) → All (LegalPacket t) ps → undoes t ps ≡ true → StagesOf (capacity t) (shown t) ps
  unfolding before earlier
  undoes_stages [] l h = within_view t t (shown t) (undone_all t f [] tt) (undoes_within t [] h)
  undoes_stages (p ∷ ps) l h = (
    undoes_stages ps l.1 (undoes_rest t p ps h),
    undoable_holds t (before t ps) (earlier (shown t) ps) (undone_all t f ps l.1) p (legal_written t p l.0) (undoes_holds t p ps h),
    within_view t (before t (p ∷ ps)) (earlier (shown t) (p ∷ ps)) (undone_all t f (p ∷ ps) l) (undoes_within t (p ∷ ps) h),
  )

  pub stages_undoes : (ps : List Packet) → All (LegalPacket t) ps → StagesOf (capacity t) (shown t) ps → undoes t ps ≡ true
  unfolding before earlier undoes
  stages_undoes [] l h = view_within t t (shown t) (undone_all t f [] tt) h
  stages_undoes (p ∷ ps) l h =
      and_both (and_both (stages_undoes ps l.1 h.0)
      (holds_undoable t (before t ps) (earlier (shown t) ps) (undone_all t f ps l.1) p (legal_written t p l.0) h.1))
      (view_within t (before t (p ∷ ps)) (earlier (shown t) (p ∷ ps)) (undone_all t f (p ∷ ps) l) h.2)
