-- A view with only some cells shown. Where packets wrote to cells that are shown, masking commutes with undoing.
use mathlib.Core.Path.{◌≡◌, refl, sym, ap₂, ◌∙◌}
use mathlib.Core.Logic.{⊎_elim}
use mathlib.Core.Bool.{Bool, true, false, cond, not, ◌&&◌}
use mathlib.Core.List.{List, [], ◌∷◌}
use Prim.Native.Nat.{ℕ, zero, suc, pred, ◌+◌}
use native.Mathlib.Omega.{arith}
use lib.Dec.{eqb}
use borrow.Author.Tests.{eqb-true}
use Rattle.machine.specs.Range.{total, select, matching}
use Rattle.machine.specs.Table.{left, right, word_at}
use Rattle.machine.specs.Queue.{Packet}
use Rattle.machine.specs.Packets.{Kind, reads, makes, replaces, raises, lowers, unknown, kind_of}
use Rattle.machine.specs.Facts.{pointers_out}
use Rattle.machine.proofs.Range.{tested, and_second, not_both, total_add, total_same}
use Rattle.machine.proofs.Sweep.{out_append}
use Rattle.soundness.proofs.Views.{nil_no_cell, View, put_view, put_other, entries, seen, Same, put_views, undone_view, undo_view, undo_same, HoldsOf, HoldsFor, holds_same, WrittenOf, Written, WrittenBelow, All, earlier, WithinView, within_same, StagesOf}

unfoldable pub mask : (ℕ → Bool) → View → View
mask m v i k = cond (m i) (v i k) 0

pub masked : (m : ℕ → Bool) (v : View) (i k : ℕ) → m i ≡ false → mask m v i k ≡ 0
unfolding mask
masked m v i k h = rw h

pub unmasked : (m : ℕ → Bool) (v : View) (i k : ℕ) → m i ≡ true → mask m v i k ≡ v i k
unfolding mask
unmasked m v i k h = rw h

-- the pointers out of the cells that pass a test are their entries, as fields stand in the table
pub out_seen : (t : List ℕ) (c : ℕ) (m : ℕ → Bool) (x : ℕ) → pointers_out t (select c m) (suc x) ≡ seen c (mask m (word_at t)) (suc x)
unfolding select seen total entries mask pointers_out
out_seen t zero m x = refl
out_seen t (suc c) m x = out_append t (select c m) (cond (m c) (c ∷ []) []) (suc x) ∙ ap₂ ◌+◌ (out_seen t c m x) (last (m c))
  where
    last : (b : Bool) → pointers_out t (cond b (c ∷ []) []) (suc x)
        ≡ matching (cond b (word_at t c left) 0) (suc x) 1 + matching (cond b (word_at t c right) 0) (suc x) 1
    last true = omega arith
    last false = omega (arith, nil_no_cell x)

-- the cells that packets wrote to are shown
abbrev pub WritesShown : (ℕ → Bool) → Packet → Type 0
WritesShown m p = Written (λ i k. m i ≡ true) p

module _ (c : ℕ) (m : ℕ → Bool) where
  mask_put : (v : View) (i k w : ℕ) → m i ≡ true → Same c (put_view (mask m v) i k w) (mask m (put_view v i k w))
  unfolding mask put_view
  mask_put v i k w h j n _ _ = ⊎_elim here (λ (e : eqb k n && eqb i j ≡ false). rw e) (tested (eqb k n && eqb i j))
    where
      here : eqb k n && eqb i j ≡ true → cond (eqb k n && eqb i j) w (cond (m j) (v j n) 0) ≡ cond (m j) (cond (eqb k n && eqb i j) w (v j n)) 0
      here e =
          let d : i ≡ j = eqb-true i j (and_second (eqb k n) (eqb i j) e) in
          let g : m j ≡ true = rw d at h in
          rw (e, g)

  mask_undo : (v : View) (p : Packet) → WritesShown m p → Same c (undo_view p (mask m v)) (mask m (undo_view p v))
  mask_undo v p = go (kind_of p.kind) p.a p.b p.c
    where
      go : (n : Kind) (x y z : ℕ) → WrittenOf (λ i k. m i ≡ true) n z → Same c (undone_view n x y z (mask m v)) (mask m (undone_view n x y z v))
      go reads x y z h i k l b = refl
      go makes x y z h i k l b =
          put_views c (put_view (mask m v) (pred z) left 0) (mask m (put_view v (pred z) left 0)) (pred z) right 0 (mask_put v (pred z) left 0 h.0) i k l b
          ∙ mask_put (put_view v (pred z) left 0) (pred z) right 0 h.1 i k l b
      go (replaces f) x y z h i k l b = mask_put v (pred z) f y h i k l b
      go raises x y z h i k l b = refl
      go lowers x y z h i k l b = refl
      go unknown x y z h i k l b = refl

  pub mask_earlier : (v : View) (ps : List Packet) → All (WritesShown m) ps → Same c (earlier (mask m v) ps) (mask m (earlier v ps))
  unfolding earlier
  mask_earlier v [] h i k l b = refl
  mask_earlier v (p ∷ ps) h i k l b =
      undo_same c (earlier (mask m v) ps) (mask m (earlier v ps)) p (mask_earlier v ps h.1) i k l b ∙ mask_undo (earlier v ps) p h.0 i k l b

  mask_holds : (v : View) (p : Packet) → WritesShown m p → HoldsFor p v → HoldsFor p (mask m v)
  mask_holds v p = go (kind_of p.kind) p.a p.b p.c
    where
      go : (n : Kind) (x y z : ℕ) → WrittenOf (λ i k. m i ≡ true) n z → HoldsOf n x y z v → HoldsOf n x y z (mask m v)
      go reads x y z w h = tt
      go makes x y z w h = (unmasked m v (pred z) left w.0 ∙ h.0, unmasked m v (pred z) right w.1 ∙ h.1)
      go (replaces k) x y z w h = unmasked m v (pred z) k w ∙ h
      go raises x y z w h = tt
      go lowers x y z w h = tt
      go unknown x y z w h = tt

  -- a packet does not touch what is not shown
  pub unwritten_earlier : (v : View) (ps : List Packet) → All (WritesShown m) ps → (i k : ℕ) → m i ≡ false → earlier v ps i k ≡ v i k
  unfolding earlier
  unwritten_earlier v [] h i k e = refl
  unwritten_earlier v (p ∷ ps) h i k e = go (kind_of p.kind) p.a p.b p.c h.0 ∙ unwritten_earlier v ps h.1 i k e
    where
      u : View
      u = earlier v ps

      apart : (j : ℕ) → m j ≡ true → j ≡ i → ⊥
      apart j g d = not_both (rw d at g) e

      go : (n : Kind) (x y z : ℕ) → WrittenOf (λ i k. m i ≡ true) n z → undone_view n x y z u i k ≡ u i k
      go reads x y z w = refl
      go makes x y z w =
          put_other (put_view u (pred z) left 0) (pred z) right 0 i k (λ d _. apart (pred z) w.1 d)
          ∙ put_other u (pred z) left 0 i k (λ d _. apart (pred z) w.0 d)
      go (replaces f) x y z w = put_other u (pred z) f y i k (λ d _. apart (pred z) w d)
      go raises x y z w = refl
      go lowers x y z w = refl
      go unknown x y z w = refl

  -- what is seen is seen among the cells shown or among the others
  pub seen_split : (v : View) (x : ℕ) → seen c v (suc x) ≡ seen c (mask m v) (suc x) + seen c (mask (λ i. not (m i)) v) (suc x)
  unfolding seen
  seen_split v x =
      total_same c (entries v (suc x)) (λ i. entries (mask m v) (suc x) i + entries (mask (λ j. not (m j)) v) (suc x) i) (λ i _. at_index i)
      ∙ total_add c (entries (mask m v) (suc x)) (entries (mask (λ j. not (m j)) v) (suc x))
    where
      at_index : (i : ℕ) → entries v (suc x) i ≡ entries (mask m v) (suc x) i + entries (mask (λ j. not (m j)) v) (suc x) i
      at_index i =
          unfold entries mask in ⊎_elim (λ (e : m i ≡ true). rw e (omega (arith, nil_no_cell x))) (λ (e : m i ≡ false). rw e (omega (arith, nil_no_cell x)))
          (tested (m i))

  mask_within : (v : View) → WithinView c v → WithinView c (mask m v)
  mask_within v h i l = omega (arith, seen_split v i, h i l)

  pub mask_stages : (v : View) (ps : List Packet) → All (WrittenBelow c) ps → All (WritesShown m) ps → StagesOf c v ps → StagesOf c (mask m v) ps
  mask_stages v [] l w h = mask_within v h
  mask_stages v (p ∷ ps) l w h =
      let e = earlier v ps in
      let s : Same c (mask m e) (earlier (mask m v) ps) = λ i k b d. sym (mask_earlier v ps w.1 i k b d) in (
        mask_stages v ps l.1 w.1 h.0,
        holds_same c (mask m e) (earlier (mask m v) ps) p s l.0 (mask_holds e p w.0 h.1),
        within_same c (mask m (undo_view p e)) (undo_view p (earlier (mask m v) ps))
            (λ i k b d. sym (mask_undo e p w.0 i k b d) ∙ undo_same c (mask m e) (earlier (mask m v) ps) p s i k b d) (mask_within (undo_view p e) h.2),
      )
