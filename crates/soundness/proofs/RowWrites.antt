-- What each row call writes, whatever questions 9 and 10 say of it.
use mathlib.Core.Path.{◌≡◌, refl}
use mathlib.Core.Logic.{◌⊎◌, inl, inr, ⊎_elim, ◌≢◌}
use mathlib.Core.Bool.{true, false, ◌&&◌}
use mathlib.Core.List.{List, [], ◌∷◌}
use Prim.Native.Nat.{ℕ, suc, pred, ◌+◌, ◌<◌}
use native.Mathlib.Omega.{arith}
use lib.Dec.{eqb}
use borrow.Author.Tests.{eqb-true, eqb-false}
use Rattle.machine.specs.Range.{matching, every_of}
use Rattle.machine.specs.Words.{is_legal}
use Rattle.machine.specs.Table.{left, right, root_count, name_count, capacity, first_free, word_at, in_use}
use Rattle.machine.specs.Queue.{Packet, packet}
use Rattle.machine.specs.Packets.{kind_of, root, plus, changes_of, changes, moved_by}
use Rattle.machine.specs.Calls.{RowCall, car, cdr, cons, set_left, set_right, up, down, field, packet_of, without_first, written}
use Rattle.machine.specs.Questions.{words_legal, x_is_cell, cell_free, early_row, ask_free}
use Rattle.machine.specs.Facts.{Chain}
use Rattle.machine.proofs.Range.{tested, and_first, and_second, matching_same, matching_other}
use Rattle.machine.proofs.Table.{word_other}
use Rattle.machine.proofs.Questions.{AllYes}
use Rattle.soundness.proofs.PacketKinds.{moves}
use Rattle.soundness.proofs.FreeChain.{chain_some}
use Rattle.soundness.proofs.Facts.{Facts, free_zero}
use Rattle.soundness.proofs.NewPacket.{HeldFor, Wrote}
use Rattle.soundness.proofs.ReadUpDown.{wrote_nothing}
use Rattle.soundness.proofs.Replace.{replace_wrote}
use Rattle.soundness.proofs.Cons.{with_cell, was_free, cons_roots, cons_names, cons_wrote}

pred_suc : (n : ℕ) → pred (suc n) ≡ n
pred_suc n = omega arith

-- cons takes the first cell of the chain
pub cons_case : (t : List ℕ) (is : List ℕ) → Chain t is → first_free t ≢ 0 → (x y : ℕ) (P : List ℕ → Packet → Type 0)
    → ((new : ℕ) (rest : List ℕ) → Chain t (new ∷ rest) → P (with_cell t new x y) (packet 2 x y (suc new))) → P (written t (cons x y)) (packet_of t (cons x y))
unfolding written packet_of without_first field
cons_case t [] h some x y P g = absurd (some h.linked)
cons_case t (new ∷ rest) h some x y P g = let e : first_free t ≡ suc new = h.linked.0 in rw (e, pred_suc new) (g new rest h)

pub second_legal : (t : List ℕ) (x y : ℕ) → words_legal t (x ∷ y ∷ []) ≡ true → is_legal (capacity t) y ≡ true
unfolding words_legal every_of
second_legal t x y h = and_first (is_legal (capacity t) y) true (and_second (is_legal (capacity t) x) (is_legal (capacity t) y && true) h)

pub first_legal : (t : List ℕ) (x y : ℕ) → words_legal t (x ∷ y ∷ []) ≡ true → is_legal (capacity t) x ≡ true
unfolding words_legal every_of
first_legal t x y h = and_first (is_legal (capacity t) x) (is_legal (capacity t) y && true) h

module _ (t : List ℕ) (ps : List Packet) (f : Facts t ps) where
  some_free : cell_free t ≡ true → first_free t ≢ 0
  some_free = chain_some t f.free f.chain

  pub row_wrote : (r : RowCall) → AllYes (early_row t r) → HeldFor t ps (packet_of t r) → AllYes (ask_free t r) → Wrote t (written t r) (packet_of t r)
  unfolding early_row ask_free x_is_cell kind_of
  row_wrote (car x) e h a = unfold written packet_of in wrote_nothing t 1 x (field t x left) 0 tt
  row_wrote (cdr x) e h a = unfold written packet_of in wrote_nothing t 1 x (field t x right) 0 tt
  row_wrote (cons x y) e h a = cons_case t f.free f.chain (some_free a.0) x y (λ u p. Wrote t u p) (λ new rest c. cons_wrote t ps f new rest c x y)
  row_wrote (set_left x y) e h a = unfold written packet_of field in replace_wrote t ps f 3 left x y refl (omega arith) e.1.0 (second_legal t x y e.0) h
  row_wrote (set_right x y) e h a = unfold written packet_of field in replace_wrote t ps f 6 right x y refl (omega arith) e.1.0 (second_legal t x y e.0) h
  row_wrote (up x n) e h a = unfold written packet_of in wrote_nothing t 4 x n 0 tt
  row_wrote (down x n) e h a = unfold written packet_of in wrote_nothing t 5 x n 0 tt

  -- cons gives its new cell the root count 1
  pub cons_root : (x y i : ℕ) → cell_free t ≡ true → i < capacity t
      → word_at (written t (cons x y)) i root_count ≡ word_at t i root_count + matching (packet_of t (cons x y)).c (suc i) 1
  cons_root x y i a l =
      cons_case t f.free f.chain (some_free a) x y (λ u p. word_at u i root_count ≡ word_at t i root_count + matching p.c (suc i) 1)
      (λ new rest c. cons_roots t ps f new rest c x y i l)

  cons_new : (x y i : ℕ) → cell_free t ≡ true → i < capacity t → (packet_of t (cons x y)).c ≡ suc i → in_use t i ≡ false
  cons_new x y i a l =
      cons_case t f.free f.chain (some_free a) x y (λ u p. p.c ≡ suc i → in_use t i ≡ false)
      (λ new rest c e. let d : i ≡ new = omega arith in rw d (was_free t ps f new rest c x y))

  -- name counts stand until the packet's cells are named
  pub row_names : (r : RowCall) → AllYes (ask_free t r) → (i : ℕ) → i < capacity t → word_at (written t r) i name_count ≡ word_at t i name_count
  unfolding ask_free
  row_names (car x) a i l = unfold written in refl
  row_names (cdr x) a i l = unfold written in refl
  row_names (cons x y) a i l =
      cons_case t f.free f.chain (some_free a.0) x y (λ u p. word_at u i name_count ≡ word_at t i name_count)
      (λ new rest c. cons_names t ps f new rest c x y i l)
  row_names (set_left x y) a i l = unfold written in word_other t (pred x) left y i name_count (omega arith) (omega arith) (λ _ e. omega arith)
  row_names (set_right x y) a i l = unfold written in word_other t (pred x) right y i name_count (omega arith) (omega arith) (λ _ e. omega arith)
  row_names (up x n) a i l = unfold written in refl
  row_names (down x n) a i l = unfold written in refl

  -- a root count stands, or is that of cons's new cell, which was free
  pub row_root : (r : RowCall) → AllYes (ask_free t r) → (i : ℕ) → i < capacity t
      → (word_at (written t r) i root_count ≡ word_at t i root_count)
      ⊎ ((word_at (written t r) i root_count ≡ 1) × (in_use t i ≡ false) × (moves root plus (packet_of t r) (suc i) ≡ 0))
  unfolding ask_free
  row_root (car x) a i l = unfold written in inl refl
  row_root (cdr x) a i l = unfold written in inl refl
  row_root (cons x y) a i l =
      ⊎_elim (λ e. inr (new (eqb-true c (suc i) e)))
      (λ e. inl (omega (arith, cons_root x y i a.0 l, matching_other c (suc i) 1 (eqb-false c (suc i) e)))) (tested (eqb c (suc i)))
    where
      c : ℕ
      c = (packet_of t (cons x y)).c

      new : c ≡ suc i → (word_at (written t (cons x y)) i root_count ≡ 1) × (in_use t i ≡ false) × (moves root plus (packet_of t (cons x y)) (suc i) ≡ 0)
      new e =
          let u = cons_new x y i a.0 l e in (
            omega (arith, cons_root x y i a.0 l, matching_same c (suc i) 1 e, free_zero t ps f i root_count l u (omega arith) (omega arith)),
            u,
            unfold packet_of changes changes_of moved_by kind_of in refl,
          )
  row_root (set_left x y) a i l = unfold written in inl (word_other t (pred x) left y i root_count (omega arith) (omega arith) (λ _ e. omega arith))
  row_root (set_right x y) a i l = unfold written in inl (word_other t (pred x) right y i root_count (omega arith) (omega arith) (λ _ e. omega arith))
  row_root (up x n) a i l = unfold written in inl refl
  row_root (down x n) a i l = unfold written in inl refl
