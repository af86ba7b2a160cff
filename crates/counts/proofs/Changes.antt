-- Laws of counters of 16 bits: what the code writes, what stands, and that changes that fit are made whole.
use mathlib.Core.Path.{◌≡◌, refl, sym, ap, ◌∙◌}
use mathlib.Core.Logic.{⊎_elim}
use mathlib.Core.Bool.{Bool, true, false, cond}
use mathlib.Core.List.{List, [], ◌∷◌}
use Rattle.std.specs.Prelude.{Some}
use Prim.Native.Nat.{ℕ, pred, ◌+◌, ◌-◌, ◌<◌}
use native.Mathlib.Omega.{arith}
use lib.Dec.{leb}
use borrow.Author.Tests.{lt-leb}
use Rattle.machine.specs.Counters.{Raised}
use Rattle.machine.specs.Words.{is_cell}
use Rattle.machine.specs.Table.{capacity, word_at, put_word}
use Rattle.machine.specs.Packets.{Counter, Direction, plus, minus, Change}
use Rattle.machine.specs.Step.{counter_word, shifted, move_count, apply_changes}
use Rattle.machine.specs.Facts.{TableShape}
use Rattle.machine.proofs.Range.{tested}
use Rattle.machine.proofs.Table.{put_itself}
use Rattle.machine.proofs.Moves.{length_move, capacity_move, first_free_move, last_free_move, past_move}
use Rattle.machine.proofs.Kept.{Framed, framed_refl, framed_trans}
use Rattle.counts.specs.Cells.{IndexOf}
use Rattle.counts.specs.Changes.{too_large, move_fitting, apply_fitting, ChangesFit, Moves}

either : {A : Type 0} (b : Bool) (x : A) → cond b x x ≡ x
either true x = refl
either false x = refl

-- what a move keeps, a fitting one keeps
fitting_keeps : (P : List ℕ → Type 0) (t : List ℕ) (k : Counter) (w : ℕ) (d : Direction) (n : ℕ) → P t → P (move_count t k w d n) → P (move_fitting t k w d n)
unfolding move_fitting
fitting_keeps P t k w d n h g = go (too_large d (word_at t (pred w) (counter_word k)) n)
  where
    go : (b : Bool) → P (cond b t (move_count t k w d n))
    go true = h
    go false = g

-- question 1's answer stands
pub shape_move : (t : List ℕ) (k : Counter) (w : ℕ) (d : Direction) (n : ℕ) → TableShape t → TableShape (move_count t k w d n)
shape_move t k w d n h = record {
  some = rw (capacity_move t k w d n) h.some;
  most = rw (capacity_move t k w d n) h.most;
  first = rw (first_free_move t k w d n, capacity_move t k w d n) h.first;
  last = rw (last_free_move t k w d n, capacity_move t k w d n) h.last;
  room = rw (capacity_move t k w d n, length_move t k w d n) h.room;
}

pub shape_fitting : (t : List ℕ) (hs : List Change) → TableShape t → TableShape (apply_fitting t hs)
unfolding apply_fitting
shape_fitting t [] s = s
shape_fitting t (h ∷ hs) s =
    shape_fitting (move_fitting t h.counter h.word h.direction h.amount) hs
    (fitting_keeps TableShape t h.counter h.word h.direction h.amount s (shape_move t h.counter h.word h.direction h.amount s))

moves : (t : List ℕ) (k : Counter) (w : ℕ) (d : Direction) (n : ℕ) (t' : List ℕ) → t' ≡ move_fitting t k w d n → Moves t k w d n t'
moves t k w d n t' e = record {
  moved = e;
  same_capacity = ap capacity e ∙ fitting_keeps (λ u. capacity u ≡ capacity t) t k w d n refl (capacity_move t k w d n);
  shape = λ h. rw e (fitting_keeps TableShape t k w d n h (shape_move t k w d n h));
}

-- a word that is no cell has no counter
pub moves_none : (t : List ℕ) (k : Counter) (w : ℕ) (d : Direction) (n : ℕ) → is_cell (capacity t) w ≡ false → Moves t k w d n t
moves_none t k w d n h = moves t k w d n t same
  where
    same : t ≡ move_fitting t k w d n
    same = unfold move_fitting move_count in rw h (sym (either (too_large d (word_at t (pred w) (counter_word k)) n) t))

-- the counter of a cell, read and written at its index
pub moves_lowered : (t : List ℕ) (k : Counter) (w n i v : ℕ) → IndexOf t w (Some i) → v ≡ word_at t i (counter_word k) - n
    → (t' : List ℕ) → t' ≡ put_word t i (counter_word k) v → Moves t k w minus n t'
moves_lowered t k w n i v h f t' g = moves t k w minus n t' (g ∙ same)
  where
    index : i ≡ pred w
    index = omega (arith, h.1)

    same : put_word t i (counter_word k) v ≡ move_fitting t k w minus n
    same = unfold move_fitting move_count in rw (h.0, f, index)

pub moves_raised : (t : List ℕ) (k : Counter) (w n i v : ℕ) → IndexOf t w (Some i) → Raised (word_at t i (counter_word k)) n v
    → (t' : List ℕ) → t' ≡ put_word t i (counter_word k) v → Moves t k w plus n t'
moves_raised t k w n i v h f t' g =
    moves t k w plus n t'
    (g ∙ ap (λ (j : ℕ). put_word t j (counter_word k) v) index ∙ ⊎_elim large small (tested (leb 65536 (word_at t (pred w) (counter_word k) + n))))
  where
    index : i ≡ pred w
    index = omega (arith, h.1)

    r : Raised (word_at t (pred w) (counter_word k)) n v
    r = rw index at f

    large : leb 65536 (word_at t (pred w) (counter_word k) + n) ≡ true → put_word t (pred w) (counter_word k) v ≡ move_fitting t k w plus n
    large b = unfold move_fitting in rw (b, r.stays (borrow.Author.Tests.leb-true 65536 _ b)) (put_itself t (pred w) (counter_word k))

    small : leb 65536 (word_at t (pred w) (counter_word k) + n) ≡ false → put_word t (pred w) (counter_word k) v ≡ move_fitting t k w plus n
    small b = unfold move_fitting move_count in rw (b, h.0, r.fits (borrow.Author.Tests.leb-false 65536 _ b))

-- a change that fits is made whole
move_fits : (t : List ℕ) (k : Counter) (w : ℕ) (d : Direction) (n : ℕ)
    → (is_cell (capacity t) w ≡ true → shifted d (word_at t (pred w) (counter_word k)) n < 65536)
    → move_fitting t k w d n ≡ move_count t k w d n
move_fits t k w minus n f = unfold move_fitting in refl
move_fits t k w plus n f = ⊎_elim cell none (tested (is_cell (capacity t) w))
  where
    cell : is_cell (capacity t) w ≡ true → move_fitting t k w plus n ≡ move_count t k w plus n
    cell h = unfold move_fitting in rw (lt-leb 65536 (word_at t (pred w) (counter_word k) + n) (f h))

    none : is_cell (capacity t) w ≡ false → move_fitting t k w plus n ≡ move_count t k w plus n
    none h = unfold move_fitting move_count in rw h (either (leb 65536 (word_at t (pred w) (counter_word k) + n)) t)

pub apply_fits : (t : List ℕ) (hs : List Change) → ChangesFit t hs → apply_fitting t hs ≡ apply_changes t hs
unfolding apply_fitting apply_changes
apply_fits t [] f = refl
apply_fits t (h ∷ hs) f =
    ap (λ (u : List ℕ). apply_fitting u hs) (move_fits t h.counter h.word h.direction h.amount f.0)
    ∙ apply_fits (move_count t h.counter h.word h.direction h.amount) hs f.1

-- a packet's changes, one after another and by its kind
pub made_none : (t : List ℕ) → t ≡ apply_fitting t []
unfolding apply_fitting
made_none t = refl

pub made_more : (t u v : List ℕ) (h : Change) (hs : List Change) → Moves t h.counter h.word h.direction h.amount u
    → v ≡ apply_fitting u hs → v ≡ apply_fitting t (h ∷ hs)
unfolding apply_fitting
made_more t u v h hs m e = e ∙ ap (λ (x : List ℕ). apply_fitting x hs) m.moved

-- on any table: its length, C and the words past its cells stand
framed_move : (t : List ℕ) (k : Counter) (w : ℕ) (d : Direction) (n : ℕ) → Framed t (move_count t k w d n)
framed_move t k w d n = record { same_length = length_move t k w d n; same_capacity = capacity_move t k w d n; past_cells = past_move t k w d n }

pub framed_fitting : (t : List ℕ) (hs : List Change) → Framed t (apply_fitting t hs)
unfolding apply_fitting
framed_fitting t [] = framed_refl t
framed_fitting t (h ∷ hs) =
    let u = move_fitting t h.counter h.word h.direction h.amount in
    framed_trans t u (apply_fitting u hs)
    (fitting_keeps (Framed t) t h.counter h.word h.direction h.amount (framed_refl t) (framed_move t h.counter h.word h.direction h.amount))
    (framed_fitting u hs)
