-- Writes to different words commute, so do moves of different counters, and lowering a cell count commutes with joining a cell to the free chain.
use mathlib.Core.Path.{◌≡◌, refl, sym, ap, ◌∙◌}
use mathlib.Core.Logic.{⊎_elim, ◌≢◌}
use mathlib.Core.Bool.{Bool, true, false, cond}
use mathlib.Core.List.{List, [], ◌∷◌}
use Prim.Native.Nat.{ℕ, suc, pred, ◌+◌, ◌-◌, ◌*◌, ◌≤◌, ◌<◌}
use native.Mathlib.Omega.{arith}
use lib.Dec.{eqb}
use lib.ListN.{length, set}
use lib.Seq.{set_comm, set-set}
use borrow.Author.Tests.{eqb-true, eqb-false}
use Rattle.machine.specs.Words.{is_cell}
use Rattle.machine.specs.Table.{stride, header, left, cell_count, free_cell, capacity, first_free, last_free, table_length, position, word_at, put_word, put_ends, put_words, put_cell}
use Rattle.machine.specs.Packets.{Counter, cell, Direction, minus, Change}
use Rattle.machine.specs.Step.{counter_word, shifted, move_count, apply_changes, join}
use Rattle.machine.proofs.Range.{tested}
use Rattle.machine.proofs.Words.{cell_index}
use Rattle.machine.proofs.Table.{put_itself, word_other, capacity_put_word, first_free_put_word, last_free_put_word}
use Rattle.machine.proofs.Moves.{counter_below, capacity_move, word_move}
use Rattle.machine.proofs.Sweep.{joins}

pub put_comm : (t : List ℕ) (i k v j m w : ℕ) → k < stride → m < stride → (i ≡ j → k ≡ m → ⊥) → put_word (put_word t i k v) j m w ≡ put_word (put_word t j m w) i k v
unfolding put_word position
put_comm t i k v j m w hk hm d = set_comm t (header + stride * i + k) (header + stride * j + m) v w (λ e. d (omega arith) (omega arith))

-- a move spelled out
move_is : (t : List ℕ) (k : Counter) (w : ℕ) (d : Direction) (n : ℕ)
    → move_count t k w d n ≡ cond (is_cell (capacity t) w) (put_word t (pred w) (counter_word k) (shifted d (word_at t (pred w) (counter_word k)) n)) t
unfolding move_count
move_is t k w d n = refl

module _ (t : List ℕ) (k : Counter) (a : ℕ) (d : Direction) (m : ℕ) (l : Counter) (apart : counter_word l ≢ counter_word k) where
  abbrev before : ℕ → ℕ → List ℕ
  before i v = put_word t i (counter_word l) v

  abbrev moved : ℕ
  moved = shifted d (word_at t (pred a) (counter_word k)) m

  -- a counter written before another is moved, or after
  put_move : (i v : ℕ) → put_word (move_count t k a d m) i (counter_word l) v ≡ move_count (before i v) k a d m
  unfolding move_count
  put_move i v =
      rw (capacity_put_word t i (counter_word l) v, word_other t i (counter_word l) v (pred a) (counter_word k) (counter_below l) (counter_below k) (λ _ e. apart e))
      (go (is_cell (capacity t) a))
    where
      go : (b : Bool) → put_word (cond b (put_word t (pred a) (counter_word k) moved) t) i (counter_word l) v
          ≡ cond b (put_word (before i v) (pred a) (counter_word k) moved) (before i v)
      go true = put_comm t (pred a) (counter_word k) moved i (counter_word l) v (counter_below k) (counter_below l) (λ _ e. apart (sym e))
      go false = refl

  pub move_comm : (b : ℕ) (e : Direction) (n : ℕ) → move_count (move_count t k a d m) l b e n ≡ move_count (move_count t l b e n) k a d m
  move_comm b e n =
      move_is (move_count t k a d m) l b e n
      ∙ rw (capacity_move t k a d m, word_move t k a d m (pred b) (counter_word l) (counter_below l) apart) (go (is_cell (capacity t) b))
      ∙ ap (λ (u : List ℕ). move_count u k a d m) (sym (move_is t l b e n))
    where
      to : List ℕ
      to = before (pred b) (shifted e (word_at t (pred b) (counter_word l)) n)

      go : (c : Bool) → cond c (put_word (move_count t k a d m) (pred b) (counter_word l) (shifted e (word_at t (pred b) (counter_word l)) n)) (move_count t k a d m)
          ≡ move_count (cond c to t) k a d m
      go true = put_move (pred b) (shifted e (word_at t (pred b) (counter_word l)) n)
      go false = refl

-- two changes of different counters, in either order
pub exchange : (t : List ℕ) (h j : Change) (hs : List Change) → counter_word j.counter ≢ counter_word h.counter
    → apply_changes t (h ∷ j ∷ hs) ≡ apply_changes t (j ∷ h ∷ hs)
unfolding apply_changes
exchange t h j hs apart =
    ap (λ (u : List ℕ). apply_changes u hs)
    (move_comm t h.counter h.word h.direction h.amount j.counter apart j.word j.direction j.amount)

put_again : (t : List ℕ) (i k v w : ℕ) → put_word (put_word t i k v) i k w ≡ put_word t i k w
unfolding put_word
put_again t i k v w = set-set t (position i k) v w

ends_put : (t : List ℕ) (i k v f l : ℕ) → put_ends (put_word t i k v) f l ≡ put_word (put_ends t f l) i k v
unfolding put_ends put_word position
ends_put t i k v f l =
    ap (λ (u : List ℕ). set u 2 l) (set_comm t (header + stride * i + k) 1 v f (omega arith))
    ∙ set_comm (set t 1 f) (header + stride * i + k) 2 v l (omega arith)

-- a word written before several words of a cell: of another cell it stands, of those words it is lost
words_other : (t : List ℕ) (i k : ℕ) (vs : List ℕ) → k + length vs ≤ stride → (p m v : ℕ) → m < stride → (p ≡ i → ⊥)
    → put_words (put_word t p m v) i k vs ≡ put_word (put_words t i k vs) p m v
unfolding put_words
words_other t i k [] l p m v h d = refl
words_other t i k (w ∷ vs) l p m v h d =
    ap (λ (u : List ℕ). put_words u i (suc k) vs) (put_comm t p m v i k w h (omega arith) (λ e _. d e))
    ∙ words_other (put_word t i k w) i (suc k) vs (omega arith) p m v h d

words_same : (t : List ℕ) (i k : ℕ) (vs : List ℕ) → k + length vs ≤ stride → (m v : ℕ) → k ≤ m → m < k + length vs → put_words (put_word t i m v) i k vs ≡ put_words t i k vs
unfolding put_words
words_same t i k [] l m v low high = absurd (omega arith)
words_same t i k (w ∷ vs) l m v low high =
    ⊎_elim (λ e. ap (λ (u : List ℕ). put_words u i (suc k) vs) (rw (eqb-true k m e) (put_again t i m v w)))
    (λ e. let d = eqb-false k m e in
    ap (λ (u : List ℕ). put_words u i (suc k) vs) (put_comm t i m v i k w (omega arith) (omega arith) (λ _ x. d (omega arith)))
    ∙ words_same (put_word t i k w) i (suc k) vs (omega arith) m v (omega (arith, d)) (omega arith))
    (tested (eqb k m))

module _ (t : List ℕ) (i p v : ℕ) where
  abbrev put : List ℕ → List ℕ
  put u = put_word u p cell_count v

  abbrev end : ℕ
  end = cond (eqb (first_free t) 0) (suc i) (last_free t)

  abbrev wiped : List ℕ
  wiped = put_cell t i (free_cell (first_free t))

  -- a cell count written and the cell at index i wiped
  wipe_other : (p ≡ i → ⊥) → put_cell (put t) i (free_cell (first_free t)) ≡ put wiped
  unfolding put_cell
  wipe_other d = words_other t i left (free_cell (first_free t)) (omega arith) p cell_count v (omega arith) d

  wipe_same : p ≡ i → put_cell (put t) i (free_cell (first_free t)) ≡ wiped
  unfolding put_cell
  wipe_same e = rw e (words_same t i left (free_cell (first_free t)) (omega arith) cell_count v (omega arith) (omega arith))

  join_other : (p ≡ i → ⊥) → join (put t) i ≡ put (join t i)
  unfolding join
  join_other d = rw (last_free_put_word t p cell_count v, first_free_put_word t p cell_count v, wipe_other d) (ends_put wiped p cell_count v (suc i) end)

  join_same : p ≡ i → join (put t) i ≡ join t i
  unfolding join
  join_same e = rw (last_free_put_word t p cell_count v, first_free_put_word t p cell_count v, wipe_same e)

module _ (t : List ℕ) (i w n : ℕ) (f : table_length (capacity t) ≤ length t) (l : i < capacity t) where
  -- lowering the count of a cell that is wiped, or of another
  pub join_move : move_count (join t i) cell w minus n ≡ join (move_count t cell w minus n) i
  unfolding move_count
  join_move = rw (joins t i f l).same_capacity (⊎_elim (λ (e : is_cell (capacity t) w ≡ true). rw e (at_cell (cell_index (capacity t) w e))) (λ (e : is_cell (capacity t) w ≡ false). rw e) (tested (is_cell (capacity t) w)))
    where
      at_cell : pred w < capacity t → put_word (join t i) (pred w) cell_count (word_at (join t i) (pred w) cell_count - n) ≡ join (put_word t (pred w) cell_count (word_at t (pred w) cell_count - n)) i
      at_cell m = ⊎_elim (λ e. here (eqb-true (pred w) i e)) (λ e. elsewhere (eqb-false (pred w) i e)) (tested (eqb (pred w) i))
        where
          here : pred w ≡ i → put_word (join t i) (pred w) cell_count (word_at (join t i) (pred w) cell_count - n) ≡ join (put_word t (pred w) cell_count (word_at t (pred w) cell_count - n)) i
          here e =
              let zero : word_at (join t i) (pred w) cell_count ≡ 0 = rw e ((joins t i f l).wiped cell_count (omega arith) (omega arith)) in
              let same : word_at (join t i) (pred w) cell_count - n ≡ word_at (join t i) (pred w) cell_count = omega arith in
              ap (put_word (join t i) (pred w) cell_count) same ∙ put_itself (join t i) (pred w) cell_count
              ∙ sym (join_same t i (pred w) (word_at t (pred w) cell_count - n) e)

          elsewhere : (pred w ≡ i → ⊥) → put_word (join t i) (pred w) cell_count (word_at (join t i) (pred w) cell_count - n) ≡ join (put_word t (pred w) cell_count (word_at t (pred w) cell_count - n)) i
          elsewhere d =
              ap (λ (x : ℕ). put_word (join t i) (pred w) cell_count (x - n)) ((joins t i f l).unchanged (pred w) cell_count (omega arith) d)
              ∙ sym (join_other t i (pred w) (word_at t (pred w) cell_count - n) d)
