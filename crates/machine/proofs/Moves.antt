-- Laws of moving one counter of a word: one law over the counter and the direction.
use mathlib.Core.Path.{◌≡◌, refl, sym, ap, ◌∙◌}
use mathlib.Core.Logic.{⊎_elim, ◌≢◌}
use mathlib.Core.Bool.{true, false}
use mathlib.Core.List.{List}
use Prim.Native.Nat.{ℕ, suc, pred, ◌≤◌, ◌<◌}
use native.Mathlib.Omega.{arith}
use lib.Dec.{eqb}
use lib.ListN.{length, drop}
use borrow.Author.Tests.{eqb-true, eqb-false}
use Rattle.machine.specs.Range.{matching}
use Rattle.machine.specs.Words.{is_cell}
use Rattle.machine.specs.Table.{stride, capacity, first_free, last_free, table_length, word_at, put_word}
use Rattle.machine.specs.Packets.{Counter, root, cell, name, Direction, plus, minus}
use Rattle.machine.specs.Step.{counter_word, shifted, move_count}
use Rattle.machine.proofs.Range.{tested, matching_same, matching_other}
use Rattle.machine.proofs.Words.{cell_index, cell_number_lem, index_cell}
use Rattle.machine.proofs.Table.{room, word_same, word_other, length_put_word, capacity_put_word, first_free_put_word, last_free_put_word, past_put_word}

pub counter_below : (k : Counter) → counter_word k < stride
counter_below root = omega arith
counter_below cell = omega arith
counter_below name = omega arith

pub shifted_none : (d : Direction) (n : ℕ) → shifted d n 0 ≡ n
shifted_none plus n = omega arith
shifted_none minus n = omega arith

module _ (t : List ℕ) (k : Counter) (w : ℕ) (d : Direction) (n : ℕ) where
  to : List ℕ
  to = put_word t (pred w) (counter_word k) (shifted d (word_at t (pred w) (counter_word k)) n)

  move_cell : is_cell (capacity t) w ≡ true → move_count t k w d n ≡ to
  unfolding move_count to
  move_cell h = rw h

  move_none : is_cell (capacity t) w ≡ false → move_count t k w d n ≡ t
  unfolding move_count
  move_none h = rw h

  -- what a write keeps, a move keeps
  move_keeps : (P : List ℕ → Type 0) → P t → (is_cell (capacity t) w ≡ true → P to) → P (move_count t k w d n)
  move_keeps P h f = ⊎_elim (λ (e : is_cell (capacity t) w ≡ true). rw (move_cell e) (f e)) (λ (e : is_cell (capacity t) w ≡ false). rw (move_none e) h) (tested (is_cell (capacity t) w))

  pub length_move : length (move_count t k w d n) ≡ length t
  unfolding to
  length_move = move_keeps (λ u. length u ≡ length t) refl (λ e. length_put_word t (pred w) (counter_word k) _)

  pub capacity_move : capacity (move_count t k w d n) ≡ capacity t
  unfolding to
  capacity_move = move_keeps (λ u. capacity u ≡ capacity t) refl (λ e. capacity_put_word t (pred w) (counter_word k) _)

  pub first_free_move : first_free (move_count t k w d n) ≡ first_free t
  unfolding to
  first_free_move = move_keeps (λ u. first_free u ≡ first_free t) refl (λ e. first_free_put_word t (pred w) (counter_word k) _)

  pub last_free_move : last_free (move_count t k w d n) ≡ last_free t
  unfolding to
  last_free_move = move_keeps (λ u. last_free u ≡ last_free t) refl (λ e. last_free_put_word t (pred w) (counter_word k) _)

  pub past_move : drop (table_length (capacity t)) (move_count t k w d n) ≡ drop (table_length (capacity t)) t
  unfolding to
  past_move = move_keeps (λ u. drop (table_length (capacity t)) u ≡ drop (table_length (capacity t)) t) refl (λ e. past_put_word t (capacity t) (pred w) (counter_word k) _ (cell_index (capacity t) w e) (counter_below k))

  -- every word but the counter stands
  pub word_move : (j m : ℕ) → m < stride → m ≢ counter_word k → word_at (move_count t k w d n) j m ≡ word_at t j m
  unfolding to
  word_move j m l h = move_keeps (λ u. word_at u j m ≡ word_at t j m) refl (λ e. word_other t (pred w) (counter_word k) _ j m (counter_below k) l (λ x y. h (sym y)))

  -- the counter of each cell moves by n where the word is that cell, else by nothing
  pub count_move : table_length (capacity t) ≤ length t → (j : ℕ) → j < capacity t → word_at (move_count t k w d n) j (counter_word k) ≡ shifted d (word_at t j (counter_word k)) (matching w (suc j) n)
  unfolding to
  count_move f j l = ⊎_elim (λ e. here (eqb-true w (suc j) e)) (λ e. elsewhere (eqb-false w (suc j) e)) (tested (eqb w (suc j)))
    where
      here : w ≡ suc j → word_at (move_count t k w d n) j (counter_word k) ≡ shifted d (word_at t j (counter_word k)) (matching w (suc j) n)
      here e =
          let p : pred w ≡ j = omega arith in
          let at_j = word_same t (pred w) (counter_word k) (shifted d (word_at t (pred w) (counter_word k)) n) (room t (capacity t) (pred w) f (omega arith)) (counter_below k) in
          rw (move_cell (rw e (index_cell (capacity t) j l)), matching_same w (suc j) n e)
          (ap (λ (i : ℕ). word_at to i (counter_word k)) (sym p) ∙ at_j ∙ ap (λ (i : ℕ). shifted d (word_at t i (counter_word k)) n) p)

      elsewhere : (w ≡ suc j → ⊥) → word_at (move_count t k w d n) j (counter_word k) ≡ shifted d (word_at t j (counter_word k)) (matching w (suc j) n)
      elsewhere h =
          rw (matching_other w (suc j) n h, shifted_none d (word_at t j (counter_word k)))
          (move_keeps (λ u. word_at u j (counter_word k) ≡ word_at t j (counter_word k)) refl
          (λ e. word_other t (pred w) (counter_word k) _ j (counter_word k) (counter_below k) (counter_below k) (λ x y. h (cell_number_lem (capacity t) w e ∙ ap suc x))))
