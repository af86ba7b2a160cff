-- The questions before a text is written, as the code asks them.
use mathlib.Core.Path.{◌≡◌, refl, sym, ◌∙◌}
use mathlib.Core.Bool.{Bool, true, false, ◌&&◌}
use mathlib.Core.List.{List, [], ◌∷◌}
use Rattle.std.specs.Prelude.{Some}
use Prim.Native.Nat.{ℕ, pred, ◌+◌, ◌≤◌}
use native.Mathlib.Omega.{arith}
use lib.Dec.{leb}
use lib.ListN.{length}
use Rattle.machine.specs.declared.Queue.{Queue}
use Rattle.machine.specs.Range.{every_of}
use Rattle.machine.specs.Words.{is_cell, is_legal}
use Rattle.machine.specs.Table.{root_count, capacity, table_length, word_at}
use Rattle.machine.specs.Queue.{Packet, waiting}
use Rattle.machine.specs.Packets.{root, plus, minus, waiting_change}
use Rattle.machine.specs.Counts.{held_at_least}
use Rattle.machine.specs.Questions.{first_no, in_range, words_legal, word_held}
use Rattle.machine.proofs.Words.{cell_number_lem}
use Rattle.machine.proofs.Questions.{first_no_all, shape_is}
use Rattle.counts.specs.Cells.{IndexOf}
use Rattle.writer.specs.Front.{front}

module _ (t : List ℕ) (ps : List Packet) (w : ℕ) where
  -- a cell's held count by its sums
  pub held_cell : (i n r l r' l' : ℕ) {b : Bool} → IndexOf t w (Some i) → n ≡ word_at t i root_count → r ≡ waiting_change root plus w ps
      → l ≡ waiting_change root minus w ps → r' ≡ n + r → l' ≡ l → b ≡ leb (l' + 1) r' → b ≡ word_held t ps w
  unfolding word_held held_at_least
  held_cell i n r l r' l' c e d h d' h' k =
      let index : i ≡ pred w = omega (arith, c.1) in
      k ∙ rw (c.0, h', h, d', e, d, index, sym (cell_number_lem (capacity t) w c.0))

  pub held_other : is_cell (capacity t) w ≡ false → true ≡ word_held t ps w
  unfolding word_held
  held_other c = rw c

module _ (t : List ℕ) (q : Queue) (w : ℕ) where
  legal_word : words_legal t (w ∷ []) ≡ is_legal (capacity t) w
  unfolding words_legal every_of
  legal_word = and-true (is_legal (capacity t) w)
    where
      and-true : (b : Bool) → b && true ≡ b
      and-true true = refl
      and-true false = refl

  pub front_1 : in_range t q ≡ false → 1 ≡ first_no (front t q w)
  unfolding first_no front
  front_1 a = rw a

  pub front_4 : in_range t q ≡ true → is_legal (capacity t) w ≡ false → 4 ≡ first_no (front t q w)
  unfolding first_no front
  front_4 a b = rw (a, legal_word, b)

  pub front_6 : in_range t q ≡ true → is_legal (capacity t) w ≡ true → word_held t (waiting q) w ≡ false → 6 ≡ first_no (front t q w)
  unfolding first_no front
  front_6 a b c = rw (a, legal_word, b, c)

  pub front_0 : in_range t q ≡ true → is_legal (capacity t) w ≡ true → word_held t (waiting q) w ≡ true → 0 ≡ first_no (front t q w)
  unfolding first_no front
  front_0 a b c = rw (a, legal_word, b, c)

  -- where no question says "no" the table has the words of its cells
  pub front_room : 0 ≡ first_no (front t q w) → table_length (capacity t) ≤ length t
  unfolding front
  front_room e = (shape_is t q (first_no_all (front t q w) (omega arith, (omega arith, (omega arith, tt))) (sym e)).0).table.room
