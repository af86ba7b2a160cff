-- The early questions as chains of numbers: which number each "no" gives, what follows where there is none, and that the chains are the machine's lists.
use Rattle.std.specs.Prelude.{Ok, Err}
use mathlib.Core.Path.{◌≡◌, refl, sym, ap, ◌∙◌}
use mathlib.Core.Logic.{⊎_elim}
use mathlib.Core.Bool.{Bool, true, false, not}
use mathlib.Core.List.{List}
use Prim.Native.Nat.{ℕ, zero, suc}
use native.Mathlib.Omega.{arith}
use borrow.Author.Tests.{not-true, not-false}
use Rattle.machine.specs.declared.Queue.{Queue}
use Rattle.machine.specs.Words.{is_cell, is_legal, may_be_stored}
use Rattle.machine.specs.Table.{capacity}
use Rattle.machine.specs.Questions.{refused_by, in_range, number_in_range}
use Rattle.machine.proofs.Range.{tested}
use Rattle.machine.specs.Facts.{Shape}
use Rattle.machine.specs.Answers.{Asked}
use Rattle.machine.specs.declared.Refusal.{Refusal}
use Rattle.machine.specs.Answers.{asked_number}
use Rattle.machine.proofs.Answers.{refusal_some, asked_no, asked_yes}
use Rattle.machine.proofs.Questions.{shape_is}
use Rattle.calls.specs.Early.{words_number, first_of, cell_number, stored_number}

first_some : (a b : ℕ) → (a ≡ 0 → ⊥) → first_of a b ≡ a
first_some zero b h = absurd (h refl)
first_some (suc a) b h = refl

-- what a test `!r` says, by its outcome, of the question b that r answers
pub yes : {r b : Bool} → r ≡ b → not r ≡ false → b ≡ true
yes {r} e h = sym e ∙ not-false r h

pub no : {r b : Bool} → r ≡ b → not r ≡ true → b ≡ false
no {r} e h = sym e ∙ not-true r h

-- a test of a word against the C that was read
pub legal : (t : List ℕ) (c w : ℕ) {r b : Bool} → c ≡ capacity t → r ≡ is_legal c w → r ≡ b → is_legal (capacity t) w ≡ b
legal t c w e h k = ap (λ (n : ℕ). is_legal n w) (sym e) ∙ sym h ∙ k

pub cellular : (t : List ℕ) (c w : ℕ) {r b : Bool} → c ≡ capacity t → r ≡ is_cell c w → r ≡ b → is_cell (capacity t) w ≡ b
cellular t c w e h k = ap (λ (n : ℕ). is_cell n w) (sym e) ∙ sym h ∙ k

module _ (t : List ℕ) (q : Queue) (n x y : ℕ) where
  pub words_1 : in_range t q ≡ false → words_number t q n x y ≡ 1
  unfolding words_number
  words_1 a = rw a

  pub words_3 : in_range t q ≡ true → number_in_range n ≡ false → words_number t q n x y ≡ 3
  unfolding words_number
  words_3 a b = rw (a, b)

  pub words_x : in_range t q ≡ true → number_in_range n ≡ true → is_legal (capacity t) x ≡ false → words_number t q n x y ≡ 4
  unfolding words_number
  words_x a b c = rw (a, b, c)

  pub words_y : in_range t q ≡ true → number_in_range n ≡ true → is_legal (capacity t) x ≡ true → is_legal (capacity t) y ≡ false → words_number t q n x y ≡ 4
  unfolding words_number
  words_y a b c d = rw (a, b, c, d)

  pub words_0 : in_range t q ≡ true → number_in_range n ≡ true → is_legal (capacity t) x ≡ true → is_legal (capacity t) y ≡ true → words_number t q n x y ≡ 0
  unfolding words_number
  words_0 a b c d = rw (a, b, c, d)

  -- where questions 1, 3 and 4 say "yes"
  pub words_shape : words_number t q n x y ≡ 0 → Shape t q
  words_shape h = ⊎_elim (λ e. shape_is t q e) (λ e. absurd (omega (arith, words_1 e))) (tested (in_range t q))

-- those before say "yes"
pub none_before : (a m n : ℕ) → a ≡ 0 → n ≡ m → n ≡ first_of a m
none_before a m n z h = h ∙ sym (ap (λ (i : ℕ). first_of i m) z)

-- an early "no" is the call's, and else the late answer is
pub early_first : (total a b : ℕ) (r : Asked) (f : Refusal) → total ≡ first_of a b → asked_number r ≡ a → r ≡ Err f → asked_number r ≡ total
early_first total a b r f e h d = h ∙ sym (first_some a b (λ z. omega (arith, refusal_some f, asked_no h d ∙ z))) ∙ sym e

pub late_first : (total a b : ℕ) (r : Asked) → total ≡ first_of a b → a ≡ 0 → asked_number r ≡ b → asked_number r ≡ total
late_first total a b r e z h = none_before a b (asked_number r) z h ∙ sym e

-- question 14 behind the number that those before it gave
pub stored_behind : (n a b m : ℕ) → n ≡ first_of a m → a ≡ b → n ≡ first_of b m
stored_behind n a b m e h = e ∙ ap (λ (i : ℕ). first_of i m) h

pub words_first : (t : List ℕ) (q : Queue) (n x y : ℕ) (r : Asked) (f : Refusal) → asked_number r ≡ words_number t q n x y → r ≡ Err f
    → asked_number r ≡ cell_number t q n x y
unfolding cell_number
words_first t q n x y r f h d = early_first (cell_number t q n x y) (words_number t q n x y) (refused_by (is_cell (capacity t) x) 5 0) r f refl h d

module _ (t : List ℕ) (q : Queue) (n x y : ℕ) (r : Asked) (yes : r ≡ Ok tt) where
  pub words_ready : asked_number r ≡ words_number t q n x y → Shape t q
  words_ready h = words_shape t q n x y (sym (asked_yes h yes))

  pub cell_yes : asked_number r ≡ words_number t q n x y → is_cell (capacity t) x ≡ true → 0 ≡ cell_number t q n x y
  unfolding cell_number
  cell_yes h e = rw (← (asked_yes h yes), e)

  pub cell_5 : asked_number r ≡ words_number t q n x y → is_cell (capacity t) x ≡ false → 5 ≡ cell_number t q n x y
  unfolding cell_number
  cell_5 h e = rw (← (asked_yes h yes), e)

module _ (x y : ℕ) where
  pub stored_x : may_be_stored x ≡ false → 14 ≡ stored_number x y
  unfolding stored_number
  stored_x a = rw a

  pub stored_y : may_be_stored x ≡ true → may_be_stored y ≡ false → 14 ≡ stored_number x y
  unfolding stored_number
  stored_y a b = rw (a, b)

  pub stored_0 : may_be_stored x ≡ true → may_be_stored y ≡ true → 0 ≡ stored_number x y
  unfolding stored_number
  stored_0 a b = rw (a, b)
