-- Laws of lists of questions: what the first "no" says, and what holds where there is none; question 1 as plain facts.
use Rattle.std.specs.Prelude.{Ok, Err}
use mathlib.Core.Path.{◌≡◌, refl, sym, ◌∙◌}
use mathlib.Core.Logic.{⊎_elim}
use mathlib.Core.Bool.{Bool, true, false, cond, ◌&&◌}
use mathlib.Core.List.{List, [], ◌∷◌, ◌++◌}
use Prim.Native.Nat.{ℕ, suc, ◌≤◌, ◌<◌}
use native.Mathlib.Omega.{arith}
use lib.Dec.{leb, ltb, eqb}
use lib.ListN.{length}
use borrow.Author.Tests.{leb-true, le-leb, ltb-true, lt-ltb, eq-eqb}
use Rattle.machine.specs.declared.Queue.{Queue}
use Rattle.machine.specs.declared.Refusal.{Refusal}
use Rattle.machine.specs.Answers.{Asked}
use Rattle.machine.specs.Answers.{refusal_number, asked_number}
use Rattle.machine.proofs.Answers.{asked_no, asked_yes}
use Rattle.machine.specs.Words.{is_nil, most_cells}
use Rattle.machine.specs.Table.{capacity, first_free, last_free, table_length, scratch_words}
use Rattle.machine.specs.Queue.{slots}
use Rattle.machine.specs.Packets.{contains}
use Rattle.machine.specs.Calls.{car, cdr, cons, set_left, set_right, up, down, Call, fresh, row, step, audit, read, write, Store, store}
use Rattle.machine.specs.Questions.{Question, ask, first_no, x_is_cell, early_row, early, in_range, scratch_enough}
use Rattle.machine.specs.Facts.{Shape, Lent}
use Rattle.machine.specs.Promise.{numbers}
use Rattle.machine.proofs.Range.{tested, not_both, or_left, or_right, and_first, and_second}

-- no question has the number 0, so that 0 says "none"
abbrev pub Numbered : List Question → Type 0
Numbered [] = Unit {0}
Numbered (k ∷ ks) = (0 < k.number) × Numbered ks

abbrev pub AllYes : List Question → Type 0
AllYes [] = Unit {0}
AllYes (k ∷ ks) = (k.answer ≡ true) × AllYes ks

pub first_no_yes : (k : Question) (ks : List Question) → k.answer ≡ true → first_no (k ∷ ks) ≡ first_no ks
unfolding first_no
first_no_yes k ks h = rw h

pub first_no_no : (k : Question) (ks : List Question) → k.answer ≡ false → first_no (k ∷ ks) ≡ k.number
unfolding first_no
first_no_no k ks h = rw h

no_questions : (n : ℕ) → first_no [] ≡ suc n → ⊥
unfolding first_no
no_questions n h = omega arith

-- the first "no" of two lists
pub first_no_append : (ks ls : List Question) (n : ℕ) → first_no ks ≡ suc n → first_no (ks ++ ls) ≡ suc n
first_no_append [] ls n h = absurd (no_questions n h)
first_no_append (k ∷ ks) ls n h =
    ⊎_elim (λ e. first_no_yes k (ks ++ ls) e ∙ first_no_append ks ls n (sym (first_no_yes k ks e) ∙ h))
    (λ e. first_no_no k (ks ++ ls) e ∙ sym (first_no_no k ks e) ∙ h) (tested k.answer)

pub first_no_none : (ks ls : List Question) → Numbered ks → first_no ks ≡ 0 → first_no (ks ++ ls) ≡ first_no ls
first_no_none [] ls p h = refl
first_no_none (k ∷ ks) ls p h =
    ⊎_elim (λ e. first_no_yes k (ks ++ ls) e ∙ first_no_none ks ls p.1 (sym (first_no_yes k ks e) ∙ h))
    (λ e. absurd (omega (arith, first_no_no k ks e, p.0))) (tested k.answer)

-- a "no" carries the number of one of the questions
pub first_no_number : (ks : List Question) (n : ℕ) → first_no ks ≡ suc n → contains (numbers ks) (suc n) ≡ true
unfolding numbers contains
first_no_number [] n h = absurd (no_questions n h)
first_no_number (k ∷ ks) n h =
    ⊎_elim (λ e. or_right (eqb k.number (suc n)) (first_no_number ks n (sym (first_no_yes k ks e) ∙ h)))
    (λ e. or_left (contains (numbers ks) (suc n)) (eq-eqb k.number (suc n) (sym (first_no_no k ks e) ∙ h))) (tested k.answer)

pub first_no_all : (ks : List Question) → Numbered ks → first_no ks ≡ 0 → AllYes ks
first_no_all [] p h = tt
first_no_all (k ∷ ks) p h =
    ⊎_elim (λ e. (e, first_no_all ks p.1 (sym (first_no_yes k ks e) ∙ h))) (λ e. absurd (omega (arith, first_no_no k ks e, p.0))) (tested k.answer)

pub first_no_zero : (ks : List Question) → AllYes ks → first_no ks ≡ 0
first_no_zero [] h = unfold first_no in refl
first_no_zero (k ∷ ks) h = first_no_yes k ks h.0 ∙ first_no_zero ks h.1

-- every question with the number n says "yes": then n is not the first "no"
abbrev pub YesAt : ℕ → List Question → Type 0
YesAt n [] = Unit {0}
YesAt n (k ∷ ks) = (k.number ≡ n → k.answer ≡ true) × YesAt n ks

pub first_no_other : (n : ℕ) (ks : List Question) → YesAt (suc n) ks → first_no ks ≡ suc n → ⊥
first_no_other n [] p h = no_questions n h
first_no_other n (k ∷ ks) p h =
    ⊎_elim (λ e. first_no_other n ks p.1 (sym (first_no_yes k ks e) ∙ h)) (λ e. not_both (p.0 (sym (first_no_no k ks e) ∙ h)) e) (tested k.answer)

-- a question that is asked only where a test says "no"
numbered_unless : (b : Bool) (k : Question) → 0 < k.number → Numbered (cond b [] (k ∷ []))
numbered_unless true k l = tt
numbered_unless false k l = (l, tt)

pub early_numbered : (s : Store) (call : Call) → Numbered (early s call)
unfolding early early_row
early_numbered s (fresh c) = (omega arith, (omega arith, tt))
early_numbered s (row (car x)) = (omega arith, (omega arith, numbered_unless (is_nil x) (ask 5 (x_is_cell s.table x)) (omega arith)))
early_numbered s (row (cdr x)) = (omega arith, (omega arith, numbered_unless (is_nil x) (ask 5 (x_is_cell s.table x)) (omega arith)))
early_numbered s (row (cons x y)) = (omega arith, (omega arith, (omega arith, tt)))
early_numbered s (row (set_left x y)) = (omega arith, (omega arith, (omega arith, (omega arith, tt))))
early_numbered s (row (set_right x y)) = (omega arith, (omega arith, (omega arith, (omega arith, tt))))
early_numbered s (row (up x n)) = (omega arith, (omega arith, (omega arith, (omega arith, tt))))
early_numbered s (row (down x n)) = (omega arith, (omega arith, (omega arith, (omega arith, tt))))
early_numbered s step = (omega arith, (omega arith, tt))
early_numbered s audit = (omega arith, (omega arith, tt))
early_numbered s (read text) = (omega arith, (omega arith, (omega arith, (omega arith, tt))))
early_numbered s (write w room) = (omega arith, (omega arith, tt))

-- question 1 as plain facts
pub shape_is : (t : List ℕ) (q : Queue) → in_range t q ≡ true → Shape t q
unfolding in_range
shape_is t q h =
    let c = leb 1 (capacity t) && leb (capacity t) most_cells in
    let f = c && leb (first_free t) (capacity t) in
    let l = f && leb (last_free t) (capacity t) in
    let p = l && ltb q.place slots in
    let n = p && leb q.count slots in
    let hn = and_first n (leb (table_length (capacity t)) (length t)) h in
    let hp = and_first p (leb q.count slots) hn in
    let hl = and_first l (ltb q.place slots) hp in
    let hf = and_first f (leb (last_free t) (capacity t)) hl in
    let hc = and_first c (leb (first_free t) (capacity t)) hf in
    record {
      table = record {
        some = leb-true 1 (capacity t) (and_first (leb 1 (capacity t)) (leb (capacity t) most_cells) hc);
        most = leb-true (capacity t) most_cells (and_second (leb 1 (capacity t)) (leb (capacity t) most_cells) hc);
        first = leb-true (first_free t) (capacity t) (and_second c (leb (first_free t) (capacity t)) hf);
        last = leb-true (last_free t) (capacity t) (and_second f (leb (last_free t) (capacity t)) hl);
        room = leb-true (table_length (capacity t)) (length t) (and_second n (leb (table_length (capacity t)) (length t)) h);
      };
      queue = record {
        place = ltb-true q.place slots (and_second l (ltb q.place slots) hp);
        count = leb-true q.count slots (and_second p (leb q.count slots) hn);
      };
    }

-- questions 1 and 2
pub lent_is : (t : List ℕ) (q : Queue) (s : List ℕ) → in_range t q ≡ true → scratch_enough t s ≡ true → Lent t q s
unfolding scratch_enough
lent_is t q s h e = record { shape = shape_is t q h; scratch = leb-true (scratch_words (capacity t)) (length s) e }

-- the first "no" of a step, and likewise of an audit
module _ (t : List ℕ) (q : Queue) (s : List ℕ) where
  pub step_asked_1 : in_range t q ≡ false → first_no (early (store t q s) step) ≡ 1
  unfolding first_no early
  step_asked_1 h = rw h

  pub step_asked_2 : in_range t q ≡ true → scratch_enough t s ≡ false → first_no (early (store t q s) step) ≡ 2
  unfolding first_no early
  step_asked_2 h e = rw (h, e)

  pub step_asked : in_range t q ≡ true → scratch_enough t s ≡ true → first_no (early (store t q s) step) ≡ 0
  unfolding first_no early
  step_asked h e = rw (h, e)

  pub says_yes : (x : Asked) → asked_number x ≡ first_no (early (store t q s) step) → x ≡ Ok tt → first_no (early (store t q s) step) ≡ 0
  says_yes x e y = sym (asked_yes e y)

  pub says_no : (x : Asked) (f : Refusal) → asked_number x ≡ first_no (early (store t q s) step) → x ≡ Err f → refusal_number f ≡ first_no (early (store t q s) step)
  says_no x f e y = asked_no e y

  pub asked_lent : first_no (early (store t q s) step) ≡ 0 → Lent t q s
  unfolding early
  asked_lent a = let yes = first_no_all (early (store t q s) step) (early_numbered (store t q s) step) a in lent_is t q s yes.0 yes.1.0

-- where everything but the length is within range, the length decides
pub in_range_length : (t : List ℕ) (q : Queue) → 1 ≤ capacity t → capacity t ≤ most_cells → first_free t ≤ capacity t → last_free t ≤ capacity t → q.place < slots → q.count ≤ slots
    → in_range t q ≡ leb (table_length (capacity t)) (length t)
unfolding in_range
in_range_length t q a b c d e f =
    simp (le-leb 1 (capacity t) a, le-leb (capacity t) most_cells b, le-leb (first_free t) (capacity t) c, le-leb (last_free t) (capacity t) d, lt-ltb q.place slots e, le-leb q.count slots f)

pub shape_test : (t : List ℕ) (q : Queue) → Shape t q → in_range t q ≡ true
shape_test t q s =
    let k = s.table in
    in_range_length t q k.some k.most k.first k.last s.queue.place s.queue.count ∙ le-leb (table_length (capacity t)) (length t) k.room

pub not_in_range : (t : List ℕ) (q : Queue) → (Shape t q → ⊥) → in_range t q ≡ false
not_in_range t q f = ⊎_elim (λ e. absurd (f (shape_is t q e))) (λ e. e) (tested (in_range t q))
