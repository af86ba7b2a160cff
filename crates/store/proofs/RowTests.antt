-- On a sound store the code's questions of a row call have the paper's answers.
use mathlib.Core.Path.{◌≡◌, refl, sym, ap, ap₂, ◌∙◌}
use mathlib.Core.Logic.{⊎_elim, ◌↔◌}
use mathlib.Core.Bool.{Bool, true, false, cond, not, ◌&&◌, ◌||◌}
use mathlib.Core.List.{List, [], ◌∷◌, ◌++◌}
use Prim.Native.Nat.{ℕ, zero, suc, pred, ◌+◌, ◌≤◌, ◌<◌}
use native.Mathlib.Omega.{arith}
use lib.Dec.{leb, eqb}
use borrow.Author.Tests.{leb-true, le-leb, eqb-true, eqb-false, ltb-true, not-true}
use Rattle.machine.specs.declared.Queue.{Queue}
use Rattle.machine.specs.Range.{matching, every_of}
use Rattle.machine.specs.Words.{is_cell, ceiling}
use Rattle.machine.specs.Table.{capacity, first_free, word_at}
use Rattle.machine.specs.Queue.{Arrays, Packet, slots, appended, waiting}
use Rattle.machine.specs.Packets.{Counter, root, cell, plus, minus, Change, kind_of, changes, same_counter, same_direction, moved_by, waiting_change, contains}
use Rattle.machine.specs.Calls.{RowCall, car, cdr, cons, set_left, set_right, up, down, row, store, packet_of, reads_nil, written}
use Rattle.machine.specs.Step.{counter_word}
use Rattle.machine.specs.Questions.{Question, ask, first_no, held_enough, slot_empty, cell_free, held_within, pointers_within, early_row, early, ask_free, late_queued, late_row, late, questions}
use Rattle.machine.specs.Audit.{Sound}
use Rattle.machine.proofs.Range.{tested, not_both, lt_or_ge, or_left, or_right, matching_other, same_tests}
use Rattle.machine.proofs.Lists.{every_of_at, every_of_all}
use Rattle.machine.proofs.Words.{cell_index, index_cell}
use Rattle.machine.proofs.Questions.{Numbered, AllYes, first_no_append, first_no_none, first_no_all, early_numbered}
use Rattle.machine.proofs.NilReads.{late_queued_lem}
use Rattle.soundness.proofs.CodeTests.{pointers_counted, first_free_lem, held_most, pointers_most}
use Rattle.soundness.proofs.RowQuestions.{held_test}
use Rattle.soundness.proofs.RaisedCells.{Fits, question9, question10}
use Rattle.calls.specs.Tests.{raised_words, count_within, raised_within, free_by_end, code_late, code_late_row, code_questions}
use Rattle.calls.proofs.RowLaws.{code_nil}

-- a word that a list of changes raises by something is among its raised words
raised_contains : (k : Counter) (x : ℕ) (hs : List Change) → 0 < moved_by k plus x hs → contains (raised_words k hs) x ≡ true
unfolding moved_by raised_words contains
raised_contains k x [] l = absurd (omega arith)
raised_contains k x (h ∷ hs) l = ⊎_elim (λ b. raised b (raised_contains k x hs)) (λ b. other b (raised_contains k x hs)) (tested test)
  where
    test : Bool
    test = same_counter k h.counter && same_direction plus h.direction

    raised : test ≡ true → (0 < moved_by k plus x hs → contains (raised_words k hs) x ≡ true) → contains (cond test (h.word ∷ []) [] ++ raised_words k hs) x ≡ true
    raised b ih =
        let m : 0 < matching h.word x h.amount + moved_by k plus x hs = rw b at l in
        rw b (⊎_elim (λ e. or_left (contains (raised_words k hs) x) e)
        (λ e. or_right (eqb h.word x) (ih (omega (arith, matching_other h.word x h.amount (eqb-false h.word x e))))) (tested (eqb h.word x)))

    other : test ≡ false → (0 < moved_by k plus x hs → contains (raised_words k hs) x ≡ true) → contains (cond test (h.word ∷ []) [] ++ raised_words k hs) x ≡ true
    other b ih =
        let m : 0 < 0 + moved_by k plus x hs = rw b at l in
        rw b (ih (omega arith))

-- on a sound store each counter of a call's changes is with its waiting changes within the ceiling before the call
Within : List ℕ → Queue → Counter → Type 0
Within t q k = (i : ℕ) → i < capacity t
    → word_at t i (counter_word k) + waiting_change k plus (suc i) (waiting q) ≤ ceiling + waiting_change k minus (suc i) (waiting q)

-- the code's test for questions 9 and 10, as plain facts
raised_is : (t : List ℕ) (q : Queue) (p : Packet) (k : Counter) → Within t q k
    → (raised_within k t (waiting q) p ≡ true) ↔ ((i : ℕ) → i < capacity t → 0 < moved_by k plus (suc i) (changes p) → Fits k (word_at t i (counter_word k)) (suc i) (waiting q) p)
unfolding raised_within count_within Within
raised_is t q p k before = (there, back)
  where
    ps : List Packet
    ps = waiting q

    up : ℕ → ℕ
    up i = word_at t i (counter_word k) + waiting_change k plus (suc i) ps + moved_by k plus (suc i) (changes p)

    down : ℕ → ℕ
    down i = ceiling + waiting_change k minus (suc i) ps + moved_by k minus (suc i) (changes p)

    test : ℕ → Bool
    test w = not (is_cell (capacity t) w) || leb (up (pred w)) (down (pred w))

    there : every_of (raised_words k (changes p)) test ≡ true → (i : ℕ) → i < capacity t → 0 < moved_by k plus (suc i) (changes p) → up i ≤ down i
    there h i l m =
        let e : pred (suc i) ≡ i = omega arith in
        let o : test (suc i) ≡ true = every_of_at (raised_words k (changes p)) test (suc i) h (raised_contains k (suc i) (changes p) m) in
        leb-true (up i) (down i) (rw (index_cell (capacity t) i l, e) at o)

    back : ((i : ℕ) → i < capacity t → 0 < moved_by k plus (suc i) (changes p) → up i ≤ down i) → every_of (raised_words k (changes p)) test ≡ true
    back f = every_of_all (raised_words k (changes p)) test (λ w _. ⊎_elim (λ (e : is_cell (capacity t) w ≡ true). inside w e) (λ (e : is_cell (capacity t) w ≡ false). rw e) (tested (is_cell (capacity t) w)))
      where
        inside : (w : ℕ) → is_cell (capacity t) w ≡ true → test w ≡ true
        inside w e =
            let l = cell_index (capacity t) w e in
            rw e (le-leb (up (pred w)) (down (pred w)) (⊎_elim (λ m. f (pred w) l m) (λ z. omega (arith, before (pred w) l)) (lt_or_ge 0 (moved_by k plus (suc (pred w)) (changes p)))))

-- question 8: the first free end against the free cells
free_same : (t : List ℕ) (q : Queue) → Sound t q → (r : RowCall) → free_by_end (kind_of (packet_of t r).kind) t ≡ ask_free t r
unfolding free_by_end ask_free packet_of kind_of
free_same t q s (car x) = refl
free_same t q s (cdr x) = refl
free_same t q s (cons x y) = ap (λ (b : Bool). ask 8 b ∷ []) (same_tests (not (eqb (first_free t) 0)) (cell_free t) there back)
  where
    there : not (eqb (first_free t) 0) ≡ true → cell_free t ≡ true
    there h = ⊎_elim (λ c. c) (λ c. absurd (eqb-false (first_free t) 0 (not-true (eqb (first_free t) 0) h) ((first_free_lem t q s).1 c))) (tested (cell_free t))

    back : cell_free t ≡ true → not (eqb (first_free t) 0) ≡ true
    back c = ⊎_elim (λ e. absurd (not_both c ((first_free_lem t q s).0 (eqb-true (first_free t) 0 e)))) (λ (e : eqb (first_free t) 0 ≡ false). rw e) (tested (eqb (first_free t) 0))
free_same t q s (set_left x y) = refl
free_same t q s (set_right x y) = refl
free_same t q s (up x n) = refl
free_same t q s (down x n) = refl

-- two lists that agree wherever the questions before them say "yes"
first_no_same : (ks ls ms : List Question) → Numbered ks → (AllYes ks → first_no ls ≡ first_no ms) → first_no (ks ++ ls) ≡ first_no (ks ++ ms)
first_no_same ks ls ms n f = go (first_no ks) refl
  where
    go : (m : ℕ) → first_no ks ≡ m → first_no (ks ++ ls) ≡ first_no (ks ++ ms)
    go zero e = first_no_none ks ls n e ∙ f (first_no_all ks n e) ∙ sym (first_no_none ks ms n e)
    go (suc m) e = first_no_append ks ls m e ∙ sym (first_no_append ks ms m e)

free_numbered : (t : List ℕ) (r : RowCall) → Numbered (ask_free t r)
unfolding ask_free
free_numbered t (car x) = tt
free_numbered t (cdr x) = tt
free_numbered t (cons x y) = (omega arith, tt)
free_numbered t (set_left x y) = tt
free_numbered t (set_right x y) = tt
free_numbered t (up x n) = tt
free_numbered t (down x n) = tt

module _ (t : List ℕ) (q : Queue) (s : Sound t q) (a : Arrays q) (r : RowCall) (yes : AllYes (early_row t r)) where
  abbrev p : Packet
  p = packet_of t r

  abbrev before : List Question
  before = ask 6 (held_enough t (waiting q) p) ∷ ask 7 (slot_empty q) ∷ ask_free t r

  slot : slot_empty q ≡ true → q.count < slots
  unfolding slot_empty
  slot h = ltb-true q.count slots h

  nine : AllYes before → raised_within root t (waiting q) p ≡ held_within (written t r) (waiting (appended q p))
  nine y =
      let code = raised_is t q p root (unfold Within in held_most t q s) in
      let paper = question9 t q s r yes (held_test t (waiting q) p y.0) y.1.1 a (slot y.1.0) in
      same_tests (raised_within root t (waiting q) p) (held_within (written t r) (waiting (appended q p))) (λ h. paper.1 (code.0 h)) (λ h. code.1 (paper.0 h))

  ten : AllYes before → raised_within cell t (waiting q) p ≡ pointers_within (written t r)
  ten y =
      let code = raised_is t q p cell (unfold Within in λ i l. omega (arith, pointers_counted t q s i l, pointers_most t q s i l)) in
      let paper = question10 t q s r yes (held_test t (waiting q) p y.0) y.1.1 in
      same_tests (raised_within cell t (waiting q) p) (pointers_within (written t r)) (λ h. paper.1 (code.0 h)) (λ h. code.1 (paper.0 h))

  late_same : first_no (code_late t q p) ≡ first_no (late_queued t q r)
  unfolding code_late
  late_same =
      ap (λ (f : List Question). first_no (ask 6 (held_enough t (waiting q) p) ∷ ask 7 (slot_empty q) ∷ f ++ (ask 9 (raised_within root t (waiting q) p) ∷ ask 10 (raised_within cell t (waiting q) p) ∷ []))) (free_same t q s r)
      ∙ first_no_same before (ask 9 (raised_within root t (waiting q) p) ∷ ask 10 (raised_within cell t (waiting q) p) ∷ [])
      (ask 9 (held_within (written t r) (waiting (appended q p))) ∷ ask 10 (pointers_within (written t r)) ∷ []) (omega arith, (omega arith, free_numbered t r))
      (λ y. ap₂ (λ (d e : Bool). first_no (ask 9 d ∷ ask 10 e ∷ [])) (nine y) (ten y))

pub queued_late : (t : List ℕ) (q : Queue) (r : RowCall) → reads_nil r ≡ false → code_late_row t q r ≡ code_late t q (packet_of t r)
unfolding code_late_row
queued_late t q r n = rw n

pub questions_same : (t : List ℕ) (q : Queue) → Sound t q → Arrays q → (r : RowCall) → first_no (code_questions t q r) ≡ first_no (questions (store t q []) (row r))
unfolding code_questions questions late early
questions_same t q s a r = ⊎_elim (λ n. ap first_no (code_nil t q r n)) queued (tested (reads_nil r))
  where
    queued : reads_nil r ≡ false → first_no (code_questions t q r) ≡ first_no (questions (store t q []) (row r))
    queued n =
        first_no_same (early (store t q []) (row r)) (code_late_row t q r) (late_row t q r) (early_numbered (store t q []) (row r))
        (λ y. ap first_no (queued_late t q r n) ∙ late_same t q s a r y.1 ∙ sym (ap first_no (late_queued_lem t q r n)))
