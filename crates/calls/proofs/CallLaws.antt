-- The questions of a whole row call, the early ones and then the late ones, and what a "yes" to them leaves: no code here.
use mathlib.Core.Path.{◌≡◌, refl, sym, ap, subst, ◌∙◌}
use mathlib.Core.Bool.{Bool, true, false, cond, not, ◌&&◌}
use mathlib.Core.List.{List, [], ◌∷◌, ◌++◌}
use Prim.Native.Nat.{ℕ, zero, suc, ◌≤◌}
use native.Mathlib.Omega.{arith}
use lib.Dec.{leb, eqb}
use lib.ListN.{length}
use borrow.Author.Tests.{leb-true, eqb-false, not-true}
use Rattle.machine.specs.declared.Queue.{Queue}
use Rattle.machine.specs.declared.RowCall as declared
use Rattle.machine.specs.Answers.{Asked}
use Rattle.machine.specs.Range.{every_of}
use Rattle.machine.specs.Words.{is_nil, is_cell, is_atom, is_legal, may_be_stored, ceiling}
use Rattle.machine.specs.Table.{capacity, first_free, table_length}
use Rattle.machine.specs.Queue.{Packet, waiting}
use Rattle.machine.specs.Packets.{root, cell, kind_of}
use Rattle.machine.specs.Facts.{Shape}
use Rattle.machine.specs.Calls.{RowCall, car, cdr, cons, set_left, set_right, up, down, row, store, packet_of, reads_nil, written}
use Rattle.machine.specs.Questions.{Question, ask, first_no, refused_by, in_range, number_in_range, words_legal, x_is_cell, words_storable, held_enough, slot_empty, ask_read, early_row, early}
use Rattle.machine.specs.Answers.{asked_number, call_of}
use Rattle.machine.proofs.Range.{and_first}
use Rattle.machine.proofs.Lists.{and-true}
use Rattle.machine.proofs.NilReads.{read_cell}
use Rattle.machine.proofs.Kept.{framed_written}
use Rattle.machine.proofs.Questions.{Numbered, AllYes, first_no_append, first_no_none, first_no_all, early_numbered, shape_is}
use Rattle.calls.specs.Early.{words_number, first_of, cell_number, stored_number}
use Rattle.calls.specs.Packets.{Operands}
use Rattle.calls.specs.Writes.{Writable}
use Rattle.calls.specs.Tests.{raised_within, free_by_end, code_late, code_late_row, code_questions}
use Rattle.calls.specs.Called.{EarlyYes}
use Rattle.calls.proofs.PacketLaws.{cell_inside}

-- the first "no" of two lists, by numbers
first_append : (ks ls : List Question) → Numbered ks → first_no (ks ++ ls) ≡ first_of (first_no ks) (first_no ls)
first_append ks ls h = go (first_no ks) refl
  where
    go : (n : ℕ) → first_no ks ≡ n → first_no (ks ++ ls) ≡ first_of (first_no ks) (first_no ls)
    go zero e = first_no_none ks ls h e ∙ sym (ap (λ (a : ℕ). first_of a (first_no ls)) e)
    go (suc n) e = first_no_append ks ls n e ∙ sym (ap (λ (a : ℕ). first_of a (first_no ls)) e)

pub questions_split : (t : List ℕ) (q : Queue) (r : RowCall) → reads_nil r ≡ false
    → first_no (code_questions t q r) ≡ first_of (first_no (early (store t q []) (row r))) (first_no (code_late t q (packet_of t r)))
unfolding code_questions code_late_row
questions_split t q r n = rw n (first_append (early (store t q []) (row r)) (code_late t q (packet_of t r)) (early_numbered (store t q []) (row r)))

first_both : (a b : ℕ) → first_of a b ≡ 0 → (a ≡ 0) × (b ≡ 0)
first_both zero b h = (refl, h)
first_both (suc a) b h = absurd (omega arith)

-- the early chains: one question behind 1, 3 and 4, and two
one_more : (a n b : Bool) (m : ℕ) → refused_by a 1 (refused_by n 3 (refused_by b 4 m)) ≡ first_of (refused_by a 1 (refused_by n 3 (refused_by b 4 0))) m
one_more true true true m = refl
one_more true true false m = refl
one_more true false b m = refl
one_more false n b m = refl

two_more : (a b c : Bool) (m : ℕ)
    → refused_by a 1 (refused_by b 4 (refused_by c 5 m)) ≡ first_of (first_of (refused_by a 1 (refused_by b 4 0)) (refused_by c 5 0)) m
two_more true true true m = refl
two_more true true false m = refl
two_more true false c m = refl
two_more false b c m = refl

number_some : (n : ℕ) → number_in_range n ≡ true → 1 ≤ n
unfolding number_in_range
number_some n h = leb-true 1 n (and_first (leb 1 n) (leb n ceiling) h)

-- a late "yes" of a cons: there is a first free cell
third_yes : (a b c : Bool) (n : ℕ) → refused_by a 6 (refused_by b 7 (refused_by c 8 n)) ≡ 0 → c ≡ true
third_yes true true true n h = refl
third_yes true true false n h = absurd (omega arith)
third_yes true false c n h = absurd (omega arith)
third_yes false b c n h = absurd (omega arith)

-- the number of each call's first "no" among the early questions, as the code finds it
abbrev pub early_number : List ℕ → Queue → RowCall → ℕ
early_number t q (car x) = cell_number t q 1 x 0
early_number t q (cdr x) = cell_number t q 1 x 0
early_number t q (cons x y) = first_of (words_number t q 1 x y) (stored_number x y)
early_number t q (set_left x y) = first_of (cell_number t q 1 x y) (stored_number 0 y)
early_number t q (set_right x y) = first_of (cell_number t q 1 x y) (stored_number 0 y)
early_number t q (up x n) = cell_number t q n x 0
early_number t q (down x n) = cell_number t q n x 0

module _ (t : List ℕ) (q : Queue) where
  read_number_lem : (x : ℕ) → is_nil x ≡ false → cell_number t q 1 x 0 ≡ first_no (ask 1 (in_range t q) ∷ ask 4 (words_legal t (x ∷ [])) ∷ ask_read t x)
  unfolding first_no words_legal x_is_cell every_of cell_number words_number number_in_range is_legal is_nil
  read_number_lem x n =
      sym (one_more (in_range t q) true (is_legal (capacity t) x && true) (refused_by (is_cell (capacity t) x) 5 0))
      ∙ ap (λ (b : Bool). first_no (ask 1 (in_range t q) ∷ ask 4 (words_legal t (x ∷ [])) ∷ cond b [] (ask 5 (x_is_cell t x) ∷ []))) (sym n)

  replace_number_lem : (x y : ℕ)
      → first_of (cell_number t q 1 x y) (stored_number 0 y)
      ≡ first_no (ask 1 (in_range t q) ∷ ask 4 (words_legal t (x ∷ y ∷ [])) ∷ ask 5 (x_is_cell t x) ∷ ask 14 (words_storable (y ∷ [])) ∷ [])
  unfolding first_no words_legal x_is_cell words_storable every_of cell_number words_number stored_number number_in_range may_be_stored is_atom
  replace_number_lem x y =
      rw (and-true (is_legal (capacity t) y), and-true (may_be_stored y))
      (sym (two_more (in_range t q) (is_legal (capacity t) x && is_legal (capacity t) y) (is_cell (capacity t) x) (stored_number 0 y)))

  pub early_number_lem : (r : RowCall) → reads_nil r ≡ false → early_number t q r ≡ first_no (early (store t q []) (row r))
  unfolding first_no early early_row words_legal x_is_cell words_storable every_of reads_nil cell_number words_number stored_number number_in_range may_be_stored is_legal is_nil is_atom
  early_number_lem (car x) n = read_number_lem x n
  early_number_lem (cdr x) n = read_number_lem x n
  early_number_lem (cons x y) n =
      rw (and-true (is_legal (capacity t) y), and-true (may_be_stored y))
      (sym (one_more (in_range t q) true (is_legal (capacity t) x && is_legal (capacity t) y) (stored_number x y)))
  early_number_lem (set_left x y) n = replace_number_lem x y
  early_number_lem (set_right x y) n = replace_number_lem x y
  early_number_lem (up x m) n = sym (one_more (in_range t q) (number_in_range m) (is_legal (capacity t) x && true) (refused_by (is_cell (capacity t) x) 5 0))
  early_number_lem (down x m) n = sym (one_more (in_range t q) (number_in_range m) (is_legal (capacity t) x && true) (refused_by (is_cell (capacity t) x) 5 0))

  -- of the call as the code's enum has it, once its variant is known
  pub early_of : (asked : Asked) (call r : declared.RowCall) → reads_nil (call_of call) ≡ false → call ≡ r → asked_number asked ≡ early_number t q (call_of r)
      → asked_number asked ≡ first_no (early (store t q []) (row (call_of call)))
  early_of asked call r n e h =
      h ∙ early_number_lem (call_of r) (subst (λ (s : declared.RowCall). reads_nil (call_of s) ≡ false) e n)
      ∙ ap (λ (s : declared.RowCall). first_no (early (store t q []) (row (call_of s)))) (sym e)

  all_early : (r : RowCall) → first_no (early (store t q []) (row r)) ≡ 0 → AllYes (early (store t q []) (row r))
  all_early r h = first_no_all (early (store t q []) (row r)) (early_numbered (store t q []) (row r)) h

  pub early_shape : (r : RowCall) → first_no (early (store t q []) (row r)) ≡ 0 → Shape t q
  unfolding early
  early_shape r h = shape_is t q (all_early r h).0

  pub early_operands : (r : RowCall) → reads_nil r ≡ false → first_no (early (store t q []) (row r)) ≡ 0 → Operands t (packet_of t r)
  unfolding early early_row reads_nil x_is_cell packet_of kind_of
  early_operands (car x) e h = read_cell t x e (all_early (car x) h).1.1
  early_operands (cdr x) e h = read_cell t x e (all_early (cdr x) h).1.1
  early_operands (cons x y) e h = tt
  early_operands (set_left x y) e h = (all_early (set_left x y) h).1.1.0
  early_operands (set_right x y) e h = (all_early (set_right x y) h).1.1.0
  early_operands (up x n) e h = (all_early (up x n) h).1.1.1.0
  early_operands (down x n) e h = let a = all_early (down x n) h in (a.1.1.1.0, number_some n a.1.0)

  pub passed_operands : (r : RowCall) (p : Packet) → EarlyYes t q r p → Operands t p
  passed_operands r p y = subst (Operands t) (sym y.packet) (early_operands r y.queues y.early)

  -- the table still has the words for its cells when the call has written
  pub passed_room : (r : RowCall) (p : Packet) → EarlyYes t q r p → table_length (capacity (written t r)) ≤ length (written t r)
  passed_room r p y =
      let f = framed_written (store t q []) r (all_early r y.early) in
      rw (f.same_capacity, f.same_length) (early_shape r y.early).table.room

  late_free : (x y : ℕ) → first_no (code_late t q (packet_of t (cons x y))) ≡ 0 → first_free t ≡ 0 → ⊥
  unfolding code_late first_no free_by_end kind_of packet_of
  late_free x y e =
      let p = packet_of t (cons x y) in
      eqb-false (first_free t) 0
      (not-true (eqb (first_free t) 0)
      (third_yes (held_enough t (waiting q) p) (slot_empty q) (not (eqb (first_free t) 0))
      (first_no (ask 9 (raised_within root t (waiting q) p) ∷ ask 10 (raised_within cell t (waiting q) p) ∷ [])) e))

  both : (r : RowCall) → reads_nil r ≡ false → first_no (code_questions t q r) ≡ 0
      → (first_no (early (store t q []) (row r)) ≡ 0) × (first_no (code_late t q (packet_of t r)) ≡ 0)
  both r n h = first_both (first_no (early (store t q []) (row r))) (first_no (code_late t q (packet_of t r))) (sym (questions_split t q r n) ∙ h)

  -- the cell that an accepted call writes is one of the table's
  pub writable : (r : RowCall) → first_no (code_questions t q r) ≡ 0 → Writable t r
  unfolding reads_nil packet_of kind_of
  writable (car x) h = tt
  writable (cdr x) h = tt
  writable (cons x y) h =
      let b = both (cons x y) refl h in
      let shape = (early_shape (cons x y) b.0).table in
      let d = late_free x y b.1 in
      record { some = omega arith; room = omega arith }
  writable (set_left x y) h =
      let a = (both (set_left x y) refl h).0 in cell_inside t x (early_shape (set_left x y) a).table (early_operands (set_left x y) refl a)
  writable (set_right x y) h =
      let a = (both (set_right x y) refl h).0 in cell_inside t x (early_shape (set_right x y) a).table (early_operands (set_right x y) refl a)
  writable (up x n) h = tt
  writable (down x n) h = tt
