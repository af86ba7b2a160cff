-- The questions before a text is read, by what the code finds, and what the call gives.
use Rattle.std.specs.Prelude.{Ok, Err}
use mathlib.Core.Path.{◌≡◌, refl, sym, ap, ◌∙◌}
use mathlib.Core.Bool.{Bool, true, false, cond, not, ◌&&◌}
use mathlib.Core.List.{List, []}
use Prim.Native.Nat.{ℕ, zero, suc, ◌+◌, ◌-◌, ◌≤◌, ◌<◌}
use native.Mathlib.Omega.{arith}
use native.Mathlib.Numerals.{sub-one}
use lib.Dec.{leb}
use lib.ListN.{length}
use borrow.Author.Tests.{leb-true, le-leb, lt-leb, not-true}
use Rattle.notation.specs.Trees.{pairs, largest}
use Rattle.notation.specs.Parse.{Parsed, tree, none, parse, is_tree, meaning}
use Rattle.notation.specs.Brackets.{too_deep}
use Rattle.notation.proofs.Theorems.{values_read}
use Rattle.std.specs.Prelude.{Result, Ok, Err}
use Rattle.scanner.specs.declared.Measure.{Measure}
use Rattle.scanner.specs.declared.Fault.{Fault}
use Rattle.notation.specs.Grammar.{most_text}
use Rattle.scanner.specs.Scans.{judged, scan_of}
use Rattle.machine.specs.declared.Queue.{Queue}
use Rattle.machine.specs.Answers.{Asked}
use Rattle.machine.specs.declared.Refusal.{Refusal}
use Rattle.machine.specs.Answers.{RowAnswer}
use Rattle.machine.specs.Words.{is_cell, first_atom, may_be_stored}
use Rattle.machine.specs.Table.{left, capacity, first_free, word_at}
use Rattle.machine.specs.Queue.{slots}
use Rattle.machine.specs.Calls.{value, refused, store, field}
use Rattle.machine.specs.Step.{Outcome, outcome}
use Rattle.machine.specs.Texts.{atoms_storable}
use Rattle.machine.specs.Questions.{first_no, refused_by, in_range, in_notation, not_too_deep, text_storable, text_pairs, slots_empty, early}
use Rattle.machine.specs.Answers.{refusal_number, asked_number}
use Rattle.machine.proofs.Answers.{refusal_some, asked_no, asked_yes}
use Rattle.reader.specs.Builds.{Readable, Builds}
use Rattle.reader.specs.Called.{slots_for, chain_has, pairs_number, tree_number, read_questions, read_outcome, ReadCalled, fault_number}
use Rattle.reader.proofs.StorableLaws.{atoms_stored}

-- following the chain
pub chain_ends : (n : ℕ) (t : List ℕ) (w : ℕ) → 0 < n → is_cell (capacity t) w ≡ false → false ≡ chain_has n t w
unfolding chain_has
chain_ends zero t w h e = absurd (omega arith)
chain_ends (suc n) t w h e = rw e

pub chain_goes : (n : ℕ) (t : List ℕ) (w : ℕ) → 0 < n → is_cell (capacity t) w ≡ true → chain_has (n - 1) t (word_at t (w - 1) left) ≡ chain_has n t w
unfolding chain_has field
chain_goes zero t w h e = absurd (omega arith)
chain_goes (suc n) t w h e = let k : suc n - 1 ≡ n = omega arith in rw (e, k, sub-one)

pub chain_none : (t : List ℕ) (w : ℕ) → true ≡ chain_has 0 t w
unfolding chain_has
chain_none t w = refl

-- question 7, by the slots that are left
pub slots_few : (count n : ℕ) → count ≤ slots → slots - count < n → slots_for count n ≡ false
unfolding slots_for
slots_few count n h k = lt-leb (count + n) slots (omega arith)

pub slots_enough : (count n : ℕ) → count ≤ slots → n ≤ slots - count → slots_for count n ≡ true
unfolding slots_for
slots_enough count n h k = le-leb (count + n) slots (omega arith)

-- question 14 before 7 and 8, by the largest value
module _ (t : List ℕ) (count n v : ℕ) where
  pub stored_yes : (m : ℕ) → may_be_stored (first_atom + v) ≡ true → m ≡ pairs_number t count n → m ≡ tree_number t count n v
  stored_yes m e h = rw e h

  pub stored_no : may_be_stored (first_atom + v) ≡ false → 14 ≡ tree_number t count n v
  stored_no e = rw e

-- the first "no" from question 11 on, by what the scan finds
scanned_number : List ℕ → ℕ → Result Measure Fault → ℕ
scanned_number t count (Err f) = fault_number f
scanned_number t count (Ok m) = tree_number t count m.pairs m.largest

-- a question that is not refused
yes_rest : (b : Bool) (n rest : ℕ) → 0 ≡ refused_by b (suc n) rest → (b ≡ true) × (0 ≡ rest)
yes_rest true n rest e = (refl, e)
yes_rest false n rest e = absurd (omega arith)

and_right : (a b : Bool) → (a && b) ≡ true → b ≡ true
and_right true b e = e
and_right false b e = let z : ◌≡◌ {A = ℕ} 0 1 = cc in absurd (omega arith)

module _ (t : List ℕ) (q : Queue) (text : List ℕ) where
  scanned : scanned_number t q.count (scan_of text) ≡ refused_by (in_notation text) 11 (refused_by (not_too_deep text) 12 (refused_by (text_storable text) 14
      (refused_by (slots_empty q (text_pairs text)) 7 (refused_by (chain_has (text_pairs text) t (first_free t)) 8 0))))
  unfolding scanned_number in_notation not_too_deep text_storable text_pairs slots_empty slots_for scan_of
  scanned = go (parse text) refl (leb (length text) most_text)
    where
      by_tests : (short deep storable : Bool) (n v : ℕ) → storable ≡ may_be_stored (first_atom + v)
          → scanned_number t q.count (cond short (cond deep (Err Fault.TooDeep) (Ok (record { pairs = n; largest = v }))) (Err Fault.Outside))
          ≡ refused_by (short && true) 11 (refused_by (not deep) 12 (refused_by storable 14 (pairs_number t q.count n)))
      by_tests false deep storable n v e = refl
      by_tests true true storable n v e = refl
      by_tests true false storable n v e = rw e

      go : (p : Parsed) → parse text ≡ p → (short : Bool) → scanned_number t q.count (cond short (judged text p) (Err Fault.Outside))
          ≡ refused_by (short && is_tree p) 11 (refused_by (not (too_deep 0 text)) 12 (refused_by (atoms_storable (meaning p)) 14 (pairs_number t q.count (pairs (meaning p)))))
      go (tree u) e short = by_tests short (too_deep 0 text) (atoms_storable u) (pairs u) (largest u) (atoms_stored u (values_read text u e))
      go none e true = refl
      go none e false = refl

  -- question 1 says "no"
  pub asked_first : in_range t q ≡ false → 1 ≡ first_no (read_questions t q text)
  unfolding first_no read_questions early
  asked_first e = rw e

  -- it says "yes", and the text is scanned
  module _ (yes : in_range t q ≡ true) {s : Result Measure Fault} (scan : s ≡ scan_of text) where
    asked_scan : scanned_number t q.count s ≡ first_no (read_questions t q text)
    unfolding first_no read_questions early
    asked_scan = rw (scan, yes) scanned

    pub asked_fault : (f : Fault) → s ≡ Err f → fault_number f ≡ first_no (read_questions t q text)
    unfolding scanned_number
    asked_fault f e = rw e at asked_scan

    pub asked_tree : (m : Measure) → s ≡ Ok m → tree_number t q.count m.pairs m.largest ≡ first_no (read_questions t q text)
    unfolding scanned_number
    asked_tree m e = rw e at asked_scan

  -- a question says "no"
  pub read_refused : (a : Asked) (f : Refusal) → asked_number a ≡ first_no (read_questions t q text) → a ≡ Err f → ReadCalled t q text (Err f) t q
  unfolding read_outcome
  read_refused a f h n = go (first_no (read_questions t q text)) refl
    where
      e : refusal_number f ≡ first_no (read_questions t q text)
      e = asked_no h n

      go : (m : ℕ) → first_no (read_questions t q text) ≡ m → ReadCalled t q text (Err f) t q
      go zero d = absurd (omega (arith, refusal_some f, e ∙ d))
      go (suc m) d =
          let o : read_outcome t q text ≡ outcome (refused (suc m)) (store t q []) = rw d in
          record {
            reply = ap refused (e ∙ d) ∙ sym (ap (λ (x : Outcome). x.reply) o);
            table = sym (ap (λ (x : Outcome). x.after.table) o);
            queue = sym (ap (λ (x : Outcome). x.after.queue) o);
          }

  -- all questions say "yes"
  module _ (a : Asked) (h : asked_number a ≡ first_no (read_questions t q text)) (said : a ≡ Ok tt) where
    yes : 0 ≡ first_no (read_questions t q text)
    yes = asked_yes h said

    pub readable : Readable text
    unfolding first_no read_questions early in_notation not_too_deep text_storable text_pairs slots_empty
    readable =
        let after1 = yes_rest (in_range t q) 0 _ yes in
        let after11 = yes_rest (leb (length text) most_text && is_tree (parse text)) 10 _ after1.1 in
        let after12 = yes_rest (not (too_deep 0 text)) 11 _ after11.1 in
        let after14 = yes_rest (atoms_storable (meaning (parse text))) 13 _ after12.1 in
        let after7 = yes_rest (leb (q.count + pairs (meaning (parse text))) slots) 6 _ after14.1 in
        go (parse text) refl (and_right (leb (length text) most_text) (is_tree (parse text)) after11.0) (not-true (too_deep 0 text) after12.0) (leb-true (q.count + pairs (meaning (parse text))) slots after7.0)
      where
        go : (p : Parsed) → parse text ≡ p → is_tree p ≡ true → too_deep 0 text ≡ false → q.count + pairs (meaning p) ≤ slots → Readable text
        go (tree u) e b d n = record { means = u; parsed = e; shallow = d; few = omega arith }
        go none e b d n = let z : ◌≡◌ {A = ℕ} 0 1 = cc in absurd (omega arith)

    pub read_done_lem : (w : ℕ) (t' : List ℕ) (q' : Queue) → Builds t q text w t' q' → ReadCalled t q text (Ok w) t' q'
    unfolding read_outcome
    read_done_lem w t' q' built =
        let r = readable in
        let o : read_outcome t q text ≡ outcome (value w) (store t' q' []) = rw (sym yes, r.parsed, built r.means r.parsed) in
        record {
          reply = sym (ap (λ (x : Outcome). x.reply) o);
          table = sym (ap (λ (x : Outcome). x.after.table) o);
          queue = sym (ap (λ (x : Outcome). x.after.queue) o);
        }
