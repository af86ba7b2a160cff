-- What reading a text gives, for any table, queue and text: refused with nothing changed, or its tree built.
use Rattle.std.specs.Prelude.{◌≡◌, Bool, true, ◌&&◌, List, [], ◌∷◌, ◌++◌, ℕ, zero, suc, ◌+◌, leb}
use Rattle.notation.specs.Parse.{Parsed, parse, meaning}
use Rattle.machine.specs.declared.Queue.{Queue}
use Rattle.machine.specs.Answers.{RowAnswer}
use Rattle.machine.specs.Words.{is_cell, first_atom, may_be_stored}
use Rattle.machine.specs.Table.{left, capacity, first_free}
use Rattle.machine.specs.Queue.{slots}
use Rattle.machine.specs.Calls.{read, value, Store, store, field}
use Rattle.machine.specs.Step.{Outcome, outcome}
use Rattle.machine.specs.Texts.{build_by}
use Rattle.machine.specs.Questions.{Question, ask, refused_by, first_no, early, text_pairs, slots_empty}
use Rattle.machine.specs.Machine.{refused_or}
use Rattle.machine.specs.Answers.{row_reply}
use Rattle.scanner.specs.declared.Fault.{Fault}
use Rattle.reader.specs.Builds.{code_cons}

-- the question that a text without a tree fails: 11 outside the notation, 12 too deep
abbrev pub fault_number : Fault → ℕ
fault_number Fault.Outside = 11
fault_number Fault.TooDeep = 12

-- 7. there is an empty slot for each of n pairs, where so many packets wait
unfoldable pub slots_for : ℕ → ℕ → Bool
slots_for count n = leb (count + n) slots

-- 8. there is a free cell for each of n pairs: as many follow one another in the free chain from the word w on. On a sound store the chain has every free cell.
unfoldable pub chain_has : ℕ → List ℕ → ℕ → Bool
chain_has zero t w = true
chain_has (suc n) t w = is_cell (capacity t) w && chain_has n t (field t w left)

-- the first "no" of 7 and 8
abbrev pub pairs_number : List ℕ → ℕ → ℕ → ℕ
pairs_number t count n = refused_by (slots_for count n) 7 (refused_by (chain_has n t (first_free t)) 8 0)

-- and of 14 before them, where v is the largest value of an atom
abbrev pub tree_number : List ℕ → ℕ → ℕ → ℕ → ℕ
tree_number t count n v = refused_by (may_be_stored (first_atom + v)) 14 (pairs_number t count n)

-- the questions of reading a text as the code asks them: the paper's, but for 8, for which the code goes along the free chain
unfoldable pub read_questions : List ℕ → Queue → List ℕ → List Question
read_questions t q bytes =
    early (store t q []) (read bytes)
    ++ (ask 7 (slots_empty q (text_pairs bytes)) ∷ ask 8 (chain_has (text_pairs bytes) t (first_free t)) ∷ [])

-- what an accepted reading gives: the word of the text's tree
abbrev pub read_done : Store → Parsed → Outcome
read_done s p = let b = build_by code_cons s (meaning p) in outcome (value b.word) b.after

unfoldable pub read_outcome : List ℕ → Queue → List ℕ → Outcome
read_outcome t q bytes = refused_or (first_no (read_questions t q bytes)) (store t q []) (read_done (store t q []) (parse bytes))

pub record ReadCalled (t : List ℕ) (q : Queue) (text : List ℕ) (a : RowAnswer) (t' : List ℕ) (q' : Queue) : Type 0 where
  pub reply : row_reply a ≡ (read_outcome t q text).reply
  pub table : t' ≡ (read_outcome t q text).after.table
  pub queue : q' ≡ (read_outcome t q text).after.queue
