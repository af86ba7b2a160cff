-- The code's tests for questions 8, 9 and 10 beside the paper's: the row calls make no pass over the table. On a sound store they answer as the
-- paper's do: the first free end is 0 exactly where no cell is free; counts with their waiting changes are the holds and pointers, and only the cells
-- that a packet raises can pass the ceiling. Question 6 is the paper's own, asked only of the operands.
use Rattle.std.specs.Prelude.{◌≡◌, Bool, cond, not, ◌&&◌, ◌||◌, List, [], ◌∷◌, ◌++◌, ℕ, suc, pred, ◌+◌, leb, eqb}
use Rattle.machine.specs.Answers.{Asked}
use Rattle.machine.specs.declared.Queue.{Queue}
use Rattle.machine.specs.Range.{every_of}
use Rattle.machine.specs.Words.{is_cell, ceiling}
use Rattle.machine.specs.Table.{capacity, first_free, word_at}
use Rattle.machine.specs.Queue.{Packet, waiting}
use Rattle.machine.specs.Packets.{Kind, reads, makes, replaces, raises, lowers, unknown, kind_of, Counter, root, cell, plus, minus, Change, changes, same_counter, same_direction, moved_by, waiting_change}
use Rattle.machine.specs.Calls.{RowCall, row, store, packet_of, reads_nil}
use Rattle.machine.specs.Step.{counter_word}
use Rattle.machine.specs.Questions.{Question, ask, first_no, early, held_enough, slot_empty}
use Rattle.machine.specs.Answers.{asked_number}

-- the words whose counter k a list of changes raises
unfoldable pub raised_words : Counter → List Change → List ℕ
raised_words k [] = []
raised_words k (h ∷ hs) = cond (same_counter k h.counter && same_direction plus h.direction) (h.word ∷ []) [] ++ raised_words k hs

-- after the packet p the counter k of the cell at index i with its waiting changes is at most 4,095
unfoldable pub count_within : Counter → List ℕ → List Packet → Packet → ℕ → Bool
count_within k t ps p i =
    leb (word_at t i (counter_word k) + waiting_change k plus (suc i) ps + moved_by k plus (suc i) (changes p))
    (ceiling + waiting_change k minus (suc i) ps + moved_by k minus (suc i) (changes p))

-- for questions 9 (root) and 10 (cell): so it is for each cell that the packet raises
unfoldable pub raised_within : Counter → List ℕ → List Packet → Packet → Bool
raised_within k t ps p = every_of (raised_words k (changes p)) (λ w. not (is_cell (capacity t) w) || count_within k t ps p (pred w))

-- for question 8, asked of a cons: there is a first free cell
unfoldable pub free_by_end : Kind → List ℕ → List Question
free_by_end reads t = []
free_by_end makes t = ask 8 (not (eqb (first_free t) 0)) ∷ []
free_by_end (replaces k) t = []
free_by_end raises t = []
free_by_end lowers t = []
free_by_end unknown t = []

-- questions 6 to 10 as the code asks them of the call behind the packet p
unfoldable pub code_late : List ℕ → Queue → Packet → List Question
code_late t q p =
    ask 6 (held_enough t (waiting q) p)
    ∷ ask 7 (slot_empty q)
    ∷ free_by_end (kind_of p.kind) t
    ++ (ask 9 (raised_within root t (waiting q) p) ∷ ask 10 (raised_within cell t (waiting q) p) ∷ [])

-- the answer r to them
abbrev pub LateAnswer : List ℕ → Queue → Packet → Asked → Type 0
LateAnswer t q p r = asked_number r ≡ first_no (code_late t q p)

-- of a read of nil none of them
unfoldable pub code_late_row : List ℕ → Queue → RowCall → List Question
code_late_row t q r = cond (reads_nil r) [] (code_late t q (packet_of t r))

-- all questions of a row call as the code asks them
unfoldable pub code_questions : List ℕ → Queue → RowCall → List Question
code_questions t q r = early (store t q []) (row r) ++ code_late_row t q r
