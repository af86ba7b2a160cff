-- What the code knows of an operand: its counters with their waiting changes, as sums to compare.
use Rattle.std.specs.Prelude.{◌≡◌, Bool, true, false, not, List, ℕ, pred, ◌+◌, eqb}
use Rattle.machine.specs.declared.Queue.{Queue}
use Rattle.machine.specs.Words.{is_cell}
use Rattle.machine.specs.Table.{capacity, word_at}
use Rattle.machine.specs.Queue.{Packet}
use Rattle.machine.specs.Packets.{Counter, root, cell, plus, minus, waiting_change}
use Rattle.machine.specs.Step.{counter_word}
use Rattle.machine.specs.Questions.{refused_by, slot_empty}
use Rattle.queue.specs.declared.Sums.{Sums}
use Rattle.queue.specs.Sums.{at_least, at_most_ceiling}

-- of a cell, the counter k and its waiting changes; of any other word the constant n
pub record CounterTally (k : Counter) (n : ℕ) (t : List ℕ) (ps : List Packet) (w r l : ℕ) : Type 0 where
  pub raised : is_cell (capacity t) w ≡ true → r ≡ word_at t (pred w) (counter_word k) + waiting_change k plus w ps
  pub lowered : is_cell (capacity t) w ≡ true → l ≡ waiting_change k minus w ps
  pub other : is_cell (capacity t) w ≡ false → (r ≡ n) × (l ≡ 0)

-- a word that is no cell passes every test: held twice, with no pointers
pub record TallyOf (t : List ℕ) (ps : List Packet) (w : ℕ) (s : Sums) : Type 0 where
  pub held : CounterTally root 2 t ps w s.held.raised s.held.lowered
  pub pointers : CounterTally cell 0 t ps w s.pointers.raised s.pointers.lowered

-- question 6: held n times or more
abbrev pub held_times : Sums → ℕ → Bool
held_times s n = at_least s.held.raised s.held.lowered n

-- question 9: after so many further raises and lowerings the held count is at most 4,095
abbrev pub held_after : Sums → ℕ → ℕ → Bool
held_after s more less = at_most_ceiling (s.held.raised + more) (s.held.lowered + less)

-- question 10: and so are the pointers
abbrev pub pointers_after : Sums → ℕ → ℕ → Bool
pointers_after s more less = at_most_ceiling (s.pointers.raised + more) (s.pointers.lowered + less)

-- the first "no" among questions 6 to 10, by sums: of a read, where the word read is the cell itself if same is 1
abbrev pub read_number : Queue → Sums → Sums → ℕ → ℕ
read_number q x w same =
    refused_by (held_times x 1) 6
    (refused_by (slot_empty q) 7
    (refused_by (held_after w 1 same) 9 0))

-- of a cons, where both operands are one word if same is 1
abbrev pub cons_number : Queue → Sums → Sums → ℕ → ℕ → ℕ
cons_number q x y same first =
    refused_by (held_times x (1 + same)) 6
    (refused_by (held_times y (1 + same)) 6
    (refused_by (slot_empty q) 7
    (refused_by (not (eqb first 0)) 8
    (refused_by (pointers_after x (1 + same) 0) 10
    (refused_by (pointers_after y (1 + same) 0) 10 0)))))

-- of a replace in x by y, where the two are one word if same is 1, and y is the word detached if kept is 1
abbrev pub replace_number : Queue → Sums → Sums → ℕ → ℕ → ℕ
replace_number q y x same kept =
    refused_by (held_times y (1 + same)) 6
    (refused_by (held_times x (1 + same)) 6
    (refused_by (slot_empty q) 7
    (refused_by (pointers_after y 1 kept) 10 0)))

-- of up by n
abbrev pub up_number : Queue → Sums → ℕ → ℕ
up_number q x n =
    refused_by (held_times x 1) 6
    (refused_by (slot_empty q) 7
    (refused_by (held_after x n 0) 9 0))

-- of down by n
abbrev pub down_number : Queue → Sums → ℕ → ℕ
down_number q x n = refused_by (held_times x n) 6 (refused_by (slot_empty q) 7 0)
