-- A whole input: the outputs of the parts joined are the listing of the parts joined, however the input is parted. The proof is `whole` in proofs/Theorem.
use Rattle.std.specs.Prelude.{◌≡◌, List, ◌++◌, ℕ, ◌≤◌, length, take}
use Rattle.machine.specs.Table.{table_length, scratch_words}
use Rattle.serving.specs.Chain.{Linked, last_of, joined}
use Rattle.rule_lines.specs.Answers.{store_cells, listing}
use Rattle.rule_lines.specs.Kept.{kept_bytes}
use Rattle.rule_lines.specs.Progress.{State, Starts, Feeds, Finishes}

-- where it begins: `start` was handed a table long enough for 64 cells, and scratch for its steps and bytes for a line are lent
pub record Begins (s : State) : Type 0 where
  pub handed : List ℕ
  pub long : table_length store_cells ≤ length handed
  pub starts : Starts handed s.table s.rules
  pub lent : scratch_words store_cells ≤ length s.scratch
  pub kept : length s.line ≡ kept_bytes

-- one call of `feed`: the input and the buffer lent, of which it took and wrote so much, and the state it left
pub record Part : Type 0 where
  pub input : List ℕ
  pub taken : ℕ
  pub buffer : List ℕ
  pub written : ℕ
  pub after : State

abbrev pub left : Part → State
left p = p.after

-- each call is handed the state that the last one left, and keeps the promise of `feed`
abbrev pub FedPart : State → Part → Type 0
FedPart s p = Feeds s p.input p.after p.taken p.written p.buffer

abbrev pub Fed : State → List Part → Type 0
Fed s ps = Linked FedPart left s ps

abbrev pub last_state : State → List Part → State
last_state s ps = last_of left s ps

-- the bytes taken, and the bytes written
abbrev pub taken : Part → List ℕ
taken p = take p.taken p.input

abbrev pub written : Part → List ℕ
written p = take p.written p.buffer

abbrev pub inputs : List Part → List ℕ
inputs ps = joined taken ps

abbrev pub outputs : List Part → List ℕ
outputs ps = joined written ps

-- any input, in parts of any size; and a call of `finish` after which there is no more to write (FinishesWithRoom.finishes)
abbrev pub Whole : Type 0
Whole = (s : State) (parts : List Part) (written : ℕ) (buffer : List ℕ) → Begins s → Fed s parts → Finishes (last_state s parts) written buffer
    → outputs parts ++ take written buffer ≡ listing (inputs parts)
