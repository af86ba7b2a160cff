-- The whole session: the outputs of the parts joined are the listing of the parts joined, however the input is parted. The proof is `whole` in proofs/Theorem.
use Rattle.std.specs.Prelude.{◌≡◌, List, ◌++◌, ℕ, ◌+◌, ◌^◌, ◌<◌, length, take, replicate}
use Rattle.machine.specs.Words.{most_cells}
use Rattle.machine.specs.Table.{table_length, scratch_words}
use Rattle.serving.specs.Chain.{Linked, last_of, joined}
use Rattle.session_lines.specs.declared.Session.{Session}
use Rattle.session_lines.specs.Listing.{listing}
use Rattle.session_lines.specs.Progress.{started, Feeds, Finishes}

-- a session beside the table and scratch lent to it
pub record State : Type 0 where
  pub session : Session
  pub table : List ℕ
  pub scratch : List ℕ

-- one call of `feed`: the input and the buffer lent, of which it took and wrote so much, and the state it left
pub record Part : Type 0 where
  pub input : List ℕ
  pub taken : ℕ
  pub buffer : List ℕ
  pub written : ℕ
  pub after : State

abbrev pub left : Part → State
left p = p.after

-- each call is handed the state that the last one left, and keeps the promise of `feed`
abbrev pub FedPart : State → Part → Type 0
FedPart s p =
    Feeds s.session s.table s.scratch p.input p.after.session p.taken p.written p.after.table p.after.scratch p.buffer

abbrev pub Fed : State → List Part → Type 0
Fed s ps = Linked FedPart left s ps

abbrev pub last_state : State → List Part → State
last_state s ps = last_of left s ps

-- the bytes taken, and the bytes written
abbrev pub taken : Part → List ℕ
taken p = take p.taken p.input

abbrev pub written : Part → List ℕ
written p = take p.written p.buffer

abbrev pub inputs : List Part → List ℕ
inputs ps = joined taken ps

abbrev pub outputs : List Part → List ℕ
outputs ps = joined written ps

-- a table for 4,096 cells, zero before a fresh
abbrev pub begin : State
begin = record { session = started; table = replicate (table_length most_cells) 0; scratch = replicate (scratch_words most_cells) 0 }

-- any input of fewer than 2^64 - 1 bytes, in parts of any size, and a call of `finish` after which there is no more to write
abbrev pub Whole : Type 0
Whole = (parts : List Part) (written : ℕ) (buffer : List ℕ)
    → Fed begin parts
    → Finishes (last_state begin parts).session (last_state begin parts).table (last_state begin parts).scratch written buffer
    → length (inputs parts) + 1 < 2 ^ 64
    → outputs parts ++ take written buffer ≡ listing (inputs parts)
