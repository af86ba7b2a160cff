-- Variants of the machine, made of parts in which they may differ from it.
use Rattle.std.specs.Prelude.{List, [], ◌∷◌, ℕ, zero, suc, length}
use Rattle.machine.specs.Table.{capacity, scratch_words}
use Rattle.machine.specs.Queue.{Packet, taken, waiting}
use Rattle.machine.specs.Calls.{Call, fresh, row, step, audit, read, write, idle, applied, refused, Store, store}
use Rattle.machine.specs.Step.{apply_packet, unreached, swept, cleared, Outcome, outcome}
use Rattle.machine.specs.Questions.{Question, first_no, questions}
use Rattle.machine.specs.Machine.{accepted}

-- the parts in which a variant may differ from the machine
pub record Parts : Type 0 where
  -- the questions before a call
  pub asks : Store → Call → List Question
  -- the table when a packet is applied and names its cells no longer
  pub applies : List ℕ → Packet → List ℕ
  -- the cells to free, and the table when they are freed
  pub dead : List ℕ → List ℕ
  pub frees : List ℕ → List ℕ → List ℕ

-- the machine's own, but for how a packet is applied; and with that, too
abbrev pub applying : (List ℕ → Packet → List ℕ) → Parts
applying f = record { asks = questions; applies = f; dead = unreached; frees = swept }

abbrev pub right_parts : Parts
right_parts = applying apply_packet

unfoldable pub step_of : Parts → Store → List Packet → Outcome
step_of m s [] = outcome idle s
step_of m s (p ∷ ps) =
    let t = m.applies s.table p in
    let d = m.dead t in
    outcome (applied p.kind (length d)) (store (m.frees t d) (taken s.queue) (cleared (scratch_words (capacity t)) s.scratch))

unfoldable pub accepted_of : Parts → Store → Call → Outcome
accepted_of m s (fresh c) = accepted s (fresh c)
accepted_of m s (row r) = accepted s (row r)
accepted_of m s step = step_of m s (waiting s.queue)
accepted_of m s audit = accepted s audit
accepted_of m s (read text) = accepted s (read text)
accepted_of m s (write w room) = accepted s (write w room)

unfoldable pub answered_of : Parts → ℕ → Store → Call → Outcome
answered_of m zero s call = accepted_of m s call
answered_of m (suc n) s call = outcome (refused (suc n)) s

-- the machine made of the parts
unfoldable pub machine_of : Parts → Store → Call → Outcome
machine_of m s call = answered_of m (first_no (m.asks s call)) s call
