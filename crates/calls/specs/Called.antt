-- What a row call and a fresh give, for any table, queue and numbers: refused with nothing changed, or done as the machine does it, in name counts of
-- 16 bits.
use Rattle.std.specs.Prelude.{◌≡◌, true, false, List, [], ◌∷◌, ℕ}
use Rattle.machine.specs.declared.Queue.{Queue}
use Rattle.machine.specs.Answers.{RowAnswer}
use Rattle.machine.specs.Answers.{FreshAnswer}
use Rattle.machine.specs.Queue.{Packet, appended_all}
use Rattle.machine.specs.Packets.{plus, names, name_changes}
use Rattle.machine.specs.Calls.{RowCall, row, fresh, value, store, packet_of, packets_of, reads_nil, written, value_of}
use Rattle.machine.specs.Step.{Outcome, outcome}
use Rattle.machine.specs.Questions.{first_no, early}
use Rattle.machine.specs.Machine.{refused_or, machine}
use Rattle.machine.specs.Answers.{row_reply, fresh_reply}
use Rattle.counts.specs.Changes.{ChangesFit, named_fitting}
use Rattle.calls.specs.Tests.{code_questions}

-- the early questions say "yes" of the call r, which is no read of nil, and p is its packet
pub record EarlyYes (t : List ℕ) (q : Queue) (r : RowCall) (p : Packet) : Type 0 where
  pub queues : reads_nil r ≡ false
  pub early : first_no (early (store t q []) (row r)) ≡ 0
  pub packet : p ≡ packet_of t r

-- packets queued in their order, their cells named in counters of 16 bits
abbrev pub fitted_all : List ℕ → List Packet → List ℕ
fitted_all t [] = t
fitted_all t (p ∷ ps) = fitted_all (named_fitting t p) ps

-- what an accepted row call gives: the machine's answer, but for names that do not fit
unfoldable pub code_accepted : List ℕ → Queue → RowCall → Outcome
code_accepted t q r =
    let ps = packets_of t r in
    outcome (value (value_of t r)) (store (fitted_all (written t r) ps) (appended_all q ps) [])

-- and all of them fit, if the call queues a packet
abbrev pub NamesFit : List ℕ → RowCall → Type 0
NamesFit t r = reads_nil r ≡ false → ChangesFit (written t r) (name_changes plus (names (packet_of t r)))

-- the answer to a row call under the code's questions
unfoldable pub outcome_of : List ℕ → Queue → RowCall → Outcome
outcome_of t q r = refused_or (first_no (code_questions t q r)) (store t q []) (code_accepted t q r)

-- the call but for what it writes
pub record RowAsked (t : List ℕ) (q : Queue) (r : RowCall) (a : RowAnswer) (q' : Queue) : Type 0 where
  pub reply : row_reply a ≡ (outcome_of t q r).reply
  pub queue : q' ≡ (outcome_of t q r).after.queue

-- which is so of every call of the packet p that the early questions have passed
abbrev pub Queued : List ℕ → Queue → Packet → RowAnswer → Queue → Type 0
Queued t q p a q' = (r : RowCall) → EarlyYes t q r p → RowAsked t q r a q'

-- and of every read of nil
abbrev pub NilRead : List ℕ → Queue → RowAnswer → Queue → Type 0
NilRead t q a q' = (r : RowCall) → reads_nil r ≡ true → RowAsked t q r a q'

pub record RowCalled (t : List ℕ) (q : Queue) (r : RowCall) (a : RowAnswer) (t' : List ℕ) (q' : Queue) : Type 0 where
  pub reply : row_reply a ≡ (outcome_of t q r).reply
  pub table : t' ≡ (outcome_of t q r).after.table
  pub queue : q' ≡ (outcome_of t q r).after.queue

-- fresh asks the paper's questions, and gives the machine's answer on every store
pub record FreshCalled (t : List ℕ) (q : Queue) (c : ℕ) (a : FreshAnswer) (t' : List ℕ) (q' : Queue) : Type 0 where
  pub reply : fresh_reply a ≡ (machine (store t q []) (fresh c)).reply
  pub table : t' ≡ (machine (store t q []) (fresh c)).after.table
  pub queue : q' ≡ (machine (store t q []) (fresh c)).after.queue
