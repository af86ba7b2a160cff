-- The step's contract, for any table, queue and scratch.
use Rattle.std.specs.Prelude.{◌≡◌, ◌⊎◌, List, ℕ, suc, ◌<◌, length}
use Rattle.machine.specs.declared.Queue.{Queue}
use Rattle.machine.specs.Table.{capacity, scratch_words}
use Rattle.machine.specs.Queue.{Packet, slot, taken}
use Rattle.machine.specs.Packets.{minus, changes}
use Rattle.machine.specs.Calls.{step, refused, idle, applied, store}
use Rattle.machine.specs.Step.{named, apply_packet, unreached, swept, cleared, outcome, stepped}
use Rattle.machine.specs.Questions.{first_no, early}
use Rattle.machine.specs.ShortWay.{watched}
use Rattle.machine.specs.Suspects.{local_dead}
use Rattle.machine.specs.Answers.{step_reply}
use Rattle.machine.specs.Promise.{Untouched}
use Rattle.collector.specs.declared.Stepped.{Stepped}
use Rattle.counts.specs.Changes.{apply_fitting, ChangesFit}

-- the oldest packet
abbrev pub oldest : Queue → Packet
oldest q = slot q q.place

-- What a sound store gives a step: each change of the oldest packet fits its counter, and with the packet applied the dead cells hang on its watched word,
-- as the local way tells.
pub record Premises (t : List ℕ) (q : Queue) : Type 0 where
  pub fit : ChangesFit t (changes (oldest q))
  pub local : local_dead (apply_packet t (oldest q)) (watched (oldest q)) ≡ unreached (apply_packet t (oldest q))

-- the packet applied in counters of 16 bits: its changes that fit are made, and it names its cells no longer
abbrev pub apply_packet_fitting : List ℕ → Packet → List ℕ
apply_packet_fitting t p = named minus (apply_fitting t (changes p)) p

-- the cells at the indices dead freed, n of them
pub record Frees (t dead s t' s' : List ℕ) (n : ℕ) : Type 0 where
  pub table : t' ≡ swept t dead
  pub number : n ≡ length dead
  pub scratch : s' ≡ cleared (scratch_words (capacity t)) s

-- what the code frees where the watched word is w, on any store past questions 1 and 2: what no root reaches, or what the local way tells, which is nothing
-- where w is no cell or still a root
abbrev pub Collects : List ℕ → ℕ → List ℕ → List ℕ → List ℕ → ℕ → Type 0
Collects t w s t' s' n = Frees t (unreached t) s t' s' n ⊎ Frees t (local_dead t w) s t' s' n

-- and what it does with the packet p
abbrev pub Applies : List ℕ → Packet → List ℕ → List ℕ → List ℕ → ℕ → Type 0
Applies t p = Collects (apply_packet_fitting t p) (watched p)

pub record Steps (t : List ℕ) (q : Queue) (s : List ℕ) (r : Stepped) (t' s' : List ℕ) : Type 0 where
  -- questions 1 and 2, on any store: the first "no" gives its number, and nothing lent changes
  pub asked : ((n : ℕ) → first_no (early (store t q s) step) ≡ suc n → (step_reply r.answer ≡ refused (suc n)) × (store t' r.queue s' ≡ store t q s))
  -- past them a step never refuses
  pub answered : ((n : ℕ) → first_no (early (store t q s) step) ≡ 0 → step_reply r.answer ≡ refused n → ⊥)
  -- idle where no packet waits, and nothing changes
  pub idles : (first_no (early (store t q s) step) ≡ 0 → q.count ≡ 0 → (step_reply r.answer ≡ idle) × (store t' r.queue s' ≡ store t q s))
  -- else the reply has the oldest packet's kind, the packet leaves the queue, and the words of the scratch that the table needs are 0
  pub replies : (first_no (early (store t q s) step) ≡ 0 → 0 < q.count → (n : ℕ) × (step_reply r.answer ≡ applied (oldest q).kind n))
  pub takes : (first_no (early (store t q s) step) ≡ 0 → 0 < q.count → (r.queue ≡ taken q) × (s' ≡ cleared (scratch_words (capacity t)) s))
  -- by the machine's definition
  pub exact : (first_no (early (store t q s) step) ≡ 0 → Premises t q → outcome (step_reply r.answer) (store t' r.queue s') ≡ stepped (store t q s))
  -- on any store
  pub bounded : Untouched (store t q s) (store t' r.queue s')
