-- The one promise that every call of the roster keeps, for any store s, word w, call, reply r, and store s' and word w' afterwards.
use Rattle.std.specs.Prelude.{◌≡◌, List, [], ◌∷◌, ℕ, suc}
use Rattle.machine.specs.declared.Queue.{Queue}
use Rattle.machine.specs.Table.{capacity, scratch_words}
use Rattle.machine.specs.Calls.{Store}
use Rattle.machine.specs.Questions.{first_no}
use Rattle.machine.specs.Step.{cleared}
use Rattle.soundness.specs.Reliable.{Fields}
use Rattle.resting.specs.Rests.{Rests}
use Rattle.resting.specs.Runs.{Runs}
use Rattle.readings.specs.Readings.{Entry}
use Rattle.readings.specs.Calls.{RosterCall, set, look_up, remove, count, RosterReply, refused, early_roster}
use Rattle.readings.specs.Answers.{answered}
use Rattle.roster_list.specs.Nodes.{Listed}

-- A roster with the word w and these entries: nothing waits, the word is held and nothing else, and the list lies in the cells. By `Rosters` an accepted
-- fresh's store with nil is one of no entries, and what the calls make of one is one.
pub record RosterOf (t : List ℕ) (q : Queue) (w : ℕ) (es : List Entry) : Type 0 where
  pub fields : ℕ → Fields
  pub rests : Rests t q (w ∷ []) fields
  pub listed : Listed (capacity t) fields w es

-- past the early questions the only number is a set's 8
abbrev pub LateNumber : RosterCall → ℕ → Type 0
LateNumber (set s r) n = n ≡ 8
LateNumber (look_up s) n = ⊥
LateNumber (remove s) n = ⊥
LateNumber (count k) n = ⊥

-- what is given on a roster: the reply of the plain list, a roster with the list's entries, the scratch as after an audit
pub record Kept (s : Store) (es : List Entry) (call : RosterCall) (r : RosterReply) (s' : Store) (w' : ℕ) : Type 0 where
  pub reply : r ≡ (answered (capacity s.table) es call).reply
  pub roster : RosterOf s'.table s'.queue w' (answered (capacity s.table) es call).entries
  pub scratch : s'.scratch ≡ cleared (scratch_words (capacity s.table)) s.scratch

pub record RosterPromise (s : Store) (w : ℕ) (call : RosterCall) (r : RosterReply) (s' : Store) (w' : ℕ) : Type 0 where
  -- 15, 1, 2, 4 and 14 are answered as written on any store: the first "no" gives its number, and nothing lent changes, nor does the word
  pub asked : (n : ℕ) → first_no (early_roster s call) ≡ suc n → (r ≡ refused (suc n)) × (s' ≡ s) × (w' ≡ w)
  -- where none of them says "no", no refusal but a set's 8
  pub refusal : (n : ℕ) → first_no (early_roster s call) ≡ 0 → r ≡ refused n → LateNumber call n
  -- and on a roster what the plain list gives
  pub exact : first_no (early_roster s call) ≡ 0 → (es : List Entry) → RosterOf s.table s.queue w es → Kept s es call r s' w'
  -- on any store: what is made of it, calls of the store make, so that nothing past its cells and its scratch is written
  pub runs : Runs s s'

-- a call past its early questions, for the functions within this crate: the promise without them
pub record Past (s : Store) (w : ℕ) (call : RosterCall) (r : RosterReply) (s' : Store) (w' : ℕ) : Type 0 where
  pub refusal : (n : ℕ) → r ≡ refused n → LateNumber call n
  pub exact : first_no (early_roster s call) ≡ 0 → (es : List Entry) → RosterOf s.table s.queue w es → Kept s es call r s' w'
  pub runs : Runs s s'
