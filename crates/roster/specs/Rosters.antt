-- The whole claim: any list of roster calls from an accepted fresh with nil behaves as a plain list of seat and reading would. The proof is `rosters` in
-- proofs/Theorem.
use Rattle.std.specs.Prelude.{◌≡◌, List, [], ◌∷◌, ℕ, zero, suc, ◌+◌, ◌*◌, ◌<◌, length}
use Rattle.machine.specs.declared.Queue.{Queue}
use Rattle.machine.specs.Range.{matching}
use Rattle.machine.specs.Table.{capacity, scratch_words}
use Rattle.machine.specs.Queue.{waiting}
use Rattle.machine.specs.Calls.{fresh, Store, store}
use Rattle.machine.specs.Calls as machine
use Rattle.machine.specs.Questions.{first_no}
use Rattle.machine.specs.Step.{cleared}
use Rattle.machine.specs.Audit.{Sound}
use Rattle.machine.specs.Promise.{Promise}
use Rattle.soundness.specs.Demand3.{Begun, holds_after}
use Rattle.resting.specs.Rests.{cells_in_use}
use Rattle.resting.specs.Runs.{Led}
use Rattle.readings.specs.Readings.{Entry}
use Rattle.readings.specs.Calls.{RosterCall, RosterReply, early_roster}
use Rattle.readings.specs.Answers.{answered, refused_or}
use Rattle.roster.specs.Promise.{RosterPromise}

-- A link of the list: any call with its operands, the scratch lent to it, the reply, and the store and the word after it.
pub record Link : Type 0 where
  pub call : RosterCall
  pub scratch : List ℕ
  pub reply : RosterReply
  pub after : Store
  pub word : ℕ

-- Links are joined by nothing but the promise, and by the table, the queue and the word that the last one left.
abbrev pub Joined : List ℕ → Queue → ℕ → List Link → Type 0
Joined t q w [] = Unit {0}
Joined t q w (l ∷ ls) = RosterPromise (store t q l.scratch) w l.call l.reply l.after l.word × Joined l.after.table l.after.queue l.word ls

-- "Keeps one hold (nil when empty)": a list of calls of the store leads from the fresh, made on t₀ and q₀, to this table and queue, so that demand 3 covers
-- them; and by these calls and their replies the word is held once and no other cell at all.
pub record OneHold (t₀ : List ℕ) (q₀ : Queue) (c : ℕ) (t : List ℕ) (q : Queue) (w : ℕ) : Type 0 where
  pub led : Led t₀ q₀ t q
  pub begun : Begun led.links
  pub once : (i : ℕ) → i < c → (holds_after led.links (suc i)).gained ≡ (holds_after led.links (suc i)).given + matching w (suc i) 1

-- What is true of the store after each call. The fresh was made on t₀ and q₀.
pub record Stored (t₀ : List ℕ) (q₀ : Queue) (c : ℕ) (es : List Entry) (t : List ℕ) (q : Queue) (w : ℕ) : Type 0 where
  pub cells : capacity t ≡ c
  pub sound : Sound t q
  -- the collector is idle
  pub idle : waiting q ≡ []
  pub hold : OneHold t₀ q₀ c t q w
  pub nil : es ≡ [] → w ≡ 0
  -- two cells for each seat
  pub two : cells_in_use t ≡ 2 * length es

-- A call that an early question refuses changes nothing; any other leaves the scratch as after an audit.
abbrev pub Left : ℕ → ℕ → Store → ℕ → Store → ℕ → Type 0
Left zero c s w s' w' = s'.scratch ≡ cleared (scratch_words c) s.scratch
Left (suc n) c s w s' w' = (s' ≡ s) × (w' ≡ w)

-- Each reply is the plain list's, and each store is as it must be. t, q and w are what the last call left, es the plain list then.
abbrev pub Plain : List ℕ → Queue → ℕ → List Entry → List ℕ → Queue → ℕ → List Link → Type 0
Plain t₀ q₀ c es t q w [] = Unit {0}
Plain t₀ q₀ c es t q w (l ∷ ls) =
    let s = store t q l.scratch in
    let n = first_no (early_roster s l.call) in
    let g = refused_or n es (answered c es l.call) in
    (l.reply ≡ g.reply) × Left n c s w l.after l.word × Stored t₀ q₀ c g.entries l.after.table l.after.queue l.word
    × Plain t₀ q₀ c g.entries l.after.table l.after.queue l.word ls

abbrev pub Rosters : Type 0
Rosters = (s : Store) (c v : ℕ) (after : Store) → Promise s (fresh c) (machine.value v) after → (ls : List Link) → Joined after.table after.queue 0 ls
    → Stored s.table s.queue c [] after.table after.queue 0 × Plain s.table s.queue c [] after.table after.queue 0 ls
