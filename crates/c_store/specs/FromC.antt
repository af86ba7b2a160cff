-- What the store's theorems say to callers in C. The proof is `from_c` in proofs/FromC.
use Rattle.std.specs.Prelude.{◌≡◌, List, [], ◌∷◌, ◌++◌, ℕ}
use Rattle.std.proofs.Math.Option.{Option, none, some}
use Rattle.machine.specs.Calls as machine
use Rattle.machine.specs.Calls.{Call, fresh, value, Store, store}
use Rattle.machine.specs.WrongAnswers.{OnlyAnswer}
use Rattle.soundness.specs.Demand3 as demand
use Rattle.soundness.specs.Demand3.{Link, Answered, Holds, holds, holds_from, Clauses}
use Rattle.c_layout.specs.declared.Reply.{Reply}
use Rattle.c_layout.specs.Queues.{queue_in}
use Rattle.c_layout.specs.Replies.{told, said}
use Rattle.c_store.specs.Told.{PromiseTold}

-- A call from C: any call with its operands and numbers, the scratch lent to it, the reply's three numbers, and what was lent as it is after the call.
pub record Called : Type 0 where
  pub call : Call
  pub lent : List ℕ
  pub reply : Reply
  pub table : List ℕ
  pub words : List ℕ
  pub scratch : List ℕ

-- Calls are joined by nothing but what the functions promise, and by the table and the queue's words that the last one left.
abbrev pub Joined : List ℕ → List ℕ → List Called → Type 0
Joined t w [] = Unit {0}
Joined t w (l ∷ ls) =
    PromiseTold (store t (queue_in w) l.lent) l.call l.reply (store l.table (queue_in l.words) l.scratch) × Joined l.table l.words ls

-- The list starts at an accepted fresh, with any C.
abbrev pub Begun : List Called → Type 0
Begun [] = ⊥
Begun (l ∷ ls) = (c w : ℕ) × (l.call ≡ fresh c) × (l.reply ≡ told (value w))

-- the table and the queue's words that the list leaves
abbrev pub table_after : List ℕ → List Called → List ℕ
table_after t [] = t
table_after t (l ∷ ls) = table_after l.table ls

abbrev pub words_after : List ℕ → List Called → List ℕ
words_after w [] = w
words_after w (l ∷ ls) = words_after l.words ls

-- Holds are told from the calls and the three numbers of their replies alone, which C sees. Numbers that say no reply move none.
abbrev pub answered : Call → Option machine.Reply → List Answered
answered call none = []
answered call (some reply) = record { call = call; reply = reply } ∷ []

abbrev pub answers : List Called → List Answered
answers [] = []
answers (l ∷ ls) = answered l.call (said l.reply) ++ answers ls

abbrev pub holds_after : List Called → ℕ → Holds
holds_after ls c = holds_from (holds 0 0) (answers ls) c

-- the list as demand 3 has it, with the replies that are promised
abbrev pub links : (t w : List ℕ) (ls : List Called) → Joined t w ls → List Link
links t w [] j = []
links t w (l ∷ ls) j =
    record {
      call = l.call;
      scratch = l.lent;
      reply = j.0.reply;
      after = store l.table (queue_in l.words) l.scratch;
    }
    ∷ links l.table l.words ls j.1

pub record FromC : Type 0 where
  -- demand 3, of any list of calls from C
  pub demand3 : (t w : List ℕ) (ls : List Called) → Joined t w ls → Begun ls → Clauses (table_after t ls) (queue_in (words_after w ls)) (holds_after ls)
  -- the holds that the numbers tell are those of the replies that are promised
  pub same_holds : (t w : List ℕ) (ls : List Called) (j : Joined t w ls) (c : ℕ) → holds_after ls c ≡ demand.holds_after (links t w ls j) c
  -- every entry of the table of wrong answers holds: no other numbers, and no other table, queue and scratch
  pub only : (s : Store) (call : Call) (reply : machine.Reply) (after : Store) → OnlyAnswer s call reply after
      → (r : Reply) (s' : Store) → PromiseTold s call r s' → (r ≡ told reply) × (s' ≡ after)
