-- Demand 3, in one piece: what holds after any list of calls from an accepted fresh. The proof is `demand3` in proofs/Theorem.
use Rattle.std.specs.Prelude.{◌≡◌, ◌⊎◌, ◌↔◌, true, false, List, [], ◌∷◌, ℕ, suc, ◌+◌, ◌≤◌, ◌<◌, length}
use Rattle.machine.specs.declared.Queue.{Queue}
use Rattle.machine.specs.Range.{matching}
use Rattle.machine.specs.Table.{root_count, cell_count, capacity, scratch_words, word_at, in_use, is_free}
use Rattle.machine.specs.Queue.{waiting}
use Rattle.machine.specs.Packets.{root, cell, plus, minus, waiting_change, is_named}
use Rattle.machine.specs.Counts.{pointers}
use Rattle.machine.specs.Reached.{ReachedFrom}
use Rattle.machine.specs.Calls.{Call, fresh, row, step, audit, read, write, RowCall, car, cdr, cons, set_left, set_right, up, down}
use Rattle.machine.specs.Calls.{Reply, value, refused, idle, applied, sound, broken, text, Store, store}
use Rattle.machine.specs.Promise.{Promise}

-- A link of the list: any call with its operands and numbers, the scratch lent to it, the reply, and the store after it.
pub record Link : Type 0 where
  pub call : Call
  pub scratch : List ℕ
  pub reply : Reply
  pub after : Store

-- Links are joined by nothing but the promise, and by the table and queue that the last one left.
abbrev pub Joined : List ℕ → Queue → List Link → Type 0
Joined t q [] = Unit {0}
Joined t q (l ∷ ls) = Promise (store t q l.scratch) l.call l.reply l.after × Joined l.after.table l.after.queue ls

-- The list starts at an accepted fresh, with any C.
abbrev pub Begun : List Link → Type 0
Begun [] = ⊥
Begun (l ∷ ls) = (c w : ℕ) × (l.call ≡ fresh c) × (l.reply ≡ value w)

-- the table and the queue that the list leaves
abbrev pub table_after : List ℕ → List Link → List ℕ
table_after t [] = t
table_after t (l ∷ ls) = table_after l.after.table ls

abbrev pub queue_after : Queue → List Link → Queue
queue_after q [] = q
queue_after q (l ∷ ls) = queue_after l.after.queue ls

-- "Holds", of one cell: gained, and given up
pub record Holds : Type 0 where
  pub gained : ℕ
  pub given : ℕ

abbrev pub holds : ℕ → ℕ → Holds
holds g d = record { gained = g; given = d }

-- What an accepted row call that replies w gains of the cell c: a read one hold of the word it replies, cons one of the cell it replies, up n of x.
unfoldable pub gains : RowCall → ℕ → ℕ → ℕ
gains (car x) w c = matching w c 1
gains (cdr x) w c = matching w c 1
gains (cons x y) w c = matching w c 1
gains (set_left x y) w c = 0
gains (set_right x y) w c = 0
gains (up x n) w c = matching x c n
gains (down x n) w c = 0

-- What it gives up: a read one hold of x, cons one of each operand, two where both are one cell, a replace one of y, down n of x.
unfoldable pub gives : RowCall → ℕ → ℕ
gives (car x) c = matching x c 1
gives (cdr x) c = matching x c 1
gives (cons x y) c = matching x c 1 + matching y c 1
gives (set_left x y) c = matching y c 1
gives (set_right x y) c = matching y c 1
gives (up x n) c = 0
gives (down x n) c = matching x c n

-- An accepted fresh sets the holds to 0 for every cell. Reading a text gains one hold of the word it replies (document 02, A4). Steps, audits, writing a
-- text and refused calls move none.
unfoldable pub moved : ℕ → Call → Reply → Holds → Holds
moved c (fresh n) (value w) h = holds 0 0
moved c (fresh n) (refused k) h = h
moved c (fresh n) idle h = h
moved c (fresh n) (applied k m) h = h
moved c (fresh n) sound h = h
moved c (fresh n) (broken k) h = h
moved c (fresh n) (text bs) h = h
moved c (row r) (value w) h = holds (h.gained + gains r w c) (h.given + gives r c)
moved c (row r) (refused k) h = h
moved c (row r) idle h = h
moved c (row r) (applied k m) h = h
moved c (row r) sound h = h
moved c (row r) (broken k) h = h
moved c (row r) (text bs) h = h
moved c step r h = h
moved c audit r h = h
moved c (read bytes) (value w) h = holds (h.gained + matching w c 1) h.given
moved c (read bytes) (refused k) h = h
moved c (read bytes) idle h = h
moved c (read bytes) (applied k m) h = h
moved c (read bytes) sound h = h
moved c (read bytes) (broken k) h = h
moved c (read bytes) (text bs) h = h
moved c (write w room) r h = h

-- Holds are told from the calls and their replies alone.
pub record Answered : Type 0 where
  pub call : Call
  pub reply : Reply

abbrev pub answers : List Link → List Answered
answers [] = []
answers (l ∷ ls) = record { call = l.call; reply = l.reply } ∷ answers ls

unfoldable pub holds_from : Holds → List Answered → ℕ → Holds
holds_from h [] c = h
holds_from h (a ∷ rest) c = holds_from (moved c a.call a.reply h) rest c

abbrev pub holds_after : List Link → ℕ → Holds
holds_after ls c = holds_from (holds 0 0) (answers ls) c

-- The clauses, of a table t and a queue q, where h gives the holds of each cell. A cell is told by its index, its number less one.
module _ (t : List ℕ) (q : Queue) (h : ℕ → Holds) where
  -- A cell is held while its holds are above 0.
  abbrev pub Held : ℕ → Type 0
  Held i = (h (suc i)).given < (h (suc i)).gained

  -- No cell has more holds given up than gained.
  abbrev pub NoneOwed : Type 0
  NoneOwed = (i : ℕ) → i < capacity t → (h (suc i)).given ≤ (h (suc i)).gained

  -- Each cell's root count with its waiting changes is its holds, gained less given up.
  abbrev pub RootsAreHolds : Type 0
  RootsAreHolds = (i : ℕ) → i < capacity t
      → word_at t i root_count + waiting_change root plus (suc i) (waiting q) + (h (suc i)).given ≡ (h (suc i)).gained + waiting_change root minus (suc i) (waiting q)

  -- Its cell count with its waiting changes is the number of pointers to it in cells in use.
  abbrev pub CellsArePointers : Type 0
  CellsArePointers = (i : ℕ) → i < capacity t
      → word_at t i cell_count + waiting_change cell plus (suc i) (waiting q) ≡ pointers t (suc i) + waiting_change cell minus (suc i) (waiting q)

  -- No cell reached from a held one is free.
  abbrev pub NoneLost : Type 0
  NoneLost = (j i : ℕ) → Held j → ReachedFrom t j i → is_free t i ≡ false

  -- Every cell in use is reached from a held cell or one named by a waiting packet.
  abbrev pub NoneLeft : Type 0
  NoneLeft = (i : ℕ) → i < capacity t → in_use t i ≡ true → (j : ℕ) × (Held j ⊎ (is_named (waiting q) (suc j) ≡ true)) × ReachedFrom t j i

  -- With no packet waiting the cells in use are exactly those reached from held cells.
  abbrev pub ExactWhenDone : Type 0
  ExactWhenDone = waiting q ≡ [] → (i : ℕ) → i < capacity t → (in_use t i ≡ true) ↔ ((j : ℕ) × Held j × ReachedFrom t j i)

  -- An audit with enough scratch replies sound.
  abbrev pub AuditsSound : Type 0
  AuditsSound = (s : List ℕ) (r : Reply) (after : Store) → scratch_words (capacity t) ≤ length s → Promise (store t q s) audit r after → r ≡ sound

  pub record Clauses : Type 0 where
    pub none_owed : NoneOwed
    pub roots_are_holds : RootsAreHolds
    pub cells_are_pointers : CellsArePointers
    pub none_lost : NoneLost
    pub none_left : NoneLeft
    pub exact_when_done : ExactWhenDone
    pub audits_sound : AuditsSound

-- The whole claim: any table and queue, any list of links.
abbrev pub Demand3 : Type 0
Demand3 = (t : List ℕ) (q : Queue) (ls : List Link) → Begun ls → Joined t q ls → Clauses (table_after t ls) (queue_after q ls) (holds_after ls)
