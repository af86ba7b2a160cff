-- S4 as the code asks it: packet by packet from the newest, with the pointers of the stage counted in the scratch.
use Rattle.std.specs.Prelude.{◌≡◌, Bool, true, ◌&&◌, List, ℕ, suc, pred, ◌+◌, ◌≤◌, ◌<◌, length, get_or, drop}
use Rattle.machine.specs.declared.Queue.{Queue}
use Rattle.machine.specs.Audit.{packets_legal, undoable_of, undone_of, undoable, before, undoes}
use Rattle.machine.specs.Counts.{pointers}
use Rattle.machine.specs.Facts.{Lent}
use Rattle.machine.specs.Packets.{Kind}
use Rattle.machine.specs.Questions.{pointers_within}
use Rattle.machine.specs.Queue.{waiting}
use Rattle.machine.specs.Table.{capacity, scratch_words, in_use}
use Rattle.audit_packets.specs.Packets.{packet_on}
use Rattle.audit_pointers.specs.EarlierFields.{newer}

-- a cell in use, by its number
pub record UsedCell (t : List ℕ) (x : ℕ) : Type 0 where
  pub some : 1 ≤ x
  pub below : x ≤ capacity t
  pub used : in_use t (pred x) ≡ true

-- the table with all packets undone that j older ones wait before
unfoldable pub stage : List ℕ → Queue → ℕ → List ℕ
stage t q j = before t (newer q j)

-- past questions 1 and 2, with packets that can be undone
pub record Stageable (t : List ℕ) (q : Queue) (s : List ℕ) : Type 0 where
  pub lent : Lent t q s
  pub legal : packets_legal t (waiting q) ≡ true

-- the packets undone that j older ones wait before: their stages hold, and the scratch s counts the pointers of the oldest
pub record Undoing (t : List ℕ) (q : Queue) (j : ℕ) (s₀ s : List ℕ) : Type 0 where
  pub able : Stageable t q s
  pub some : j ≤ q.count
  pub holds : undoes t (newer q j) ≡ true
  pub each : ((i : ℕ) → i < capacity t → get_or s i 0 ≡ pointers (stage t q j) (suc i))
  pub past : drop (scratch_words (capacity t)) s ≡ drop (scratch_words (capacity t)) s₀
  pub same : length s ≡ length s₀

-- what undoing the packet j takes: the newer ones are undone, their pointers counted and few enough
pub record Undoable (t : List ℕ) (q : Queue) (j : ℕ) (s : List ℕ) : Type 0 where
  pub able : Stageable t q s
  pub some : j < q.count
  pub each : ((i : ℕ) → i < capacity t → get_or s i 0 ≡ pointers (stage t q (j + 1)) (suc i))
  pub within : pointers_within (stage t q (j + 1)) ≡ true

-- and what it gives: the stage v' from v, where the packet's fields hold what they must
pub record Undoes (v v' : List ℕ) (holds : Bool) (c : ℕ) (s s' : List ℕ) (r : Bool) : Type 0 where
  pub answer : r ≡ holds && pointers_within v'
  pub each : (r ≡ true → (i : ℕ) → i < c → get_or s' i 0 ≡ pointers v' (suc i))
  pub past : drop (scratch_words c) s' ≡ drop (scratch_words c) s

-- of a packet of kind κ with the words a, b, c, behind j older ones
abbrev pub UndoesKind : List ℕ → Queue → ℕ → Kind → ℕ → ℕ → ℕ → List ℕ → List ℕ → Bool → Type 0
UndoesKind t q j κ a b c s s' r =
    Undoes (stage t q (j + 1)) (undone_of (stage t q (j + 1)) κ a b c) (undoable_of (stage t q (j + 1)) κ a b c) (capacity t) s s' r

-- of the packet that waits there
abbrev pub UndoesPacket : List ℕ → Queue → ℕ → List ℕ → List ℕ → Bool → Type 0
UndoesPacket t q j s s' r = Undoes (stage t q (j + 1)) (stage t q j) (undoable (stage t q (j + 1)) (packet_on q j)) (capacity t) s s' r
