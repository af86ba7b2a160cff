-- A store at rest: no packet waits, the words held are a list, and the fields of the cells in use are known.
use Rattle.std.specs.Prelude.{◌≡◌, false, List, [], ◌∷◌, ◌++◌, ℕ, suc, ◌+◌, ◌≤◌, ◌<◌, length, drop, replicate}
use Rattle.machine.specs.declared.Queue.{Queue}
use Rattle.machine.specs.Range.{select, occurrences}
use Rattle.machine.specs.Words.{ceiling}
use Rattle.machine.specs.Table.{root_count, capacity, scratch_words, word_at, in_use}
use Rattle.machine.specs.Counts.{pointers}
use Rattle.machine.specs.Calls.{RowCall, car, cdr, cons, set_left, set_right, up, down, reads_nil}
use Rattle.machine.specs.Questions.{first_no, early_row, ask_free}
use Rattle.machine.specs.Step.{cleared}
use Rattle.soundness.specs.Whole.{Whole}
use Rattle.soundness.specs.Reliable.{Fields, FieldsStand}

-- Nothing waits; each cell is held as often as it occurs in hs; the cells in use have the fields f. Nil and atoms have no holds, and may occur in hs too.
pub record Rests (t : List ℕ) (q : Queue) (hs : List ℕ) (f : ℕ → Fields) : Type 0 where
  pub whole : Whole t q
  pub idle : q.count ≡ 0
  pub held : (i : ℕ) → i < capacity t → word_at t i root_count ≡ occurrences (suc i) hs
  pub fields : FieldsStand t f

-- how many cells are in use
unfoldable pub cells_in_use : List ℕ → ℕ
cells_in_use t = length (select (capacity t) (in_use t))

-- The words that a row call names: it needs a hold of each.
abbrev pub needs : RowCall → List ℕ
needs (car x) = x ∷ []
needs (cdr x) = x ∷ []
needs (cons x y) = x ∷ y ∷ []
needs (set_left x y) = x ∷ y ∷ []
needs (set_right x y) = x ∷ y ∷ []
needs (up x n) = x ∷ []
needs (down x n) = replicate n x

-- The words of which it leaves or gains a hold when it replies w.
abbrev pub leaves : RowCall → ℕ → List ℕ
leaves (car x) w = w ∷ []
leaves (cdr x) w = w ∷ []
leaves (cons x y) w = w ∷ []
leaves (set_left x y) w = x ∷ []
leaves (set_right x y) w = x ∷ []
leaves (up x n) w = x ∷ replicate n x
leaves (down x n) w = []

-- The words that it puts into a cell.
abbrev pub stored : RowCall → List ℕ
stored (car x) = []
stored (cdr x) = []
stored (cons x y) = x ∷ y ∷ []
stored (set_left x y) = y ∷ []
stored (set_right x y) = y ∷ []
stored (up x n) = []
stored (down x n) = []

-- the cell that a cons replies was free
abbrev pub New : List ℕ → RowCall → ℕ → Type 0
New t (car x) w = Unit {0}
New t (cdr x) w = Unit {0}
New t (cons x y) w = (i : ℕ) × (w ≡ suc i) × (i < capacity t) × (in_use t i ≡ false)
New t (set_left x y) w = Unit {0}
New t (set_right x y) w = Unit {0}
New t (up x n) w = Unit {0}
New t (down x n) w = Unit {0}

-- What can refuse a row call other than a read of nil on a store at rest, where the words that it names are held beside hs: the early questions, no free
-- cell, and the two ceilings.
pub record Allowed (t : List ℕ) (hs : List ℕ) (r : RowCall) : Type 0 where
  pub queues : reads_nil r ≡ false
  pub early : first_no (early_row t r) ≡ 0
  pub free : first_no (ask_free t r) ≡ 0
  pub few : (w : ℕ) → length (leaves r w ++ hs) ≤ ceiling
  pub pointed : (i : ℕ) → i < capacity t → 0 < occurrences (suc i) (stored r) → pointers t (suc i) + occurrences (suc i) (stored r) ≤ ceiling

-- A store of c cells at rest, with a scratch long enough that differs from s₀, if at all, in the words that a step clears.
pub record At (c : ℕ) (s₀ hs : List ℕ) (f : ℕ → Fields) (t : List ℕ) (q : Queue) (s : List ℕ) : Type 0 where
  pub cells : capacity t ≡ c
  pub rests : Rests t q hs f
  pub enough : scratch_words c ≤ length s
  pub past : drop (scratch_words c) s ≡ drop (scratch_words c) s₀

-- The same once these words are cleared.
pub record After (c : ℕ) (s₀ hs : List ℕ) (f : ℕ → Fields) (t : List ℕ) (q : Queue) (s : List ℕ) : Type 0 where
  pub at : At c s₀ hs f t q s
  pub clear : s ≡ cleared (scratch_words c) s₀
