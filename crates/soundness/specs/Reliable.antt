-- What a row programmer can rely on, in the words of calls and replies: consequences of demand 3. The proof is `reliable` in proofs/Reliable.
use Rattle.std.specs.Prelude.{◌≡◌, ◌↔◌, true, cond, List, [], ◌∷◌, ℕ, suc, ◌+◌, ◌≤◌, ◌<◌, eqb, length}
use Rattle.notation.specs.Parse.{parse, meaning}
use Rattle.machine.specs.declared.Queue.{Queue}
use Rattle.machine.specs.Words.{is_nil, may_be_stored}
use Rattle.machine.specs.Table.{left, right, name_count, capacity, scratch_words, word_at, in_use, is_free}
use Rattle.machine.specs.Queue.{waiting}
use Rattle.machine.specs.Packets.{times_named}
use Rattle.machine.specs.Counts.{held_at_least}
use Rattle.machine.specs.Reached.{ReachedFrom}
use Rattle.machine.specs.Calls.{Call, fresh, row, step, audit, read, write, RowCall, car, cdr, cons, set_left, set_right, up, down}
use Rattle.machine.specs.Calls.{Reply, value, refused, idle, applied, sound, broken, text, Store, store, reads_nil}
use Rattle.machine.specs.Texts.{OpensOut}
use Rattle.machine.specs.Promise.{Promise}
use Rattle.machine.specs.RootsByCell.{RootsByCell}
use Rattle.soundness.specs.Demand3.{Link, Joined, Begun, table_after, queue_after, Holds, moved, Answered, answers, holds_after, Held}

-- the words in the two fields of one cell
pub record Fields : Type 0 where
  pub left : ℕ
  pub right : ℕ

abbrev pub fields : ℕ → ℕ → Fields
fields l r = record { left = l; right = r }

-- What an accepted row call that replies w puts into the cell c: cons both operands into the cell it replies, a replace y into one field of x.
unfoldable pub puts : RowCall → ℕ → ℕ → Fields → Fields
puts (car x) w c f = f
puts (cdr x) w c f = f
puts (cons x y) w c f = cond (eqb w c) (fields x y) f
puts (set_left x y) w c f = cond (eqb x c) (fields y f.right) f
puts (set_right x y) w c f = cond (eqb x c) (fields f.left y) f
puts (up x n) w c f = f
puts (down x n) w c f = f

-- Steps, audits, writing a text and refused calls put nothing, nor does fresh: after it no cell is in use. What a text read puts is not told here: its
-- reply names its word alone, not the cells below it (see `NoTextRead`).
unfoldable pub put : ℕ → Call → Reply → Fields → Fields
put c (fresh n) r f = f
put c (row k) (value w) f = puts k w c f
put c (row k) (refused n) f = f
put c (row k) idle f = f
put c (row k) (applied n m) f = f
put c (row k) sound f = f
put c (row k) (broken n) f = f
put c (row k) (text bs) f = f
put c step r f = f
put c audit r f = f
put c (read bytes) r f = f
put c (write w room) r f = f

-- Like holds, fields are told from the calls and their replies alone.
unfoldable pub fields_from : Fields → List Answered → ℕ → Fields
fields_from f [] c = f
fields_from f (a ∷ rest) c = fields_from (put c a.call a.reply f) rest c

abbrev pub fields_after : List Link → ℕ → Fields
fields_after ls c = fields_from (fields 0 0) (answers ls) c

-- Every cell in use has the fields f: by demand 3 all cells held, and all reached from them, are in use.
abbrev pub FieldsStand : List ℕ → (ℕ → Fields) → Type 0
FieldsStand t f = (i : ℕ) → i < capacity t → in_use t i ≡ true → (word_at t i left ≡ (f (suc i)).left) × (word_at t i right ≡ (f (suc i)).right)

-- what a read replies, of nil nil, and a replace: the word that stood in the field
abbrev pub RepliesField : (ℕ → Fields) → RowCall → ℕ → Type 0
RepliesField f (car x) w = w ≡ cond (is_nil x) 0 (f x).left
RepliesField f (cdr x) w = w ≡ cond (is_nil x) 0 (f x).right
RepliesField f (cons x y) w = Unit {0}
RepliesField f (set_left x y) w = w ≡ (f x).left
RepliesField f (set_right x y) w = w ≡ (f x).right
RepliesField f (up x n) w = Unit {0}
RepliesField f (down x n) w = Unit {0}

-- steps alone, each lent n words of scratch or more
abbrev pub Steps : ℕ → List Link → Type 0
Steps n [] = Unit {0}
Steps n (l ∷ ls) = (l.call ≡ step) × (n ≤ length l.scratch) × Steps n ls

-- no text is read
abbrev pub NoTextRead : List Link → Type 0
NoTextRead [] = Unit {0}
NoTextRead (l ∷ ls) = ((bytes : List ℕ) → l.call ≡ read bytes → ⊥) × NoTextRead ls

-- Of a table t and a queue q, where f gives the fields of each cell.
module _ (t : List ℕ) (q : Queue) (f : ℕ → Fields) where
  -- An accepted read or replace replies what was put into the field last, whatever was collected since.
  abbrev pub ReadsBack : Type 0
  ReadsBack = (s : List ℕ) (r : RowCall) (w : ℕ) (after : Store) → Promise (store t q s) (row r) (value w) after → RepliesField f r w

  pub record Told : Type 0 where
    pub fields_stand : FieldsStand t f
    pub reads_back : ReadsBack

-- cells in use stay in use, with the fields that they have
pub record Stands (t u : List ℕ) : Type 0 where
  pub same_capacity : capacity u ≡ capacity t
  pub used : (i : ℕ) → i < capacity t → in_use t i ≡ true → in_use u i ≡ true
  pub fields : (i k : ℕ) → i < capacity t → k ≤ right → in_use t i ≡ true → word_at u i k ≡ word_at t i k

-- No cell in use contains a clipped reading (document 02, A5).
abbrev pub NoneClipped : List ℕ → Type 0
NoneClipped t = (i : ℕ) → i < capacity t → in_use t i ≡ true → (may_be_stored (word_at t i left) ≡ true) × (may_be_stored (word_at t i right) ≡ true)

-- Of a table t and a queue q, where h gives the holds of each cell.
module _ (t : List ℕ) (q : Queue) (h : ℕ → Holds) where
  -- At the end of a list a read of nil replies nil, whatever waits and whatever is held, and leaves the store and every cell's holds as they were.
  abbrev pub EndsInNil : Type 0
  EndsInNil = (s : List ℕ) (r : RowCall) (reply : Reply) (after : Store) → reads_nil r ≡ true → Promise (store t q s) (row r) reply after
      → (reply ≡ value 0) × (after ≡ store t q s) × ((i : ℕ) → moved (suc i) (row r) reply (h (suc i)) ≡ h (suc i))

  -- The cell that an accepted cons replies was free: by demand 3 nobody could get to it.
  abbrev pub NewIsFree : Type 0
  NewIsFree = (s : List ℕ) (x y w : ℕ) (after : Store) → Promise (store t q s) (row (cons x y)) (value w) after
      → (i : ℕ) × (w ≡ suc i) × (i < capacity t) × (is_free t i ≡ true)

  -- A cell's held count, by which question 6 goes, is its holds: who keeps book of the calls and replies knows the answer beforehand.
  abbrev pub HeldByHolds : Type 0
  HeldByHolds = (i n : ℕ) → i < capacity t → (held_at_least t (waiting q) i n ≡ true) ↔ ((h (suc i)).given + n ≤ (h (suc i)).gained)

  -- As many steps as packets wait leave none waiting, and in use exactly the cells that were reached from held ones when the steps began.
  abbrev pub Drains : Type 0
  Drains = (ls : List Link) → Joined t q ls → Steps (scratch_words (capacity t)) ls → q.count ≤ length ls
      → (waiting (queue_after q ls) ≡ [])
      × ((i : ℕ) → i < capacity t → (in_use (table_after t ls) i ≡ true) ↔ ((j : ℕ) × Held t q h j × ReachedFrom t j i))

  -- With no packet waiting, a cons is refused for want of a free cell only if every cell is reached from a held one: never for garbage.
  abbrev pub FullOfHeld : Type 0
  FullOfHeld = waiting q ≡ [] → (s : List ℕ) (x y : ℕ) (after : Store) → Promise (store t q s) (row (cons x y)) (refused 8) after
      → (i : ℕ) → i < capacity t → (j : ℕ) × Held t q h j × ReachedFrom t j i

  -- The word that an accepted reading replies opens out into the tree that its text means; the cells in use stand.
  abbrev pub ReadsText : Type 0
  ReadsText = (s bytes : List ℕ) (w : ℕ) (after : Store) → Promise (store t q s) (read bytes) (value w) after
      → OpensOut after.table w (meaning (parse bytes)) × Stands t after.table

  -- Each cell's name count is how many times waiting packets name it, so that root and protection are told from the cell alone (document 02, A6).
  abbrev pub NamesTold : Type 0
  NamesTold = ((i : ℕ) → i < capacity t → word_at t i name_count ≡ times_named (waiting q) (suc i)) × RootsByCell t q

  pub record Relied : Type 0 where
    pub ends_in_nil : EndsInNil
    pub new_is_free : NewIsFree
    pub held_by_holds : HeldByHolds
    pub drains : Drains
    pub full_of_held : FullOfHeld
    pub reads_text : ReadsText
    pub none_clipped : NoneClipped t
    pub names_told : NamesTold

-- After any list of calls from an accepted fresh; what was put into the fields is told of lists in which no text is read.
abbrev pub Reliable : Type 0
Reliable = (t : List ℕ) (q : Queue) (ls : List Link) → Begun ls → Joined t q ls
    → Relied (table_after t ls) (queue_after q ls) (holds_after ls) × (NoTextRead ls → Told (table_after t ls) (queue_after q ls) (fields_after ls))
