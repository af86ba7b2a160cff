-- The table of packet kinds: what each kind changes when it is taken, which cells it names, and how often its call named each cell.
use Rattle.std.specs.Prelude.{Bool, true, false, cond, ◌&&◌, ◌||◌, List, [], ◌∷◌, ℕ, ◌+◌, eqb}
use Rattle.machine.specs.Range.{matching, occurrences}
use Rattle.machine.specs.Table.{left, right}
use Rattle.machine.specs.Queue.{Packet}

-- kinds 1, 2, 3 and 6 (by the field replaced), 4, 5; any other number
pub data Kind : Type 0 where
  reads : Kind
  makes : Kind
  replaces : ℕ → Kind
  raises : Kind
  lowers : Kind
  unknown : Kind

unfoldable pub kind_of : ℕ → Kind
kind_of k =
    cond (eqb k 1) reads
    (cond (eqb k 2) makes
    (cond (eqb k 3) (replaces left)
    (cond (eqb k 4) raises
    (cond (eqb k 5) lowers
    (cond (eqb k 6) (replaces right) unknown)))))

-- a root count and a cell count are counters of two sorts, a name count (document 02, A6) one of a third
pub data Counter : Type 0 where
  root : Counter
  cell : Counter
  name : Counter

pub data Direction : Type 0 where
  plus : Direction
  minus : Direction

-- one count change of a word; nil and atoms have no counts
pub record Change : Type 0 where
  pub counter : Counter
  pub word : ℕ
  pub direction : Direction
  pub amount : ℕ

abbrev change : Counter → ℕ → Direction → ℕ → Change
change k w d n = record { counter = k; word = w; direction = d; amount = n }

-- figure 8's rrc_down, rrc_up, crc_up and crc_down, by n at once
abbrev pub root_down : ℕ → ℕ → Change
root_down w n = change root w minus n

abbrev pub root_up : ℕ → ℕ → Change
root_up w n = change root w plus n

abbrev pub cell_up : ℕ → ℕ → Change
cell_up w n = change cell w plus n

abbrev pub cell_down : ℕ → ℕ → Change
cell_down w n = change cell w minus n

-- "changes when taken", one by one in figure 8's order (document 02, A3); in its lines x is a and y is b
unfoldable pub changes_of : Kind → ℕ → ℕ → List Change
-- P1: rrc_down(x); rrc_up(y)
changes_of reads a b = root_down a 1 ∷ root_up b 1 ∷ []
-- P2: rrc_down(x); crc_up(x); rrc_down(y); crc_up(y)
changes_of makes a b = root_down a 1 ∷ cell_up a 1 ∷ root_down b 1 ∷ cell_up b 1 ∷ []
-- P3: rrc_down(x); crc_up(x); then, where the figure has rrc_down(y), the detached pointer's cell count falls, as document 01 amends it
changes_of (replaces field) a b = root_down a 1 ∷ cell_up a 1 ∷ cell_down b 1 ∷ []
-- P4: for i:=1 to y do rrc_up(x)
changes_of raises a b = root_up a b ∷ []
-- P5: for i:=1 to y do rrc_down(x)
changes_of lowers a b = root_down a b ∷ []
changes_of unknown a b = []

unfoldable pub changes : Packet → List Change
changes p = changes_of (kind_of p.kind) p.a p.b

-- kinds 4 and 5 name a only; the others name each cell among a, b, c
unfoldable pub names_of : Kind → ℕ → ℕ → ℕ → List ℕ
names_of reads a b c = a ∷ b ∷ c ∷ []
names_of makes a b c = a ∷ b ∷ c ∷ []
names_of (replaces field) a b c = a ∷ b ∷ c ∷ []
names_of raises a b c = a ∷ []
names_of lowers a b c = a ∷ []
names_of unknown a b c = []

unfoldable pub names : Packet → List ℕ
names p = names_of (kind_of p.kind) p.a p.b p.c

-- the name counts of these words changed: once for each place at which a cell stands
unfoldable pub name_changes : Direction → List ℕ → List Change
name_changes d [] = []
name_changes d (w ∷ ws) = change name w d 1 ∷ name_changes d ws

-- how often the call behind a packet names x: its operands that are cells, and down its cell n times
unfoldable pub uses_of : Kind → ℕ → ℕ → ℕ → ℕ → ℕ
uses_of reads a b c x = matching a x 1
uses_of makes a b c x = matching a x 1 + matching b x 1
uses_of (replaces field) a b c x = matching a x 1 + matching c x 1
uses_of raises a b c x = matching a x 1
uses_of lowers a b c x = matching a x b
uses_of unknown a b c x = 0

unfoldable pub uses : Packet → ℕ → ℕ
uses p x = uses_of (kind_of p.kind) p.a p.b p.c x

-- a number for each counter, by which two are compared
abbrev pub counter_code : Counter → ℕ
counter_code root = 0
counter_code cell = 1
counter_code name = 2

abbrev pub same_counter : Counter → Counter → Bool
same_counter k l = eqb (counter_code k) (counter_code l)

abbrev pub same_direction : Direction → Direction → Bool
same_direction plus plus = true
same_direction plus minus = false
same_direction minus plus = false
same_direction minus minus = true

-- by how much a list of changes moves one counter of x in one direction, each change counted as often as it is listed
unfoldable pub moved_by : Counter → Direction → ℕ → List Change → ℕ
moved_by k d x [] = 0
moved_by k d x (h ∷ hs) = cond (same_counter k h.counter && same_direction d h.direction) (matching h.word x h.amount) 0 + moved_by k d x hs

-- "Waiting changes": what the last column gives for all waiting packets together
unfoldable pub waiting_change : Counter → Direction → ℕ → List Packet → ℕ
waiting_change k d x [] = 0
waiting_change k d x (p ∷ ps) = moved_by k d x (changes p) + waiting_change k d x ps

-- whether a list of words has x in it
unfoldable pub contains : List ℕ → ℕ → Bool
contains [] x = false
contains (w ∷ ws) x = eqb w x || contains ws x

-- a waiting packet names x
unfoldable pub is_named : List Packet → ℕ → Bool
is_named [] x = false
is_named (p ∷ ps) x = contains (names p) x || is_named ps x

-- how many times waiting packets name x, a packet counting once for each place
unfoldable pub times_named : List Packet → ℕ → ℕ
times_named [] x = 0
times_named (p ∷ ps) x = occurrences x (names p) + times_named ps x
