-- Nothing is trimmed on a sound store: what a step's changes and lowerings meet on their way.
use Rattle.std.specs.Prelude.{◌≡◌, List, ◌∷◌, ℕ, suc, ◌≤◌, ◌<◌, drop}
use Rattle.machine.specs.Range.{matching, occurrences}
use Rattle.machine.specs.Words.{ceiling}
use Rattle.machine.specs.Table.{root_count, cell_count, name_count, capacity, word_at}
use Rattle.machine.specs.declared.Queue.{Queue}
use Rattle.machine.specs.Queue.{Packet, packet, empty_queue, appended, waiting}
use Rattle.machine.specs.Packets.{Kind, reads, makes, replaces, raises, lowers, unknown, kind_of, Counter, cell, Direction, plus, minus, Change, changes, names}
use Rattle.machine.specs.Step.{counter_word, apply_changes, apply_packet, unreached}
use Rattle.machine.specs.Audit.{Sound}
use Rattle.machine.specs.Stages.{stage}
use Rattle.machine.specs.Worked.{with_word}
use Rattle.machine.specs.WrongAnswers.{crowded}
use Rattle.machine.specs.Facts.{pointers_out}

-- a lowering by n finds a count of n or more
abbrev pub Lowers : Direction → ℕ → ℕ → Type 0
Lowers plus count n = Unit {0}
Lowers minus count n = n ≤ count

-- the packet is of a replace that puts in the very word x that it detaches
abbrev pub ByItself : Kind → ℕ → ℕ → ℕ → Type 0
ByItself reads a b x = ⊥
ByItself makes a b x = ⊥
ByItself (replaces k) a b x = (a ≡ x) × (b ≡ x)
ByItself raises a b x = ⊥
ByItself lowers a b x = ⊥
ByItself unknown a b x = ⊥

-- a step that takes the packet p from a table t; a stage is the table when the first n changes are made
pub record Untrimmed (t : List ℕ) (p : Packet) : Type 0 where
  -- no lowering meets a count too low for it: h is the change that follows the first n
  pub lowers : (n : ℕ) (h : Change) (hs : List Change) → drop n (changes p) ≡ h ∷ hs → (i : ℕ) → i < capacity t
      → Lowers h.direction (word_at (stage t p n) i (counter_word h.counter)) (matching h.word (suc i) h.amount)
  -- at every stage every counter is at most 4,096
  pub passing : (n : ℕ) (k : Counter) (i : ℕ) → i < capacity t → word_at (stage t p n) i (counter_word k) ≤ suc ceiling
  -- and one that stands at 4,096 is the cell count of a cell that a replace puts in and detaches
  pub only : (n : ℕ) (k : Counter) (i : ℕ) → i < capacity t → word_at (stage t p n) i (counter_word k) ≡ suc ceiling
      → (k ≡ cell) × ByItself (kind_of p.kind) p.a p.b (suc i)
  -- after the packet every count is at most 4,095
  pub roots : (i : ℕ) → i < capacity t → word_at (apply_changes t (changes p)) i root_count ≤ ceiling
  pub cells : (i : ℕ) → i < capacity t → word_at (apply_changes t (changes p)) i cell_count ≤ ceiling
  -- no name count is below what the packet gives up
  pub unnaming : (i : ℕ) → i < capacity t → occurrences (suc i) (names p) ≤ word_at (apply_changes t (changes p)) i name_count
  -- and no cell has a count below the pointers to it that the freed cells hold
  pub freeing : (i : ℕ) → i < capacity t → pointers_out (apply_packet t p) (unreached (apply_packet t p)) (suc i) ≤ word_at (apply_packet t p) i cell_count

-- every step that takes a packet from a sound store. The proof is `untrimmed` in proofs/Untrimmed.
abbrev pub NothingTrimmed : Type 0
NothingTrimmed = (t : List ℕ) (q : Queue) (p : Packet) (ps : List Packet) → Sound t q → waiting q ≡ p ∷ ps → Untrimmed t p

-- and a count does stand at 4,096: of 2,048 cells 4,095 fields point to the first, and a replace of it by itself waits, which names it three times
pub record Stands : Type 0 where
  pub sound : Sound (with_word (crowded 2047 0 2) 1 name_count 3) (appended empty_queue (packet 3 1 1 1))
  pub at_4096 : word_at (stage (with_word (crowded 2047 0 2) 1 name_count 3) (packet 3 1 1 1) 2) 0 cell_count ≡ suc ceiling
