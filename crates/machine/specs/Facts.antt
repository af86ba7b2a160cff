-- What questions 1 and 2, the audit's tests S2, S3 and S4, the step's sweep and fresh mean, as plain facts.
use Rattle.std.specs.Prelude.{◌≡◌, ◌≢◌, ◌↔◌, true, false, cond, List, [], ◌∷◌, ◌++◌, map, ℕ, suc, ◌+◌, ◌-◌, ◌≤◌, ◌<◌, length, drop}
use Rattle.machine.specs.Range.{every, matching, occurrences, last_of}
use Rattle.machine.specs.declared.Queue.{Queue}
use Rattle.machine.specs.Words.{ceiling, most_cells}
use Rattle.machine.specs.Table.{stride, left, right, cell_count, capacity, first_free, last_free, table_length, scratch_words, word_at, in_use, is_free}
use Rattle.machine.specs.Queue.{Packet, slots}
use Rattle.machine.specs.Packets.{uses, contains}
use Rattle.machine.specs.Counts.{pointers}
use Rattle.machine.specs.Reached.{Reached}
use Rattle.machine.specs.Calls.{fresh_table}
use Rattle.machine.specs.Step.{unreached, swept}
use Rattle.machine.specs.Questions.{in_range, scratch_enough}
use Rattle.machine.specs.Audit.{chain_sound, replayed, replays, undoable, undone, pointers_sound}

-- Question 1: of the table,
pub record TableShape (t : List ℕ) : Type 0 where
  pub some : 1 ≤ capacity t
  pub most : capacity t ≤ most_cells
  pub first : first_free t ≤ capacity t
  pub last : last_free t ≤ capacity t
  pub room : table_length (capacity t) ≤ length t

-- of the queue,
pub record QueueShape (q : Queue) : Type 0 where
  pub place : q.place < slots
  pub count : q.count ≤ slots

-- and of both
pub record Shape (t : List ℕ) (q : Queue) : Type 0 where
  pub table : TableShape t
  pub queue : QueueShape q

-- Questions 1 and 2
pub record Lent (t : List ℕ) (q : Queue) (s : List ℕ) : Type 0 where
  pub shape : Shape t q
  pub scratch : scratch_words (capacity t) ≤ length s

-- indices linked by their left words, from the number w to 0
abbrev pub Linked : List ℕ → ℕ → List ℕ → Type 0
Linked t w [] = w ≡ 0
Linked t w (i ∷ is) = (w ≡ suc i) × (i < capacity t) × Linked t (word_at t i left) is

-- S2: these indices are the free chain, from first to last; each free cell is met once and no other; all but its left is 0
pub record Chain (t : List ℕ) (is : List ℕ) : Type 0 where
  pub linked : Linked t (first_free t) is
  pub ends : last_of (map suc is) ≡ last_free t
  pub once : (i : ℕ) → i < capacity t → occurrences i is ≡ cond (is_free t i) 1 0
  pub wiped : (i k : ℕ) → i < capacity t → is_free t i ≡ true → right ≤ k → k < stride → word_at t i k ≡ 0

-- the root counts of all cells, by index, after a packet is replayed
unfoldable pub replayed_counts : Packet → (ℕ → ℕ) → ℕ → ℕ
replayed_counts p counts i = replayed (suc i) p (counts i)

-- S3: one stage of the replay over c cells
pub record ReplayStage (c : ℕ) (p : Packet) (counts : ℕ → ℕ) : Type 0 where
  pub question6 : (i : ℕ) → i < c → uses p (suc i) ≤ counts i
  pub question9 : (i : ℕ) → i < c → replayed_counts p counts i ≤ ceiling

-- all stages, oldest first
abbrev pub Replay : ℕ → (ℕ → ℕ) → List Packet → Type 0
Replay c counts [] = Unit {0}
Replay c counts (p ∷ ps) = ReplayStage c p counts × Replay c (replayed_counts p counts) ps

-- no more than 4,095 pointers meet one cell
abbrev pub Within : List ℕ → Type 0
Within t = (i : ℕ) → i < capacity t → pointers t (suc i) ≤ ceiling

-- S4: the stages of the undoing, oldest first, the last one the table as it stands
pub data Stages (t : List ℕ) : List Packet → List (List ℕ) → Type 0 where
  stands : Within t → Stages t [] (t ∷ [])
  -- one stage more: w is the table after the packet p, the new stage the one before it
  undoes : {p : Packet} {ps : List Packet} {w : List ℕ} {vs : List (List ℕ)} → undoable w p ≡ true → Within (undone w p) → Stages t ps (w ∷ vs)
      → Stages t (p ∷ ps) (undone w p ∷ w ∷ vs)

-- S4: the stages, and the cell counts are the pointers found at the oldest
pub record Undoing (t : List ℕ) (ps : List Packet) (oldest : List ℕ) (others : List (List ℕ)) : Type 0 where
  pub stages : Stages t ps (oldest ∷ others)
  pub counts : (i : ℕ) → i < capacity t → word_at t i cell_count ≡ pointers oldest (suc i)

-- each number above the one before it
abbrev pub Ascending : List ℕ → Type 0
Ascending [] = Unit {0}
Ascending (i ∷ []) = Unit {0}
Ascending (i ∷ j ∷ is) = (i < j) × Ascending (j ∷ is)

-- The cells that a step frees, of a table t: those in use that are not reached, each once, ascending.
pub record Dead (t : List ℕ) (dead : List ℕ) : Type 0 where
  pub members : (i : ℕ) → (contains dead i ≡ true) ↔ ((i < capacity t) × (in_use t i ≡ true) × (Reached t i → ⊥))
  pub ascending : Ascending dead

-- how often the fields of the cells at these indices contain x
unfoldable pub pointers_out : List ℕ → List ℕ → ℕ → ℕ
pointers_out t [] x = 0
pointers_out t (i ∷ is) x = matching (word_at t i left) x 1 + matching (word_at t i right) x 1 + pointers_out t is x

-- The sweep: what a table t becomes when the cells at the indices dead are freed.
pub record Sweep (t : List ℕ) (dead : List ℕ) (t' : List ℕ) : Type 0 where
  pub same_length : length t' ≡ length t
  pub same_capacity : capacity t' ≡ capacity t
  pub past_cells : drop (table_length (capacity t)) t' ≡ drop (table_length (capacity t)) t
  -- a freed cell's words behind left are 0
  pub freed : (i k : ℕ) → contains dead i ≡ true → right ≤ k → k < stride → word_at t' i k ≡ 0
  -- each pointer out of a freed cell lowers a cell count
  pub lowered : (i : ℕ) → i < capacity t → contains dead i ≡ false → word_at t' i cell_count ≡ word_at t i cell_count - pointers_out t dead (suc i)
  -- every other word of a cell that is not freed is unchanged
  pub unchanged : (i k : ℕ) → k < stride → k ≢ cell_count → contains dead i ≡ false → word_at t' i k ≡ word_at t i k
  -- the freed cells join the chain at its front, in their order
  pub joined : (is : List ℕ) → Linked t (first_free t) is → last_of (map suc is) ≡ last_free t → ((i : ℕ) → occurrences i is + occurrences i dead ≤ 1)
      → Linked t' (first_free t') (dead ++ is) × (last_of (map suc (dead ++ is)) ≡ last_free t')

-- Fresh: what any table t becomes.
pub record FreshTable (c : ℕ) (t t' : List ℕ) : Type 0 where
  pub same_length : length t' ≡ length t
  pub new_capacity : capacity t' ≡ c
  pub new_first : first_free t' ≡ 1
  pub new_last : last_free t' ≡ c
  pub past_cells : drop (table_length c) t' ≡ drop (table_length c) t
  -- each cell's left is the next cell, the last one's 0
  pub next : (i : ℕ) → suc i < c → word_at t' i left ≡ suc (suc i)
  pub end : (i : ℕ) → suc i ≡ c → word_at t' i left ≡ 0
  pub zeros : (i k : ℕ) → i < c → right ≤ k → k < stride → word_at t' i k ≡ 0

-- That the definitions say just this. The proof is `meanings` in proofs/Meanings.
pub record Meanings : Type 0 where
  -- question 1, and questions 1 and 2, of any table, queue and scratch
  pub shape : (t : List ℕ) (q : Queue) → (in_range t q ≡ true) ↔ Shape t q
  pub lent : (t : List ℕ) (q : Queue) (s : List ℕ) → ((in_range t q ≡ true) × (scratch_enough t s ≡ true)) ↔ Lent t q s
  -- the tests S2, S3 and S4, of any table, root counts and packets
  pub chain : (t : List ℕ) → (chain_sound t ≡ true) ↔ ((is : List ℕ) × Chain t is)
  pub replay : (c : ℕ) (counts : ℕ → ℕ) (ps : List Packet) → (every c (λ i. replays (suc i) (counts i) ps) ≡ true) ↔ Replay c counts ps
  pub undoing : (t : List ℕ) (ps : List Packet) → (pointers_sound t ps ≡ true) ↔ ((v : List ℕ) × (vs : List (List ℕ)) × Undoing t ps v vs)
  -- the cells that a step frees, and what becomes of a table that has the words for its cells
  pub dead : (t : List ℕ) → Dead t (unreached t)
  pub sweep : (t : List ℕ) → table_length (capacity t) ≤ length t → Sweep t (unreached t) (swept t (unreached t))
  -- fresh, of any table that is long enough
  pub fresh : (c : ℕ) (t : List ℕ) → table_length c ≤ length t → FreshTable c t (fresh_table c t)
