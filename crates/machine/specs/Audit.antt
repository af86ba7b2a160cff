-- "The audit": the rules S1 to S5, each a test on any store that passes question 1, and what a sound store is.
use Rattle.std.specs.Prelude.{◌≡◌, Bool, true, false, cond, ◌&&◌, ◌||◌, List, [], ◌∷◌, ℕ, zero, suc, pred, ◌+◌, ◌-◌, ◌%◌, leb, eqb}
use Rattle.machine.specs.declared.Queue.{Queue}
use Rattle.machine.specs.Range.{every, every_of, occurrences, last_of}
use Rattle.machine.specs.Words.{is_nil, is_cell, is_atom, is_legal, ceiling}
use Rattle.machine.specs.Table.{stride, used, left, right, root_count, cell_count, state, name_count, capacity, first_free, last_free, scratch_words, word_at, put_word, in_use, is_free}
use Rattle.machine.specs.Queue.{Packet, slots, slot, waiting}
use Rattle.machine.specs.Packets.{Kind, reads, makes, replaces, raises, lowers, unknown, kind_of, root, plus, minus, changes, moved_by, names, uses, times_named}
use Rattle.machine.specs.Counts.{pointers}
use Rattle.machine.specs.Reached.{reached}
use Rattle.machine.specs.Calls.{field, Store, store, Reply, sound, broken}
use Rattle.machine.specs.Step.{cleared, Outcome, outcome}
use Rattle.machine.specs.Questions.{Question, ask, first_no, in_range, number_in_range, pointers_within}

-- S1: states are 0 or 1, counts at most 4,095; fields of cells in use are nil, atoms or cells in use
unfoldable pub field_sound : List ℕ → ℕ → Bool
field_sound t w = is_nil w || is_atom w || (is_cell (capacity t) w && in_use t (pred w))

unfoldable pub cell_sound : List ℕ → ℕ → Bool
cell_sound t i =
    leb (word_at t i state) used
    && leb (word_at t i root_count) ceiling
    && leb (word_at t i cell_count) ceiling
    && (is_free t i || (field_sound t (word_at t i left) && field_sound t (word_at t i right)))

unfoldable pub cells_sound : List ℕ → Bool
cells_sound t = every (capacity t) (cell_sound t)

-- S2: the free chain meets each free cell once, from first to last, and free cells are as laid out
-- the cells met from w on, in n steps at most
unfoldable pub walk : List ℕ → ℕ → ℕ → List ℕ
walk t zero w = []
walk t (suc n) w = cond (eqb w 0) [] (w ∷ walk t n (field t w left))

-- one step more than there are cells, so that a circle is met twice
unfoldable pub free_chain : List ℕ → List ℕ
free_chain t = walk t (suc (capacity t)) (first_free t)

-- all words of a free cell behind its left are 0
unfoldable pub laid_out : List ℕ → ℕ → Bool
laid_out t i = every (pred stride) (λ k. eqb (word_at t i (suc k)) 0)

unfoldable pub met_once : List ℕ → List ℕ → ℕ → Bool
met_once t met i = eqb (occurrences (suc i) met) (cond (is_free t i) 1 0)

unfoldable pub chain_sound : List ℕ → Bool
chain_sound t =
    every_of (free_chain t) (is_cell (capacity t))
    && every (capacity t) (met_once t (free_chain t))
    && eqb (last_of (free_chain t)) (last_free t)
    && every (capacity t) (λ i. in_use t i || laid_out t i)

-- S3: slots not waiting are zero; waiting packets have legal kinds and words and name cells in use; the replay
unfoldable pub is_zero_packet : Packet → Bool
is_zero_packet p = eqb p.kind 0 && eqb p.a 0 && eqb p.b 0 && eqb p.c 0

unfoldable pub other_slots_zero : Queue → Bool
other_slots_zero q = every (slots - q.count) (λ j. is_zero_packet (slot q ((q.place + q.count + j) % slots)))

-- a of kinds 1, 4, 5 and c of kinds 2, 3, 6 are cells; an unused c is 0; n is 1 to 4,095
unfoldable pub words_of_kind : ℕ → Kind → ℕ → ℕ → ℕ → Bool
words_of_kind n reads a b c = is_cell n a && is_legal n b && eqb c 0
words_of_kind n makes a b c = is_legal n a && is_legal n b && is_cell n c
words_of_kind n (replaces k) a b c = is_legal n a && is_legal n b && is_cell n c
words_of_kind n raises a b c = is_cell n a && number_in_range b && eqb c 0
words_of_kind n lowers a b c = is_cell n a && number_in_range b && eqb c 0
words_of_kind n unknown a b c = false

unfoldable pub packet_legal : List ℕ → Packet → Bool
packet_legal t p = words_of_kind (capacity t) (kind_of p.kind) p.a p.b p.c

unfoldable pub names_in_use : List ℕ → Packet → Bool
names_in_use t p = every_of (names p) (field_sound t)

unfoldable pub packets_legal : List ℕ → List Packet → Bool
packets_legal t [] = true
packets_legal t (p ∷ ps) = packet_legal t p && names_in_use t p && packets_legal t ps

-- the root count of the cell x after the packet p, from n
unfoldable pub replayed : ℕ → Packet → ℕ → ℕ
replayed x p n = n + moved_by root plus x (changes p) - moved_by root minus x (changes p)

-- replayed oldest first on the root count n of x, questions 6 and 9 hold each time
unfoldable pub replays : ℕ → ℕ → List Packet → Bool
replays x n [] = true
replays x n (p ∷ ps) = leb (uses p x) n && leb (replayed x p n) ceiling && replays x (replayed x p n) ps

-- each cell's name count is how many times waiting packets name it (document 02, A6)
unfoldable pub names_counted : List ℕ → List Packet → Bool
names_counted t ps = every (capacity t) (λ i. eqb (word_at t i name_count) (times_named ps (suc i)))

unfoldable pub packets_sound : List ℕ → Queue → Bool
packets_sound t q =
    other_slots_zero q
    && packets_legal t (waiting q)
    && every (capacity t) (λ i. replays (suc i) (word_at t i root_count) (waiting q))
    && names_counted t (waiting q)

-- S4: a replaced field must hold a, and gets b; a new cell must hold a and b, and gets nil twice
unfoldable pub undoable_of : List ℕ → Kind → ℕ → ℕ → ℕ → Bool
undoable_of t reads a b c = true
undoable_of t makes a b c = eqb (field t c left) a && eqb (field t c right) b
undoable_of t (replaces k) a b c = eqb (field t c k) a
undoable_of t raises a b c = true
undoable_of t lowers a b c = true
undoable_of t unknown a b c = true

unfoldable pub undone_of : List ℕ → Kind → ℕ → ℕ → ℕ → List ℕ
undone_of t reads a b c = t
undone_of t makes a b c = put_word (put_word t (pred c) left 0) (pred c) right 0
undone_of t (replaces k) a b c = put_word t (pred c) k b
undone_of t raises a b c = t
undone_of t lowers a b c = t
undone_of t unknown a b c = t

unfoldable pub undoable : List ℕ → Packet → Bool
undoable t p = undoable_of t (kind_of p.kind) p.a p.b p.c

unfoldable pub undone : List ℕ → Packet → List ℕ
undone t p = undone_of t (kind_of p.kind) p.a p.b p.c

-- the table before the packets ps, the newest undone first
unfoldable pub before : List ℕ → List Packet → List ℕ
before t [] = t
before t (p ∷ ps) = undone (before t ps) p

-- at each stage the field holds what it must, and no more than 4,095 pointers meet one cell
unfoldable pub undoes : List ℕ → List Packet → Bool
undoes t [] = pointers_within t
undoes t (p ∷ ps) = undoes t ps && undoable (before t ps) p && pointers_within (before t (p ∷ ps))

-- at the end the cell counts are the pointers found
unfoldable pub pointers_sound : List ℕ → List Packet → Bool
pointers_sound t ps =
    undoes t ps && every (capacity t) (λ i. eqb (word_at t i cell_count) (pointers (before t ps) (suc i)))

-- S5: every cell in use is reached
unfoldable pub all_reached : List ℕ → Bool
all_reached t = every (capacity t) (λ i. is_free t i || reached t i)

unfoldable pub rules : List ℕ → Queue → List Question
rules t q =
    ask 1 (cells_sound t)
    ∷ ask 2 (chain_sound t)
    ∷ ask 3 (packets_sound t q)
    ∷ ask 4 (pointers_sound t (waiting q))
    ∷ ask 5 (all_reached t)
    ∷ []

-- sound, or the lowest-numbered rule broken
unfoldable pub audit_reply : ℕ → Reply
audit_reply zero = sound
audit_reply (suc n) = broken (suc n)

unfoldable pub audited : Store → Outcome
audited s =
    outcome (audit_reply (first_no (rules s.table s.queue))) (store s.table s.queue (cleared (scratch_words (capacity s.table)) s.scratch))

-- a sound store: question 1 holds and so do the five rules
pub record Sound (t : List ℕ) (q : Queue) : Type 0 where
  pub shape : in_range t q ≡ true
  pub cells : cells_sound t ≡ true
  pub chain : chain_sound t ≡ true
  pub packets : packets_sound t q ≡ true
  pub pointed : pointers_sound t (waiting q) ≡ true
  pub live : all_reached t ≡ true
