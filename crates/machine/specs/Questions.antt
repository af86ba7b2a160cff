-- "Questions before a call", with those of document 02: the questions, and for each call which are asked in what order.
use Rattle.std.specs.Prelude.{Bool, true, false, cond, not, ◌&&◌, ◌||◌, List, [], ◌∷◌, ◌++◌, ℕ, suc, pred, ◌+◌, leb, ltb, eqb, length}
use Rattle.notation.specs.Trees.{pairs}
use Rattle.notation.specs.Grammar.{most_text}
use Rattle.notation.specs.Parse.{parse, is_tree, meaning}
use Rattle.notation.specs.Brackets.{too_deep, Met, is_too_many, is_no_room, first_met}
use Rattle.machine.specs.declared.Queue.{Queue}
use Rattle.machine.specs.Range.{every, exists, select, every_of}
use Rattle.machine.specs.Words.{is_nil, is_cell, is_legal, may_be_stored, ceiling, most_cells}
use Rattle.machine.specs.Table.{capacity, first_free, last_free, table_length, scratch_words, is_free}
use Rattle.machine.specs.Queue.{Packet, slots, appended, waiting}
use Rattle.machine.specs.Packets.{uses}
use Rattle.machine.specs.Counts.{held_at_least, held_at_most, pointers}
use Rattle.machine.specs.Calls.{RowCall, car, cdr, cons, set_left, set_right, up, down}
use Rattle.machine.specs.Calls.{Call, fresh, row, step, audit, read, write, Store, packet_of, reads_nil, written}
use Rattle.machine.specs.Texts.{atoms_storable, text_for}

-- a question's number, and its answer
pub record Question : Type 0 where
  pub number : ℕ
  pub answer : Bool

abbrev pub ask : ℕ → Bool → Question
ask n b = record { number = n; answer = b }

-- the number of the first "no", or 0
abbrev pub refused_by : Bool → ℕ → ℕ → ℕ
refused_by true n rest = rest
refused_by false n rest = n

unfoldable pub first_no : List Question → ℕ
first_no [] = 0
first_no (k ∷ ks) = refused_by k.answer k.number (first_no ks)

within : ℕ → ℕ → ℕ → Bool
within low high n = leb low n && leb n high

-- 1. C, both free ends, the queue's place and count are within range, and the table has the words for its cells
unfoldable pub in_range : List ℕ → Queue → Bool
unfolding within
in_range t q =
    within 1 most_cells (capacity t)
    && leb (first_free t) (capacity t)
    && leb (last_free t) (capacity t)
    && ltb q.place slots
    && leb q.count slots
    && leb (table_length (capacity t)) (length t)

-- of fresh: only whether the table is long enough
unfoldable pub long_enough : ℕ → List ℕ → Bool
long_enough c t = leb (table_length c) (length t)

-- 2. the scratch has the words that a table of C cells needs
unfoldable pub scratch_enough : List ℕ → List ℕ → Bool
scratch_enough t s = leb (scratch_words (capacity t)) (length s)

-- 3. the number is within its range: C 1 to 4,096, n 1 to 4,095
unfoldable pub cells_in_range : ℕ → Bool
unfolding within
cells_in_range c = within 1 most_cells c

unfoldable pub number_in_range : ℕ → Bool
unfolding within
number_in_range n = within 1 ceiling n

-- 4. each operand that is a word is legal here
unfoldable pub words_legal : List ℕ → List ℕ → Bool
words_legal t ws = every_of ws (is_legal (capacity t))

-- 5. x is a cell
unfoldable pub x_is_cell : List ℕ → ℕ → Bool
x_is_cell t x = is_cell (capacity t) x

-- 6. each named cell is held as often as the call behind the packet names it
unfoldable pub held_enough : List ℕ → List Packet → Packet → Bool
held_enough t ps p = every (capacity t) (λ i. eqb (uses p (suc i)) 0 || held_at_least t ps i (uses p (suc i)))

-- 7. a queue slot is empty
unfoldable pub slot_empty : Queue → Bool
slot_empty q = ltb q.count slots

-- 8. a cell is free
unfoldable pub cell_free : List ℕ → Bool
cell_free t = exists (capacity t) (is_free t)

-- 9. every held count is at most 4,095
unfoldable pub held_within : List ℕ → List Packet → Bool
held_within t ps = every (capacity t) (λ i. held_at_most t ps i ceiling)

-- 10. there are at most 4,095 pointers to each cell
unfoldable pub pointers_within : List ℕ → Bool
pointers_within t = every (capacity t) (λ i. leb (pointers t (suc i)) ceiling)

-- 11. of a text read: it is in the notation, and has at most 4,096 bytes
unfoldable pub in_notation : List ℕ → Bool
in_notation text = leb (length text) most_text && is_tree (parse text)

-- 12. of a text read: at most 32 brackets are open together
unfoldable pub not_too_deep : List ℕ → Bool
not_too_deep text = not (too_deep 0 text)

-- the pairs that a text takes
unfoldable pub text_pairs : List ℕ → ℕ
text_pairs text = pairs (meaning (parse text))

-- 7. of a text read: as many queue slots are empty as it has pairs
unfoldable pub slots_empty : Queue → ℕ → Bool
slots_empty q n = leb (q.count + n) slots

-- 8. of a text read: as many cells are free
unfoldable pub cells_free : List ℕ → ℕ → Bool
cells_free t n = leb n (length (select (capacity t) (is_free t)))

-- 6. of a word written: a cell is held; nil and atoms need no hold
unfoldable pub word_held : List ℕ → List Packet → ℕ → Bool
word_held t ps w = cond (is_cell (capacity t) w) (held_at_least t ps (pred w) 1) true

-- 12 and 13 of a word written, by which is met first: no bracket too many, and no byte without room
unfoldable pub met : ℕ → List ℕ → ℕ → Met
met room t w = first_met room 0 (text_for room t w)

-- 14. each word put into a cell is no atom, or an atom of a value below 4,095
unfoldable pub words_storable : List ℕ → Bool
words_storable ws = every_of ws may_be_stored

-- 14. of a text read: so is the word of every atom in it
unfoldable pub text_storable : List ℕ → Bool
text_storable text = atoms_storable (meaning (parse text))

-- question 5 of a read, from which a read of nil is free: it is asked 1 and 4 only (document 02, A1)
abbrev pub ask_read : List ℕ → ℕ → List Question
ask_read t x = cond (is_nil x) [] (ask 5 (x_is_cell t x) ∷ [])

-- of a row call: 3 to 5 and 14, which is asked of the words put into a cell, both of a cons and y of a replace
unfoldable pub early_row : List ℕ → RowCall → List Question
early_row t (car x) = ask 4 (words_legal t (x ∷ [])) ∷ ask_read t x
early_row t (cdr x) = ask 4 (words_legal t (x ∷ [])) ∷ ask_read t x
early_row t (cons x y) = ask 4 (words_legal t (x ∷ y ∷ [])) ∷ ask 14 (words_storable (x ∷ y ∷ [])) ∷ []
early_row t (set_left x y) = ask 4 (words_legal t (x ∷ y ∷ [])) ∷ ask 5 (x_is_cell t x) ∷ ask 14 (words_storable (y ∷ [])) ∷ []
early_row t (set_right x y) = ask 4 (words_legal t (x ∷ y ∷ [])) ∷ ask 5 (x_is_cell t x) ∷ ask 14 (words_storable (y ∷ [])) ∷ []
early_row t (up x n) = ask 3 (number_in_range n) ∷ ask 4 (words_legal t (x ∷ [])) ∷ ask 5 (x_is_cell t x) ∷ []
early_row t (down x n) = ask 3 (number_in_range n) ∷ ask 4 (words_legal t (x ∷ [])) ∷ ask 5 (x_is_cell t x) ∷ []

-- the questions that have an answer on every store: 1 to 5 and 14, and 11 and 12 of a text read
unfoldable pub early : Store → Call → List Question
early s (fresh c) = ask 3 (cells_in_range c) ∷ ask 1 (long_enough c s.table) ∷ []
early s (row r) = ask 1 (in_range s.table s.queue) ∷ early_row s.table r
early s step = ask 1 (in_range s.table s.queue) ∷ ask 2 (scratch_enough s.table s.scratch) ∷ []
early s audit = ask 1 (in_range s.table s.queue) ∷ ask 2 (scratch_enough s.table s.scratch) ∷ []
early s (read text) =
    ask 1 (in_range s.table s.queue) ∷ ask 11 (in_notation text) ∷ ask 12 (not_too_deep text) ∷ ask 14 (text_storable text) ∷ []
early s (write w room) = ask 1 (in_range s.table s.queue) ∷ ask 4 (words_legal s.table (w ∷ [])) ∷ []

-- question 8 is cons's alone
unfoldable pub ask_free : List ℕ → RowCall → List Question
ask_free t (car x) = []
ask_free t (cdr x) = []
ask_free t (cons x y) = ask 8 (cell_free t) ∷ []
ask_free t (set_left x y) = []
ask_free t (set_right x y) = []
ask_free t (up x n) = []
ask_free t (down x n) = []

-- questions 6 to 10, asked of row calls that queue a packet: 9 and 10 of the store after the call
abbrev pub late_queued : List ℕ → Queue → RowCall → List Question
late_queued t q r =
    ask 6 (held_enough t (waiting q) (packet_of t r))
    ∷ ask 7 (slot_empty q)
    ∷ ask_free t r
    ++ (ask 9 (held_within (written t r) (waiting (appended q (packet_of t r)))) ∷ ask 10 (pointers_within (written t r)) ∷ [])

-- a read of nil is asked none of them
unfoldable pub late_row : List ℕ → Queue → RowCall → List Question
late_row t q r = cond (reads_nil r) [] (late_queued t q r)

unfoldable pub late : Store → Call → List Question
late s (fresh c) = []
late s (row r) = late_row s.table s.queue r
late s step = []
late s audit = []
late s (read text) = ask 7 (slots_empty s.queue (text_pairs text)) ∷ ask 8 (cells_free s.table (text_pairs text)) ∷ []
late s (write w room) =
    ask 6 (word_held s.table (waiting s.queue) w)
    ∷ ask 12 (not (is_too_many (met room s.table w)))
    ∷ ask 13 (not (is_no_room (met room s.table w)))
    ∷ []

unfoldable pub questions : Store → Call → List Question
questions s call = early s call ++ late s call
