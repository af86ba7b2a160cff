-- The wrong answers that the promise shuts out, as a table: at each entry's store and call one answer keeps the promise, so that no other does.
use Rattle.std.specs.Prelude.{◌≡◌, true, false, cond, List, [], ◌∷◌, ◌++◌, map, ℕ, zero, suc, ◌*◌, ◌≤◌, ◌<◌, length, take, drop, replicate}
use Rattle.base_ten.specs.Bytes.{ascii}
use Rattle.machine.specs.declared.Queue.{Queue}
use Rattle.machine.specs.Table.{stride, left, right, root_count, cell_count, state, name_count, table_length, capacity, scratch_words, free_cell, put_ends}
use Rattle.machine.specs.Queue.{Packet, packet, slots, placed, empty_queue, put_slot, appended}
use Rattle.machine.specs.Packets.{plus, contains}
use Rattle.machine.specs.Calls.{Call, fresh, row, step, audit, read, write, RowCall, car, cdr, cons, set_left, set_right, up, down}
use Rattle.machine.specs.Calls.{Reply, value, refused, idle, applied, sound, broken, text, Store, store, reads_nil, fresh_table}
use Rattle.machine.specs.Step.{named, cleared}
use Rattle.machine.specs.Questions.{Question, in_range, questions}
use Rattle.machine.specs.Audit.{rules, undoable, before, pointers_sound}
use Rattle.machine.specs.Promise.{Decided, Promise, TextHanded}
use Rattle.machine.specs.Worked.{table_of, cell_of, with_word}
use Rattle.machine.specs.Cases.{named_only}

-- the numbers of all questions, or rules, that say "no"
unfoldable pub noes : List Question → List ℕ
noes [] = []
noes (k ∷ ks) = cond k.answer (noes ks) (k.number ∷ noes ks)

-- what stands in the table: a call of which these questions say "no", an audit by which these rules are broken, and an accepted call with
-- the reply and the store that it gives
pub data Entry : Type 0 where
  refuses : Store → Call → ℕ → List ℕ → Entry
  finds : Store → ℕ → List ℕ → Entry
  gives : Store → Call → Reply → Store → Entry

-- an answer that keeps the promise has this reply and leaves this store
abbrev pub OnlyAnswer : Store → Call → Reply → Store → Type 0
OnlyAnswer s call reply after = (r : Reply) (s' : Store) → Promise s call r s' → (r ≡ reply) × (s' ≡ after)

-- what an audit leaves
abbrev pub audited_store : Store → Store
audited_store s = store s.table s.queue (cleared (scratch_words (capacity s.table)) s.scratch)

-- the first "no" gives its number, whatever else says "no": to skip it, or to give a later number, breaks the promise
abbrev pub Only : Entry → Type 0
Only (refuses s call n ns) = (noes (questions s call) ≡ n ∷ ns) × OnlyAnswer s call (refused n) s
Only (finds s n ns) = (noes (rules s.table s.queue) ≡ n ∷ ns) × OnlyAnswer s audit (broken n) (audited_store s)
Only (gives s call r s') = OnlyAnswer s call r s'

abbrev pub AllOnly : List Entry → Type 0
AllOnly [] = Unit {0}
AllOnly (e ∷ es) = Only e × AllOnly es

-- one cell, in use and held once; the same beside a free cell; each with a word past the cells and one past the scratch that is needed
abbrev alone : List ℕ
alone = table_of 0 0 (cell_of 0 32775 1 0 0 ∷ []) (77 ∷ [])

abbrev held : List ℕ
held = table_of 2 2 (cell_of 0 32775 1 0 0 ∷ free_cell 0 ∷ []) (77 ∷ [])

abbrev pub lent : List ℕ → Queue → Store
lent t q = store t q (7 ∷ 7 ∷ 9 ∷ [])

-- two cells held three times each with fields of their own, and a free one
abbrev pairs : List ℕ
pairs = table_of 3 3 (cell_of 32769 32770 3 0 0 ∷ cell_of 32771 32772 3 0 0 ∷ free_cell 0 ∷ []) (77 ∷ [])

-- a table whose cells 1 and 2 are named so often
abbrev named_so : List ℕ → ℕ → ℕ → List ℕ
named_so t n m = with_word (with_word t 1 name_count n) 2 name_count m

-- two cells in a ring, of which only the first is held, as often as can be
abbrev pub ring : List ℕ
ring = table_of 0 0 (cell_of 2 0 4095 1 0 ∷ cell_of 1 0 0 1 0 ∷ []) []

-- one waiting packet, in the first slot or in the last
abbrev only : Packet → Queue
only p = appended empty_queue p

abbrev last : Packet → Queue
last p = put_slot empty_queue 63 p 63 1

-- one packet that does not wait
abbrev stray : Packet → Queue
stray p = put_slot empty_queue 5 p 0 0

-- 64 packets "up 1 by 1"
abbrev full : Queue
full = record { kinds = replicate slots 4; a = replicate slots 1; b = replicate slots 1; c = replicate slots 0; place = 0; count = slots }

-- no packet waits; no slot is empty; the first free end is out of range
abbrev pub quiet : Store
quiet = lent held empty_queue

abbrev busy : Store
busy = lent (with_word held 1 name_count 64) full

abbrev outside : Store
outside = lent (put_ends held 3 2) empty_queue

-- a table that passes question 1 and not the audit: the state of cell 1 is 3
abbrev damaged : List ℕ
damaged = with_word held 1 state 3

-- of each of these calls these questions say "no"
abbrev refusals : ℕ → List ℕ → Store → List Call → List Entry
refusals n ns s calls = map (λ call. refuses s call n ns) calls

-- by each of these stores these rules are broken
abbrev findings : ℕ → List ℕ → List Store → List Entry
findings n ns ss = map (λ s. finds s n ns) ss

-- tables with no packet waiting; packets that wait alone, whose cells are named so, or do not wait, beside a sound table
abbrev tables : List (List ℕ) → List Store
tables ts = map (λ t. lent t empty_queue) ts

abbrev waiters : List Packet → List Store
waiters ps = map (λ p. lent (named plus held p) (only p)) ps

abbrev strays : List Packet → List Store
strays ps = map (λ p. lent held (stray p)) ps

-- question 1 answered "yes"
abbrev pub range_entries : List Entry
range_entries =
    -- although C is 0 or 4,097,
    refuses (store (0 ∷ 0 ∷ 0 ∷ []) empty_queue []) audit 1 []
    ∷ refuses (store (4097 ∷ 0 ∷ 0 ∷ replicate (stride * 4097) 0) empty_queue (replicate 4097 0)) audit 1 []
    -- a free end is 3 of 2 cells,
    ∷ refuses outside audit 1 []
    ∷ refuses (lent (put_ends held 2 3) empty_queue) audit 1 []
    -- the place is 64, the count 65,
    ∷ refuses (lent held (placed empty_queue 64 0)) audit 1 []
    ∷ refuses (lent held (placed empty_queue 0 65)) audit 1 []
    -- the table is one word too short, for its cells or for those that fresh is to make;
    ∷ refuses (lent (take 14 held) empty_queue) audit 1 []
    ∷ refuses (lent (replicate 20 0) empty_queue) (fresh 3) 1 []
    -- or has five words for each cell, as before document 02, A6;
    ∷ refuses (lent (take 13 held) empty_queue) audit 1 []
    ∷ refuses (lent (take 13 held) empty_queue) (row (car 1)) 1 []
    ∷ refuses (lent (replicate 18 0) empty_queue) (fresh 3) 1 []
    -- by other calls
    ∷ refusals 1 [] outside (step ∷ row (car 1) ∷ row (cdr 1) ∷ row (cons 0 1) ∷ row (up 1 1) ∷ row (down 1 1) ∷ [])

-- a question skipped: it alone says "no"
abbrev pub skipped_entries : List Entry
skipped_entries =
    refusals 2 [] (store held empty_queue (7 ∷ [])) (step ∷ audit ∷ [])
    ++ refusals 3 [] quiet (fresh 0 ∷ row (up 1 0) ∷ row (down 1 0) ∷ [])
    ++ refusals 3 [] (lent (replicate (table_length 4097) 0) empty_queue) (fresh 4097 ∷ [])
    ++ refusals 4 [] quiet (row (cons 3 0) ∷ row (cons 0 32767) ∷ row (set_left 1 3) ∷ row (set_right 1 3) ∷ [])
    ++ refusals 5 [] quiet (row (car 32768) ∷ row (cdr 32775) ∷ row (set_left 0 1) ∷ row (set_right 32775 1) ∷ row (up 0 1) ∷ row (down 32775 1) ∷ [])
    ++ refusals 6 [] quiet (row (car 2) ∷ row (cdr 2) ∷ row (cons 1 1) ∷ row (set_left 1 1) ∷ row (set_right 1 1) ∷ row (up 2 1) ∷ row (down 1 2) ∷ [])
    ++ refusals 7 [] busy (row (car 1) ∷ row (cons 0 1) ∷ row (set_left 1 1) ∷ row (up 1 1) ∷ row (down 1 1) ∷ [])
    ++ refusals 8 [] (lent alone empty_queue) (row (cons 0 0) ∷ row (cons 1 0) ∷ [])
    ++ refusals 9 [] quiet (row (up 1 4095) ∷ [])
    ++ refusals 9 [] (lent ring empty_queue) (row (up 1 1) ∷ [])

-- questions 2 to 5 answered otherwise on a store that passes question 1 and not the audit
abbrev pub damaged_entries : List Entry
damaged_entries =
    refusals 2 [] (store damaged empty_queue (7 ∷ [])) (step ∷ audit ∷ [])
    ++ refusals 3 [] (lent damaged empty_queue) (row (up 1 0) ∷ row (down 1 0) ∷ [])
    ++ refusals 4 [] (lent damaged empty_queue) (row (cons 3 0) ∷ row (set_left 1 3) ∷ [])
    ++ refusals 5 [] (lent damaged empty_queue) (row (car 32768) ∷ row (set_right 32775 1) ∷ row (up 0 1) ∷ [])

-- a later number in the place of the first "no"
abbrev pub order_entries : List Entry
order_entries =
    refuses (store (put_ends held 3 2) empty_queue []) audit 1 (2 ∷ [])
    ∷ refuses outside (row (up 3 0)) 1 (3 ∷ 4 ∷ 5 ∷ [])
    ∷ refuses quiet (fresh 4097) 3 (1 ∷ [])
    ∷ refuses quiet (row (up 3 0)) 3 (4 ∷ 5 ∷ [])
    ∷ refuses quiet (row (down 1 4096)) 3 (6 ∷ [])
    ∷ refuses busy (row (up 1 0)) 3 (7 ∷ [])
    ∷ refuses quiet (row (up 1 4096)) 3 (9 ∷ [])
    ∷ refuses quiet (row (car 3)) 4 (5 ∷ [])
    ∷ refuses quiet (row (cons 3 2)) 4 (6 ∷ [])
    ∷ refuses busy (row (cons 3 0)) 4 (7 ∷ [])
    ∷ refuses (lent alone empty_queue) (row (cons 2 0)) 4 (8 ∷ [])
    ∷ refuses quiet (row (set_left 0 2)) 5 (6 ∷ [])
    ∷ refuses busy (row (car 32768)) 5 (7 ∷ [])
    ∷ refuses busy (row (car 2)) 6 (7 ∷ [])
    ∷ refuses (lent alone empty_queue) (row (cons 1 1)) 6 (8 ∷ [])
    ∷ refuses (lent ring empty_queue) (row (car 2)) 6 (9 ∷ [])
    ∷ refuses (lent (with_word alone 1 name_count 64) full) (row (cons 0 0)) 7 (8 ∷ [])
    ∷ refuses busy (row (up 1 4095)) 7 (9 ∷ [])
    ∷ []

-- question 10 skipped, or in the place of an earlier one, at a store of the fewest cells that can have 4,095 pointers to one: they all point to
-- the first, but for its own right field, which is nil
unfoldable pub repeated : ℕ → List ℕ → List ℕ
repeated zero ws = []
repeated (suc n) ws = ws ++ repeated n ws

-- n cells and the first, held so often, with this word in its right field
unfoldable pub crowded : ℕ → ℕ → ℕ → List ℕ
crowded n word holds = suc n ∷ 0 ∷ 0 ∷ cell_of 1 word holds (suc (2 * n)) 0 ++ repeated n (cell_of 1 1 1 0 0)

abbrev pub pointer_entries : List Entry
pointer_entries =
    refuses (lent (crowded 2047 0 2) empty_queue) (row (set_right 1 1)) 10 []
    ∷ refuses (lent (crowded 2047 0 1) empty_queue) (row (set_right 1 1)) 6 (10 ∷ [])
    -- or asked of the count in passing: a replace of the first cell by itself, whose packet names it three times
    ∷ gives (lent (crowded 2047 0 2) empty_queue) (row (set_left 1 1)) (value 1) (lent (with_word (crowded 2047 0 2) 1 name_count 3) (only (packet 3 1 1 1)))
    ∷ []

-- S4 at its ceiling: right of the first cell is replaced, nil by the cell itself and then the cell by nil. The cell counts are the pointers found before the first
-- replace, so that nothing but the ceiling fails.
abbrev pub put_in : Packet
put_in = packet 6 1 0 1

abbrev pub taken_out : Packet
taken_out = packet 6 0 1 1

pub record PointerCeiling : Type 0 where
  -- 4,095 pointers pass
  pub passes : pointers_sound (crowded 2047 0 2) [] ≡ true
  -- 4,096 in the table as it stands
  pub last_stage : pointers_sound (crowded 2047 1 2) (put_in ∷ []) ≡ false
  -- 4,096 between the two replaces
  pub other_stage : pointers_sound (crowded 2047 0 2) (put_in ∷ taken_out ∷ []) ≡ false
  pub same_before : (before (crowded 2047 1 2) (put_in ∷ []) ≡ crowded 2047 0 2) × (before (crowded 2047 0 2) (put_in ∷ taken_out ∷ []) ≡ crowded 2047 0 2)
  -- each field holds what it must
  pub undoable_each : (undoable (crowded 2047 1 2) put_in ≡ true) × (undoable (crowded 2047 0 2) taken_out ≡ true)

-- row calls that read, write, reply or queue another word (of the packet a, b or c), or write past the cells
abbrev pub row_entries : List Entry
row_entries =
    gives (lent pairs empty_queue) (row (car 2)) (value 32771) (lent (named_so pairs 0 1) (only (packet 1 2 32771 0)))
    ∷ gives (lent pairs empty_queue) (row (cdr 2)) (value 32772) (lent (named_so pairs 0 1) (only (packet 1 2 32772 0)))
    ∷ gives (lent pairs empty_queue) (row (cons 1 2)) (value 3)
    (lent (table_of 0 0 (cell_of 32769 32770 3 0 1 ∷ cell_of 32771 32772 3 0 1 ∷ cell_of 1 2 1 0 1 ∷ []) (77 ∷ [])) (only (packet 2 1 2 3)))
    ∷ gives (lent pairs empty_queue) (row (set_left 2 1)) (value 32771) (lent (named_so (with_word pairs 2 left 1) 1 1) (only (packet 3 1 32771 2)))
    ∷ gives (lent pairs empty_queue) (row (set_right 2 1)) (value 32772) (lent (named_so (with_word pairs 2 right 1) 1 1) (only (packet 6 1 32772 2)))
    ∷ gives (lent pairs empty_queue) (row (up 2 3)) (value 0) (lent (named_so pairs 0 1) (only (packet 4 2 3 0)))
    ∷ gives (lent pairs empty_queue) (row (down 2 3)) (value 0) (lent (named_so pairs 0 1) (only (packet 5 2 3 0)))
    ∷ []

-- reads of nil that give nil and change nothing
abbrev nil_calls : List Call
nil_calls = row (car 0) ∷ row (cdr 0) ∷ []

abbrev nil_given : Store → List Entry
nil_given s = map (λ call. gives s call (value 0) s) nil_calls

abbrev pub nil_entries : List Entry
nil_entries =
    -- another word replied, a hold asked for, or a packet queued;
    nil_given quiet
    -- an empty slot asked for;
    ++ nil_given busy
    -- a sound store asked for, without packets and with a full queue;
    ++ nil_given (lent damaged empty_queue)
    ++ nil_given (lent damaged full)
    -- question 1 not asked
    ++ refusals 1 [] outside nil_calls

-- fresh with another chain, a word of a cell left, a queue that is not empty, or words past the cells written
abbrev pub fresh_entries : List Entry
fresh_entries =
    gives (lent (replicate 15 5 ++ (77 ∷ [])) full) (fresh 2) (value 0)
    (lent (table_of 1 2 (free_cell 2 ∷ free_cell 0 ∷ []) (77 ∷ [])) empty_queue)
    ∷ []

-- steps, each with a word past the cells and one past the scratch's front that must stand, a front to be cleared and a taken slot to be zero
abbrev pub step_entries : List Entry
step_entries =
    -- idle with a packet waiting, or the packet not applied
    gives (lent (with_word alone 1 name_count 1) (only (packet 4 1 2 0))) step (applied 4 0) (store (with_word alone 1 root_count 3) (placed empty_queue 1 0) (0 ∷ 7 ∷ 9 ∷ []))
    -- nothing freed, another number told, or the roots looked for before the packet is applied
    ∷ gives (lent (with_word alone 1 name_count 1) (only (packet 5 1 1 0))) step (applied 5 1)
    (store (table_of 1 1 (free_cell 0 ∷ []) (77 ∷ [])) (placed empty_queue 1 0) (0 ∷ 7 ∷ 9 ∷ []))
    -- all packets taken at once
    ∷ gives (lent (with_word alone 1 name_count 2) (appended (only (packet 4 1 2 0)) (packet 5 1 3 0))) step (applied 4 0)
    (store (with_word (with_word alone 1 root_count 3) 1 name_count 1) (put_slot empty_queue 1 (packet 5 1 3 0) 1 1) (0 ∷ 7 ∷ 9 ∷ []))
    -- the scratch cleared, or anything else changed, although no packet waits: on a sound store and on another
    ∷ gives (lent alone empty_queue) step idle (lent alone empty_queue)
    ∷ gives (lent (with_word alone 1 state 2) empty_queue) step idle (lent (with_word alone 1 state 2) empty_queue)
    ∷ []

-- steps that let go of a cell on which others hang; four words of scratch are to be cleared
abbrev pub hanging_entries : List Entry
hanging_entries =
    -- the second cell freed although the fourth, which is held, points to it, or the third, which hangs on the second
    gives (store (table_of 0 0 (cell_of 2 0 1 0 1 ∷ cell_of 3 0 0 2 0 ∷ cell_of 0 32775 0 1 0 ∷ cell_of 2 0 1 0 0 ∷ []) (77 ∷ [])) (only (packet 5 1 1 0))
    (7 ∷ 7 ∷ 7 ∷ 7 ∷ 9 ∷ [])) step (applied 5 1)
    (store (table_of 1 1 (free_cell 0 ∷ cell_of 3 0 0 1 0 ∷ cell_of 0 32775 0 1 0 ∷ cell_of 2 0 1 0 0 ∷ []) (77 ∷ [])) (placed empty_queue 1 0)
    (0 ∷ 0 ∷ 0 ∷ 0 ∷ 9 ∷ []))
    -- a root entered: the second cell freed although it is held, or the third, which hangs on it
    ∷ gives (store (table_of 0 0 (cell_of 2 0 1 0 1 ∷ cell_of 3 0 1 1 0 ∷ cell_of 0 0 0 1 0 ∷ []) (77 ∷ [])) (only (packet 5 1 1 0)) (7 ∷ 7 ∷ 7 ∷ 9 ∷ []))
    step (applied 5 1)
    (store (table_of 1 1 (free_cell 0 ∷ cell_of 3 0 1 0 0 ∷ cell_of 0 0 0 1 0 ∷ []) (77 ∷ [])) (placed empty_queue 1 0) (0 ∷ 0 ∷ 0 ∷ 9 ∷ []))
    -- a ring of three cells, given up at the third, kept for its own pointers, its tail dropped, or the four freed in the order in which they are met
    ∷ gives (store (table_of 0 0 (cell_of 2 4 0 1 0 ∷ cell_of 3 0 0 1 0 ∷ cell_of 1 0 1 1 1 ∷ cell_of 0 0 0 1 0 ∷ []) (77 ∷ [])) (only (packet 5 3 1 0))
    (7 ∷ 7 ∷ 7 ∷ 7 ∷ 9 ∷ [])) step (applied 5 4)
    (store (table_of 1 4 (free_cell 2 ∷ free_cell 3 ∷ free_cell 4 ∷ free_cell 0 ∷ []) (77 ∷ [])) (placed empty_queue 1 0)
    (0 ∷ 0 ∷ 0 ∷ 0 ∷ 9 ∷ []))
    ∷ []

-- Warm cells (document 02, A8): where freed cells join the chain.
abbrev pub warm_entries : List Entry
warm_entries =
    -- three cells freed before a chain of one: at its end, the highest first of all, in the order in which they are met, or with the last end moved
    gives (store (table_of 2 2 (cell_of 0 0 0 1 0 ∷ free_cell 0 ∷ cell_of 4 1 1 0 1 ∷ cell_of 0 0 0 1 0 ∷ []) (77 ∷ [])) (only (packet 5 3 1 0))
    (7 ∷ 7 ∷ 7 ∷ 7 ∷ 9 ∷ [])) step (applied 5 3)
    (store (table_of 1 2 (free_cell 3 ∷ free_cell 0 ∷ free_cell 4 ∷ free_cell 2 ∷ []) (77 ∷ [])) (placed empty_queue 1 0) (0 ∷ 0 ∷ 0 ∷ 0 ∷ 9 ∷ []))
    -- a cell freed before a chain of two, whose first an earlier step may have freed: behind that one
    ∷ gives (store (table_of 1 3 (free_cell 3 ∷ cell_of 0 0 1 0 1 ∷ free_cell 0 ∷ []) (77 ∷ [])) (only (packet 5 2 1 0)) (7 ∷ 7 ∷ 7 ∷ 9 ∷ []))
    step (applied 5 1)
    (store (table_of 2 3 (free_cell 3 ∷ free_cell 1 ∷ free_cell 0 ∷ []) (77 ∷ [])) (placed empty_queue 1 0) (0 ∷ 0 ∷ 0 ∷ 9 ∷ []))
    -- two cells freed into an empty chain: the last end 0, or the first of them
    ∷ gives (store (table_of 0 0 (cell_of 2 0 1 0 1 ∷ cell_of 0 0 0 1 0 ∷ []) (77 ∷ [])) (only (packet 5 1 1 0)) (7 ∷ 7 ∷ 9 ∷ [])) step (applied 5 2)
    (store (table_of 1 2 (free_cell 2 ∷ free_cell 0 ∷ []) (77 ∷ [])) (placed empty_queue 1 0) (0 ∷ 0 ∷ 9 ∷ []))
    ∷ []

-- place 63 not followed by 0: a packet taken there, and one appended behind it
abbrev pub ring_entries : List Entry
ring_entries =
    gives (lent (with_word alone 1 name_count 1) (last (packet 4 1 2 0))) step (applied 4 0) (store (with_word alone 1 root_count 3) empty_queue (0 ∷ 7 ∷ 9 ∷ []))
    ∷ gives (lent (with_word alone 1 name_count 1) (last (packet 4 1 2 0))) (row (up 1 3)) (value 0) (lent (with_word alone 1 name_count 2) (put_slot (last (packet 4 1 2 0)) 0 (packet 4 1 3 0) 63 2))
    ∷ []

-- audits that write the table, the queue or past the scratch's front, or leave the front
abbrev pub audit_entries : List Entry
audit_entries =
    gives (lent alone empty_queue) audit sound (store alone empty_queue (0 ∷ 7 ∷ 9 ∷ []))
    ∷ gives (lent (with_word alone 1 name_count 1) (only (packet 4 1 2 0))) audit sound (store (with_word alone 1 name_count 1) (only (packet 4 1 2 0)) (0 ∷ 7 ∷ 9 ∷ []))
    ∷ gives (lent (with_word alone 1 state 2) empty_queue) audit (broken 1) (store (with_word alone 1 state 2) empty_queue (0 ∷ 7 ∷ 9 ∷ []))
    ∷ []

-- an audit blind to a state, a root count, a field that is no cell; to a cell count, and a field that is a free cell
abbrev pub s1_entries : List Entry
s1_entries =
    findings 1 [] (tables (with_word held 1 state 2 ∷ with_word held 1 root_count 4096 ∷ with_word held 1 left 3 ∷ []))
    ++ findings 1 (4 ∷ []) (tables (with_word held 1 cell_count 4096 ∷ with_word held 1 right 2 ∷ []))

abbrev pub s2_entries : List Entry
s2_entries =
    -- to a chain that misses a free cell, ends elsewhere, is a rightRing, goes on to a cell in use or past the cells,
    findings 2 [] (tables (put_ends held 0 2 ∷ put_ends held 2 1 ∷ with_word held 2 left 2 ∷ with_word held 2 left 1 ∷ with_word held 2 left 3 ∷ []))
    -- to a free cell's right word, root count, cell count and name count
    ++ findings 2 [] (tables (with_word held 2 right 5 ∷ with_word held 2 root_count 5 ∷ []))
    ++ findings 2 (4 ∷ []) (tables (with_word held 2 cell_count 5 ∷ []))
    ++ findings 2 (3 ∷ []) (tables (with_word held 2 name_count 1 ∷ with_word held 2 name_count 65535 ∷ []))

abbrev pub s3_entries : List Entry
s3_entries =
    -- to each word of a slot that does not wait,
    findings 3 [] (strays (packet 4 0 0 0 ∷ packet 0 1 0 0 ∷ packet 0 0 1 0 ∷ packet 0 0 0 1 ∷ []))
    -- to kinds 0 and 7, an a that is no cell, a b that is not legal,
    ++ findings 3 [] (waiters (packet 0 0 0 0 ∷ packet 7 0 0 0 ∷ packet 1 0 0 0 ∷ packet 4 0 1 0 ∷ packet 5 0 1 0 ∷ packet 1 1 3 0 ∷ []))
    -- to a c that is not used and not 0, a number that is 0,
    ++ findings 3 [] (waiters (packet 1 1 0 1 ∷ packet 4 1 1 1 ∷ packet 5 1 1 1 ∷ packet 4 1 0 0 ∷ packet 5 1 0 0 ∷ []))
    -- to a word that is a free cell, and to questions 6 and 9 of the replay,
    ++ findings 3 [] (lent (with_word held 1 name_count 1) (only (packet 1 1 2 0)) ∷ waiters (packet 5 1 2 0 ∷ packet 4 1 4095 0 ∷ []))
    -- to a name count, which S1 does not bound, without packets, with one, and with a full queue;
    ++ findings 3 [] (tables (with_word held 1 name_count 1 ∷ with_word held 1 name_count 4096 ∷ with_word held 1 name_count 65535 ∷ []))
    ++ findings 3 [] (lent held (only (packet 4 1 1 0)) ∷ lent (with_word held 1 name_count 2) (only (packet 4 1 1 0)) ∷ lent (with_word held 1 name_count 63) full ∷ lent (with_word held 1 name_count 65) full ∷ [])
    -- or counting a cell once that a packet names twice
    ++ findings 3 [] (lent (with_word (with_word pairs 1 right 1) 1 name_count 1) (only (packet 6 1 32770 1)) ∷ [])

-- to a replaced field that does not hold a, a new cell that does not hold a and b, a cell count that is not the pointers
abbrev pub s4_entries : List Entry
s4_entries =
    findings 4 [] (waiters (packet 3 32768 0 1 ∷ packet 6 32768 0 1 ∷ packet 2 32768 32775 1 ∷ packet 2 0 32768 1 ∷ []))
    ++ findings 4 [] (tables (with_word held 1 cell_count 1 ∷ []))

-- to a cell that only itself points to
abbrev pub s5_entries : List Entry
s5_entries = findings 5 [] (tables (table_of 0 0 (cell_of 1 0 0 1 0 ∷ []) [] ∷ []))

-- Who is named (document 02, A6).
abbrev pub named_entries : List Entry
named_entries =
    -- a cell counted once that a packet names twice: by a cons, by a replace;
    gives (lent pairs empty_queue) (row (cons 1 1)) (value 3)
    (lent (table_of 0 0 (cell_of 32769 32770 3 0 2 ∷ cell_of 32771 32772 3 0 0 ∷ cell_of 1 1 1 0 1 ∷ []) (77 ∷ [])) (only (packet 2 1 1 3)))
    ∷ gives (lent pairs empty_queue) (row (set_right 1 1)) (value 32770) (lent (named_so (with_word pairs 1 right 1) 2 0) (only (packet 6 1 32770 1)))
    -- the word read or detached not counted;
    ∷ gives (lent ring empty_queue) (row (car 1)) (value 2) (lent (named_so ring 1 1) (only (packet 1 1 2 0)))
    ∷ gives (lent ring empty_queue) (row (set_left 1 0)) (value 2) (lent (named_so (with_word ring 1 left 0) 1 1) (only (packet 3 0 2 1)))
    -- the number of an up or a down counted as a cell;
    ∷ gives (lent pairs empty_queue) (row (up 2 1)) (value 0) (lent (named_so pairs 0 1) (only (packet 4 2 1 0)))
    ∷ gives (lent pairs empty_queue) (row (down 2 1)) (value 0) (lent (named_so pairs 0 1) (only (packet 5 2 1 0)))
    -- a name count left when the packet is taken, or lowered once for two places, or for another packet's;
    ∷ gives (lent (named_so (with_word pairs 1 right 1) 2 0) (only (packet 6 1 32770 1))) step (applied 6 0)
    (store (with_word (with_word (with_word pairs 1 right 1) 1 root_count 2) 1 cell_count 1) (placed empty_queue 1 0) (0 ∷ 0 ∷ 0 ∷ []))
    -- a root told by the root count alone: a cell freed, or found unreached, that only a waiting packet names
    ∷ gives named_only step (applied 4 0)
    (store (table_of 0 0 (cell_of 0 0 0 0 1 ∷ cell_of 0 0 2 0 1 ∷ []) []) (put_slot empty_queue 1 (packet 1 2 1 0) 1 1) (0 ∷ 0 ∷ []))
    ∷ gives named_only audit sound named_only
    ∷ []

-- three free cells
abbrev clear : List ℕ
clear = table_of 1 3 (free_cell 2 ∷ free_cell 3 ∷ free_cell 0 ∷ []) (77 ∷ [])

-- Rule text (document 02, A4).
abbrev pub text_entries : List Entry
text_entries =
    -- pairs built first to last, or with their parts exchanged; a reader that gains no hold, or one of each cell; one that queues nothing
    gives (lent clear empty_queue) (read (ascii "(1 2)")) (value 2)
    (lent (table_of 3 3 (cell_of 32770 0 1 0 2 ∷ cell_of 32769 1 1 0 1 ∷ free_cell 0 ∷ []) (77 ∷ [])) (appended (only (packet 2 32770 0 1)) (packet 2 32769 1 2)))
    -- what the second element needs built before what the first needs
    ∷ gives (lent clear empty_queue) (read (ascii "((1) . (2))")) (value 3)
    (lent (table_of 0 0 (cell_of 32769 0 1 0 2 ∷ cell_of 32770 0 1 0 2 ∷ cell_of 1 2 1 0 1 ∷ []) (77 ∷ []))
    (appended (appended (only (packet 2 32769 0 1)) (packet 2 32770 0 2)) (packet 2 1 2 3)))
    -- a text without pairs refused for want of a slot or of a cell
    ∷ gives busy (read (ascii "7")) (value 32775) busy
    ∷ gives (lent alone empty_queue) (read (ascii "()")) (value 0) (lent alone empty_queue)
    -- cells taken although there is no slot, or none free for one pair of two; 7 after 8
    ∷ refuses busy (read (ascii "(1)")) 7 []
    ∷ refuses quiet (read (ascii "(1 2)")) 8 []
    ∷ refuses busy (read (ascii "(1 2)")) 7 (8 ∷ [])
    -- a text outside the notation taken, or judged before question 1
    ∷ refuses quiet (read (ascii "(1 . 2 3)")) 11 []
    ∷ refuses outside (read (ascii "(1")) 1 (11 ∷ [])
    -- a writer that drops the dot or a bracket, gives up the hold, or wants room behind the text
    ∷ gives quiet (write 1 8) (text (ascii "(() . 7)")) quiet
    -- one that fits a text into too little room; that writes a cell which is not held, or a word that is not legal
    ∷ refuses quiet (write 1 7) 13 []
    ∷ refuses quiet (write 2 9) 6 []
    ∷ refuses quiet (write 2 0) 6 (13 ∷ [])
    ∷ refuses quiet (write 3 9) 4 []
    -- a hold asked of nil, and a slot; a hold told by the root count alone
    ∷ gives busy (write 0 2) (text (ascii "()")) busy
    ∷ gives named_only (write 1 4) (text (ascii "(())")) named_only
    ∷ []

-- two cells in a ring by their right words
abbrev right_ring : List ℕ
right_ring = table_of 0 0 (cell_of 32769 2 1 1 0 ∷ cell_of 32770 1 0 1 0 ∷ []) []

-- n free cells from the number x on, each leading on to the next
abbrev free_cells : ℕ → ℕ → List (List ℕ)
free_cells x zero = []
free_cells x (suc zero) = free_cell 0 ∷ []
free_cells x (suc (suc n)) = free_cell (suc x) ∷ free_cells (suc x) (suc n)

-- a table of 32 free cells
abbrev all_free : List ℕ
all_free = table_of 1 32 (free_cells 1 32) []

-- so many spaces before the text of nil
abbrev pub spaced : ℕ → List ℕ
spaced n = replicate n 32 ++ ascii "()"

-- The borders of a text (document 02, A4).
abbrev pub border_entries : List Entry
border_entries =
    -- a ring written: by its right words its text never ends;
    refuses (lent right_ring empty_queue) (write 1 6) 13 []
    -- a word written otherwise on a store that passes question 1 and not the audit, where writing is decided too;
    ∷ gives (lent damaged empty_queue) (write 1 8) (text (ascii "(() . 7)")) (lent damaged empty_queue)
    ∷ refuses (lent damaged empty_queue) (write 1 7) 13 []
    -- a text of 33 brackets read, though there are slots and cells for its pairs
    ∷ refuses (lent all_free empty_queue) (read (replicate 33 40 ++ replicate 33 41)) 12 []
    ∷ []

-- Clipped readings (document 02, A5).
abbrev pub clipped_entries : List Entry
clipped_entries =
    -- an atom of value 4,095 or more put into a cell,
    refusals 14 [] quiet (row (cons 36863 0) ∷ row (cons 0 36863) ∷ row (cons 1 65535) ∷ [])
    ++ refusals 14 [] quiet (row (set_left 1 36863) ∷ row (set_right 1 36863) ∷ row (set_right 1 65535) ∷ [])
    ++ refusals 14 [] quiet (map read (ascii "4095" ∷ ascii "(4095)" ∷ ascii "(1 . 4095)" ∷ ascii "(32767 . 1)" ∷ []))
    -- also on a store that passes question 1 and not the audit
    ++ refusals 14 [] (lent damaged empty_queue) (row (cons 36863 0) ∷ row (set_left 1 36863) ∷ row (set_right 1 36863) ∷ read (ascii "(4095)") ∷ [])

-- 14 before 1, 4, 5 or 12, or after 6, 7 or 8; or asked of x
abbrev pub clip_order_entries : List Entry
clip_order_entries =
    refuses outside (row (cons 36863 0)) 1 (14 ∷ [])
    ∷ refuses outside (read (ascii "4095")) 1 (14 ∷ [])
    ∷ refuses quiet (row (cons 3 36863)) 4 (14 ∷ [])
    ∷ refuses quiet (row (set_left 0 36863)) 5 (14 ∷ [])
    ∷ refuses quiet (row (set_right 32775 36863)) 5 (14 ∷ [])
    ∷ refuses quiet (read (replicate 33 40 ++ ascii "4095" ++ replicate 33 41)) 12 (14 ∷ 8 ∷ [])
    ∷ refuses quiet (row (cons 36863 2)) 14 (6 ∷ [])
    ∷ refuses quiet (row (set_left 2 36863)) 14 (6 ∷ [])
    ∷ refuses busy (row (cons 36863 0)) 14 (7 ∷ [])
    ∷ refuses busy (row (set_right 1 36863)) 14 (7 ∷ [])
    ∷ refuses busy (read (ascii "(4095)")) 14 (7 ∷ [])
    ∷ refuses (lent alone empty_queue) (row (cons 0 36863)) 14 (8 ∷ [])
    ∷ refuses (lent alone empty_queue) (read (ascii "(4095)")) 14 (8 ∷ [])
    ∷ refusals 5 [] quiet (row (set_left 36863 1) ∷ row (set_right 36863 1) ∷ row (car 36863) ∷ row (cdr 36863) ∷ row (up 36863 1) ∷ row (down 36863 1) ∷ [])

-- one cell that already contains clipped readings, and a free one
abbrev clipped : List ℕ
clipped = with_word (with_word held 1 left 36863) 1 right 65535

abbrev pub unclipped_entries : List Entry
unclipped_entries =
    -- an atom of value 4,094 refused, or 14 asked of a number;
    gives quiet (row (cons 36862 36862)) (value 2)
    (lent (table_of 0 0 (cell_of 0 32775 1 0 0 ∷ cell_of 36862 36862 1 0 1 ∷ []) (77 ∷ [])) (only (packet 2 36862 36862 2)))
    ∷ gives quiet (row (set_left 1 36862)) (value 0) (lent (named_so (with_word held 1 left 36862) 1 0) (only (packet 3 36862 0 1)))
    ∷ gives quiet (row (set_right 1 36862)) (value 32775) (lent (named_so (with_word held 1 right 36862) 1 0) (only (packet 6 36862 32775 1)))
    ∷ gives quiet (read (ascii "4094")) (value 36862) quiet
    ∷ gives quiet (read (ascii "(4094)")) (value 2) (lent (table_of 0 0 (cell_of 0 32775 1 0 0 ∷ cell_of 36862 0 1 0 1 ∷ []) (77 ∷ [])) (only (packet 2 36862 0 2)))
    ∷ gives (lent ring empty_queue) (row (down 1 4095)) (value 0) (lent (named_so ring 1 0) (only (packet 5 1 4095 0)))
    -- a store that already contains such atoms not sound, or another word than its own read, written, detached or freed
    ∷ gives (lent clipped empty_queue) audit sound (store clipped empty_queue (0 ∷ 0 ∷ 9 ∷ []))
    ∷ gives (lent clipped empty_queue) (row (car 1)) (value 36863) (lent (named_so clipped 1 0) (only (packet 1 1 36863 0)))
    ∷ gives (lent clipped empty_queue) (row (cdr 1)) (value 65535) (lent (named_so clipped 1 0) (only (packet 1 1 65535 0)))
    ∷ gives (lent clipped empty_queue) (write 1 14) (text (ascii "(4095 . 32767)")) (lent clipped empty_queue)
    ∷ gives quiet (write 36863 4) (text (ascii "4095")) quiet
    ∷ gives (lent clipped empty_queue) (row (set_left 1 0)) (value 36863) (lent (named_so (with_word clipped 1 left 0) 1 0) (only (packet 3 0 36863 1)))
    ∷ gives (lent (named_so clipped 1 0) (only (packet 5 1 1 0))) step (applied 5 1)
    (store (table_of 1 2 (free_cell 2 ∷ free_cell 0 ∷ []) (77 ∷ [])) (placed empty_queue 1 0) (0 ∷ 0 ∷ 9 ∷ []))
    ∷ []

-- What no paper decides is how a call ends on a store that passes question 1 and not the audit; what must hold there anyway:
pub record OnDamaged : Type 0 where
  -- a step that passes questions 1 and 2 refuses with no number, though a packet waits
  pub step_refuses : (n : ℕ) (s' : Store) → Promise (lent damaged (only (packet 4 1 1 0))) step (refused n) s' → ⊥
  -- a row call refuses with 6 to 10 and no other number: an up with 6, 7, 9 or 10, a cons with 8 too
  pub row_refuses : (n : ℕ) (s' : Store) → Promise (lent damaged empty_queue) (row (up 1 1)) (refused n) s' → contains (6 ∷ 7 ∷ 9 ∷ 10 ∷ []) n ≡ true
  pub cons_refuses : (n : ℕ) (s' : Store) → Promise (lent damaged empty_queue) (row (cons 0 0)) (refused n) s' → contains (6 ∷ 7 ∷ 8 ∷ 9 ∷ 10 ∷ []) n ≡ true
  -- a refused call changes nothing
  pub refused_stands : (n : ℕ) (s' : Store) → Promise (lent damaged empty_queue) (row (up 1 1)) (refused n) s' → s' ≡ lent damaged empty_queue
  -- no call but fresh writes past the cells, whatever it replies and whatever else it leaves
  pub row_past : (r : Reply) (s' : Store) → drop (table_length 2) s'.table ≡ 78 ∷ [] → Promise (lent damaged empty_queue) (row (up 1 1)) r s' → ⊥
  pub step_past : (r : Reply) (s' : Store) → drop (table_length 2) s'.table ≡ 78 ∷ [] → Promise (lent damaged (only (packet 4 1 1 0))) step r s' → ⊥
  pub read_past : (r : Reply) (s' : Store) → drop (table_length 2) s'.table ≡ 78 ∷ [] → Promise (lent damaged empty_queue) (read (ascii "(1)")) r s' → ⊥
  -- nor past the scratch that a step needs
  pub scratch_past : (r : Reply) (s' : Store) → drop 2 s'.scratch ≡ 8 ∷ [] → Promise (lent damaged (only (packet 4 1 1 0))) step r s' → ⊥

pub record WrongAnswers : Type 0 where
  -- for any store and call where the papers decide
  pub first_no_lem : (s : Store) (call : Call) (n : ℕ) (ns : List ℕ) → Decided s call → noes (questions s call) ≡ suc n ∷ ns
      → OnlyAnswer s call (refused (suc n)) s
  -- for any read of nil, on any store that passes question 1
  pub nil_reads : (s : Store) (r : RowCall) → reads_nil r ≡ true → in_range s.table s.queue ≡ true → OnlyAnswer s (row r) (value 0) s
  -- for any store whose table has room for 4,096 cells
  pub fresh_most : (s : Store) → table_length 4096 ≤ length s.table → OnlyAnswer s (fresh 4096) (value 0) (store (fresh_table 4096 s.table) empty_queue s.scratch)
  -- for any store that passes question 1: a text of 4,096 bytes is read, one of 4,097 is refused by its length alone
  pub longest_text : (s : Store) → in_range s.table s.queue ≡ true → OnlyAnswer s (read (spaced 4094)) (value 0) s
  pub too_long_text : (s : Store) → in_range s.table s.queue ≡ true → noes (questions s (read (spaced 4095))) ≡ 11 ∷ []
  pub too_long_refused : (s : Store) → in_range s.table s.queue ≡ true → OnlyAnswer s (read (spaced 4095)) (refused 11) s
  -- a ring by the left words: 12 is met at the 33rd bracket, where it has room and where it has none; 13 where room ends earlier
  pub ring_deep : (room : ℕ) → 32 ≤ room → OnlyAnswer (lent ring empty_queue) (write 1 room) (refused 12) (lent ring empty_queue)
  pub ring_short : (room : ℕ) → room < 32 → OnlyAnswer (lent ring empty_queue) (write 1 room) (refused 13) (lent ring empty_queue)
  pub range : AllOnly range_entries
  pub skipped : AllOnly skipped_entries
  pub damaged : AllOnly damaged_entries
  pub on_damaged : OnDamaged
  -- the part of a buffer of eight bytes that writing hands back: one that begins elsewhere, or has other bytes; of seven, where it is refused, one that is not empty
  pub handed : (buffer begin : ℕ × ℕ) (part : List ℕ) → TextHanded quiet 1 8 buffer begin part → (begin ≡ buffer) × (part ≡ ascii "(() . 7)")
  pub handed_none : (buffer begin : ℕ × ℕ) (part : List ℕ) → TextHanded quiet 1 7 buffer begin part → (begin ≡ buffer) × (part ≡ [])
  pub pointers : AllOnly pointer_entries
  pub ceiling : PointerCeiling
  pub order : AllOnly order_entries
  pub rows : AllOnly row_entries
  pub nils : AllOnly nil_entries
  pub texts : AllOnly text_entries
  pub borders : AllOnly border_entries
  pub clipped : AllOnly clipped_entries
  pub clip_order : AllOnly clip_order_entries
  pub unclipped : AllOnly unclipped_entries
  pub names : AllOnly named_entries
  pub freshes : AllOnly fresh_entries
  pub steps : AllOnly step_entries
  pub hanging : AllOnly hanging_entries
  pub warm : AllOnly warm_entries
  pub place_63 : AllOnly ring_entries
  pub audits : AllOnly audit_entries
  pub S1 : AllOnly s1_entries
  pub S2 : AllOnly s2_entries
  pub S3 : AllOnly s3_entries
  pub S4 : AllOnly s4_entries
  pub S5 : AllOnly s5_entries
