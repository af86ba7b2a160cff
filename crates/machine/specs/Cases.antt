-- The worked cases of document 01, K1 to K11 and the full queue, as one table of the machine's definition, with what
-- document 02 amends: K11 by A1, K1's table by A8. And cases that tell the machine from slips which K1 to K11 do not show.
-- Each is proved by computation.
use Rattle.std.specs.Prelude.{◌≡◌, List, [], ◌∷◌, ◌++◌, ℕ, replicate}
use Rattle.machine.specs.declared.Queue.{Queue}
use Rattle.machine.specs.Table.{table_length, free_cell}
use Rattle.machine.specs.Queue.{packet, empty_queue, appended}
use Rattle.machine.specs.Calls.{Call, fresh, row, step, audit, car, cdr, cons, set_left, set_right, up, down}
use Rattle.machine.specs.Calls.{Reply, value, refused, idle, applied, sound, broken, Store, store}
use Rattle.machine.specs.Machine.{run, replies}
use Rattle.machine.specs.Worked.{table_of, cell_of}

-- a store before its first fresh, its table long enough for three cells, and a used scratch of four words
abbrev pub unmade : Store
unmade = store (replicate (table_length 3) 0) empty_queue (7 ∷ 7 ∷ 7 ∷ 9 ∷ [])

-- calls and the replies they get, from a store
pub record Case : Type 0 where
  pub start : Store
  pub calls : List Call
  pub expected : List Reply

abbrev pub Holds : Case → Type 0
Holds k = replies k.start k.calls ≡ k.expected

abbrev pub AllHold : List Case → Type 0
AllHold [] = Unit {0}
AllHold (k ∷ ks) = Holds k × AllHold ks

abbrev case : List Call → List Reply → Case
case cs rs = record { start = unmade; calls = cs; expected = rs }

-- "each in a fresh store of 3 after `cons 0 32775`"
abbrev after_cons : List Call → List Reply → Case
after_cons cs rs = case (fresh 3 ∷ row (cons 0 32775) ∷ cs) (value 0 ∷ value 1 ∷ rs)

abbrev pub k1_calls : List Call
k1_calls =
    fresh 3 ∷ row (cons 0 32775) ∷ row (cons 1 0) ∷ row (up 2 1) ∷ row (set_right 2 2) ∷ row (down 2 1)
    ∷ step ∷ step ∷ step ∷ step ∷ step ∷ step ∷ []

abbrev pub k1_replies : List Reply
k1_replies =
    value 0 ∷ value 1 ∷ value 2 ∷ value 0 ∷ value 0 ∷ value 0
    ∷ applied 2 0 ∷ applied 2 0 ∷ applied 4 0 ∷ applied 6 0 ∷ applied 5 2 ∷ idle ∷ []

abbrev pub k1_table : List ℕ
k1_table = table_of 1 3 (free_cell 2 ∷ free_cell 3 ∷ free_cell 0 ∷ []) []

-- these calls with 64 packets waiting and no cell free
abbrev when_full : List Call → List Reply → Case
when_full cs rs = case (fresh 1 ∷ row (cons 0 0) ∷ replicate 63 (row (up 1 1)) ++ cs) (value 0 ∷ value 1 ∷ replicate 63 (value 0) ++ rs)

-- a cons is NO 7, though question 8 fails too
abbrev full_queue : Case
full_queue = when_full (row (cons 0 0) ∷ []) (refused 7 ∷ [])

abbrev pub k_cases : List Case
k_cases =
    case k1_calls k1_replies
    ∷ after_cons (row (up 1 4094) ∷ row (up 1 1) ∷ []) (value 0 ∷ refused 9 ∷ [])
    ∷ after_cons (row (up 1 0) ∷ []) (refused 3 ∷ [])
    ∷ after_cons (row (set_right 1 1) ∷ []) (refused 6 ∷ [])
    ∷ after_cons (row (cons 1 1) ∷ []) (refused 6 ∷ [])
    ∷ after_cons (row (cons 3 0) ∷ []) (refused 6 ∷ [])
    ∷ after_cons (row (cons 4 0) ∷ []) (refused 4 ∷ [])
    ∷ after_cons (row (car 32775) ∷ []) (refused 5 ∷ [])
    ∷ after_cons (row (cdr 1) ∷ step ∷ step ∷ []) (value 32775 ∷ applied 2 0 ∷ applied 1 1 ∷ [])
    ∷ after_cons (row (car 0) ∷ []) (value 0 ∷ [])
    ∷ full_queue
    ∷ []

-- K1 to K11 and the full queue
pub record K-table : Type 0 where
  pub replies : AllHold k_cases
  pub k1_ends : (run unmade k1_calls).table ≡ k1_table

-- car, cdr and both replaces with the words they answer, on a cell that is held often enough
abbrev values : Case
values =
    after_cons (row (up 1 5) ∷ row (car 1) ∷ row (cdr 1) ∷ row (set_left 1 32769) ∷ row (set_right 1 1) ∷ row (car 1) ∷ row (cdr 1) ∷ audit ∷ [])
    (value 0 ∷ value 0 ∷ value 32775 ∷ value 0 ∷ value 32775 ∷ value 32769 ∷ value 1 ∷ sound ∷ [])

-- a replace that detaches a held cell: its cell count falls, and its root count stands (figure 8)
abbrev pub detach_calls : List Call
detach_calls =
    fresh 3 ∷ row (cons 0 0) ∷ row (up 1 1) ∷ row (cons 1 0) ∷ row (set_left 2 0) ∷ step ∷ step ∷ step ∷ step ∷ audit ∷ []

abbrev pub detach_replies : List Reply
detach_replies =
    value 0 ∷ value 1 ∷ value 0 ∷ value 2 ∷ value 1 ∷ applied 2 0 ∷ applied 4 0 ∷ applied 2 0 ∷ applied 3 0 ∷ sound ∷ []

abbrev pub detach_table : List ℕ
detach_table = table_of 3 3 (cell_of 0 0 1 0 0 ∷ cell_of 0 0 1 0 0 ∷ free_cell 0 ∷ []) []

-- a sound store of two cells in which only a waiting packet of kind 1 names cell 1 (figure 9): a step does not free it
abbrev pub named_only : Store
named_only =
    store (table_of 0 0 (cell_of 0 0 0 0 1 ∷ cell_of 0 0 1 0 2 ∷ []) [])
    (appended (appended empty_queue (packet 4 2 1 0)) (packet 1 2 1 0)) (0 ∷ 0 ∷ [])

abbrev protected : Case
protected = record {
  start = named_only;
  calls = audit ∷ step ∷ audit ∷ step ∷ audit ∷ step ∷ [];
  expected = sound ∷ applied 4 0 ∷ sound ∷ applied 1 0 ∷ sound ∷ idle ∷ [];
}

-- one call on a store of one cell whose words are given, with the ends and the queue
abbrev audits : List ℕ → Queue → Reply → Case
audits t q r = record { start = store t q (5 ∷ []); calls = audit ∷ []; expected = r ∷ [] }

-- audits that name each rule: a count past the ceiling and a field that points to a free cell; a free cell that the chain misses; a
-- waiting packet whose cell is not held; a cell count that is not the pointers; a cell in use that nothing reaches
abbrev audit_cases : List Case
audit_cases =
    audits (table_of 0 0 (cell_of 0 0 4096 0 0 ∷ []) []) empty_queue (broken 1)
    ∷ audits (table_of 0 0 (cell_of 0 0 4095 0 0 ∷ []) []) empty_queue sound
    ∷ audits (table_of 0 0 (cell_of 2 0 1 0 0 ∷ []) []) empty_queue (broken 1)
    ∷ audits (table_of 0 0 (free_cell 0 ∷ []) []) empty_queue (broken 2)
    ∷ audits (table_of 1 1 (free_cell 1 ∷ []) []) empty_queue (broken 2)
    ∷ audits (table_of 0 0 (cell_of 0 0 1 0 1 ∷ []) []) (appended empty_queue (packet 5 1 2 0)) (broken 3)
    ∷ audits (table_of 0 0 (cell_of 0 0 1 1 0 ∷ []) []) empty_queue (broken 4)
    ∷ audits (table_of 0 0 (cell_of 1 0 0 1 0 ∷ []) []) empty_queue (broken 5)
    ∷ []

-- the walk of a list of three with cdr to its end, and one read past it; the packets of the cons calls and of three reads are all that wait
abbrev walk_of_three : Case
walk_of_three =
    case
    (fresh 3 ∷ row (cons 32769 0) ∷ row (cons 32770 1) ∷ row (cons 32771 2) ∷ row (cdr 3) ∷ row (cdr 2) ∷ row (cdr 1) ∷ row (cdr 0) ∷ audit
    ∷ step ∷ step ∷ step ∷ step ∷ step ∷ step ∷ step ∷ [])
    (value 0 ∷ value 1 ∷ value 2 ∷ value 3 ∷ value 2 ∷ value 1 ∷ value 0 ∷ value 0 ∷ sound
    ∷ applied 2 0 ∷ applied 2 0 ∷ applied 2 0 ∷ applied 1 1 ∷ applied 1 1 ∷ applied 1 1 ∷ idle ∷ [])

-- reads of nil: with 64 packets waiting; with no cell in use, where no other call takes nil for x, and none waits afterwards; before a fresh
abbrev nil_reads : List Case
nil_reads =
    when_full (row (car 0) ∷ row (cdr 0) ∷ row (car 1) ∷ []) (value 0 ∷ value 0 ∷ refused 7 ∷ [])
    ∷ case (fresh 3 ∷ row (car 0) ∷ row (cdr 0) ∷ row (up 0 1) ∷ row (set_left 0 0) ∷ step ∷ [])
    (value 0 ∷ value 0 ∷ value 0 ∷ refused 5 ∷ refused 5 ∷ idle ∷ [])
    ∷ case (row (car 0) ∷ row (cdr 0) ∷ []) (refused 1 ∷ refused 1 ∷ [])
    ∷ walk_of_three
    ∷ []

-- two cells freed in two steps and taken again: the one freed last comes first, and both before a cell that was never used
abbrev warm_cells : Case
warm_cells =
    case
    (fresh 3 ∷ row (cons 0 0) ∷ row (cons 0 0) ∷ row (down 1 1) ∷ row (down 2 1) ∷ step ∷ step ∷ step ∷ step
    ∷ row (cons 0 0) ∷ row (cons 0 0) ∷ row (cons 0 0) ∷ [])
    (value 0 ∷ value 1 ∷ value 2 ∷ value 0 ∷ value 0 ∷ applied 2 0 ∷ applied 2 0 ∷ applied 5 1 ∷ applied 5 1 ∷ value 2 ∷ value 1 ∷ value 3 ∷ [])

pub record More-cases : Type 0 where
  pub replies : AllHold (values ∷ case detach_calls detach_replies ∷ protected ∷ warm_cells ∷ audit_cases)
  pub nil_reads : AllHold nil_reads
  pub detach_ends : (run unmade detach_calls).table ≡ detach_table
