-- Worked lists of roster calls as one table: C, calls, and the reply to each, on a list that begins empty; and calls with their questions as another. That
-- they hold is `cases`, `questions` and `codes` in proofs/Cases.
use Rattle.std.specs.Prelude.{◌≡◌, List, [], ◌∷◌, ℕ, Some, None, Ok, Err, replicate}
use Rattle.machine.specs.declared.Refusal.TheVariants.{SeatOutOfRange}
use Rattle.machine.specs.Table.{capacity, table_length, scratch_words}
use Rattle.machine.specs.Queue.{empty_queue}
use Rattle.machine.specs.Calls.{Store, store, fresh_table}
use Rattle.machine.specs.Questions.{first_no}
use Rattle.readings.specs.Readings.{Entry}
use Rattle.readings.specs.Calls.{RosterCall, set, look_up, remove, count, RosterReply, value, absent, refused, early_roster}
use Rattle.readings.specs.Answers.{answered, refused_or, roster_reply}

-- the replies to calls that pass the early questions
unfoldable pub replies : ℕ → List Entry → List RosterCall → List RosterReply
replies c es [] = []
replies c es (k ∷ ks) = (answered c es k).reply ∷ replies c (answered c es k).entries ks

pub record Case : Type 0 where
  pub cells : ℕ
  pub calls : List RosterCall
  pub expected : List RosterReply

abbrev works : ℕ → List RosterCall → List RosterReply → Case
works c calls rs = record { cells = c; calls = calls; expected = rs }

abbrev pub Holds : List Case → Type 0
Holds [] = Unit {0}
Holds (k ∷ ks) = (replies k.cells [] k.calls ≡ k.expected) × Holds ks

abbrev pub worked : List Case
worked =
    -- a seat is found wherever it is in the list, by its last reading alone; others are absent
    works 8 (set 7 120 ∷ set 600 0 ∷ set 7 121 ∷ look_up 7 ∷ look_up 600 ∷ look_up 1 ∷ [])
    (value 0 ∷ value 0 ∷ value 0 ∷ value 121 ∷ value 0 ∷ absent ∷ [])
    -- removed from the front, the middle and the end; a second time it is absent
    ∷ works 8 (set 1 5 ∷ set 2 6 ∷ set 3 7 ∷ remove 2 ∷ look_up 2 ∷ remove 1 ∷ remove 3 ∷ remove 3 ∷ count 0 ∷ [])
    (value 0 ∷ value 0 ∷ value 0 ∷ value 0 ∷ absent ∷ value 0 ∷ value 0 ∷ absent ∷ value 0 ∷ [])
    -- at or above, by the reading and not by its atom
    ∷ works 8 (set 1 0 ∷ set 2 4094 ∷ set 3 10 ∷ count 0 ∷ count 10 ∷ count 11 ∷ count 4094 ∷ count 4095 ∷ count 32768 ∷ count 65535 ∷ [])
    (value 0 ∷ value 0 ∷ value 0 ∷ value 3 ∷ value 2 ∷ value 1 ∷ value 1 ∷ value 0 ∷ value 0 ∷ value 0 ∷ [])
    -- 8 exactly where the seat is new and fewer than two cells are left
    ∷ works 1 (set 1 5 ∷ look_up 1 ∷ count 0 ∷ []) (refused 8 ∷ absent ∷ value 0 ∷ [])
    ∷ works 2 (set 1 5 ∷ set 2 6 ∷ set 1 7 ∷ look_up 1 ∷ remove 1 ∷ set 2 6 ∷ look_up 2 ∷ [])
    (value 0 ∷ refused 8 ∷ value 0 ∷ value 7 ∷ value 0 ∷ value 0 ∷ value 6 ∷ [])
    ∷ works 3 (set 1 5 ∷ set 2 6 ∷ look_up 2 ∷ count 0 ∷ []) (value 0 ∷ refused 8 ∷ absent ∷ value 1 ∷ [])
    ∷ works 4 (set 1 5 ∷ set 2 6 ∷ set 3 7 ∷ count 6 ∷ []) (value 0 ∷ value 0 ∷ refused 8 ∷ value 1 ∷ [])
    -- the manual's
    ∷ works 4 (set 7 120 ∷ set 600 4094 ∷ set 1 5 ∷ set 7 121 ∷ count 121 ∷ count 122 ∷ look_up 1 ∷ remove 600 ∷ set 1 5 ∷ look_up 7 ∷ [])
    (value 0 ∷ value 0 ∷ refused 8 ∷ value 0 ∷ value 2 ∷ value 1 ∷ absent ∷ value 0 ∷ value 0 ∷ value 121 ∷ [])
    ∷ []

-- the reply to a call, its early questions asked first, where the plain list is empty
unfoldable pub asked : Store → RosterCall → RosterReply
asked s call = (refused_or (first_no (early_roster s call)) [] (answered (capacity s.table) [] call)).reply

-- a table of zeros; a new store of one cell, lent no scratch, and lent enough
abbrev unmade : Store
unmade = store (replicate (table_length 1) 0) empty_queue []

abbrev short : Store
short = store (fresh_table 1 (replicate (table_length 1) 0)) empty_queue []

abbrev ready : Store
ready = store (fresh_table 1 (replicate (table_length 1) 0)) empty_queue (replicate (scratch_words 1) 7)

pub record Asking : Type 0 where
  pub store : Store
  pub call : RosterCall
  pub expected : RosterReply

abbrev asks : Store → RosterCall → RosterReply → Asking
asks s call r = record { store = s; call = call; expected = r }

abbrev pub Answered : List Asking → Type 0
Answered [] = Unit {0}
Answered (k ∷ ks) = (asked k.store k.call ≡ k.expected) × Answered ks

abbrev pub questioned : List Asking
questioned =
    -- 15 before 1
    asks unmade (look_up 0) (refused 15)
    ∷ asks unmade (remove 601) (refused 15)
    ∷ asks unmade (set 0 65535) (refused 15)
    -- 1 before 4, and of a count first
    ∷ asks unmade (look_up 1) (refused 1)
    ∷ asks unmade (set 600 65535) (refused 1)
    ∷ asks unmade (count 0) (refused 1)
    -- 2 before 4
    ∷ asks short (set 601 65535) (refused 15)
    ∷ asks short (remove 600) (refused 2)
    ∷ asks short (set 1 65535) (refused 2)
    ∷ asks short (count 65535) (refused 2)
    -- 4 and 14 at their borders, before 8
    ∷ asks ready (set 600 65535) (refused 4)
    ∷ asks ready (set 600 32768) (refused 4)
    ∷ asks ready (set 600 32767) (refused 14)
    ∷ asks ready (set 1 4095) (refused 14)
    ∷ asks ready (set 1 4094) (refused 8)
    ∷ asks ready (look_up 601) (refused 15)
    ∷ asks ready (look_up 600) absent
    ∷ asks ready (count 0) (value 0)
    ∷ []

-- the code's answers
abbrev pub Coded : Type 0
Coded = (roster_reply (Ok (Some 7)) ≡ value 7) × (roster_reply (Ok None) ≡ absent) × (roster_reply (Err SeatOutOfRange) ≡ refused 15)
