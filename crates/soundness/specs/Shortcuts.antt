-- "Shortcuts that lose cells": beside the right machine a variant for each, one with no protection by packets at all, one that frees nothing, and one
-- whose packets protect for good, with a short list of calls from fresh after which it breaks a named clause of demand 3. Proved by computation in proofs/ShortcutsBite.
use Rattle.std.specs.Prelude.{Bool, cond, not, ◌&&◌, ◌||◌, List, [], ◌∷◌, ℕ, suc, pred, ◌+◌, ◌-◌, min, ltb, eqb}
use Rattle.machine.specs.declared.Queue.{Queue}
use Rattle.machine.specs.Range.{every, select}
use Rattle.machine.specs.Words.{is_cell, ceiling}
use Rattle.machine.specs.Table.{root_count, cell_count, capacity, word_at, put_word, in_use}
use Rattle.machine.specs.Queue.{waiting}
use Rattle.machine.specs.Packets.{Direction, plus, minus, Change, changes, uses}
use Rattle.machine.specs.Counts.{held_at_least}
use Rattle.machine.specs.Reached.{points_to, reached_by}
use Rattle.machine.specs.Calls.{Call, fresh, row, step, audit, read, write, car, cons, set_left, set_right, up, down, Store, packet_of}
use Rattle.machine.specs.Step.{counter_word, move_count, apply_changes, named, apply_packet, unreached, join_all, swept}
use Rattle.machine.specs.Questions.{Question, ask, questions}
use Rattle.machine.specs.Cases.{unmade}
use Rattle.soundness.specs.Demand3.{Holds, table_after, queue_after, holds_after, NoneOwed, RootsAreHolds, CellsArePointers, NoneLost, NoneLeft, ExactWhenDone, AuditsSound}
use Rattle.soundness.specs.Links.{links_of}
use Rattle.soundness.specs.Variants.{Parts, applying, machine_of}

-- a list of calls breaks a clause under a variant
abbrev pub Breaks : Parts → List Call → (List ℕ → Queue → (ℕ → Holds) → Type 0) → Type 0
Breaks m calls clause =
    clause (table_after unmade.table (links_of (machine_of m) unmade calls)) (queue_after unmade.queue (links_of (machine_of m) unmade calls))
    (holds_after (links_of (machine_of m) unmade calls))
    → ⊥

-- "Holding a counter at 4,095 and counting down from there": no question 9, and a raising stops at the ceiling.
abbrev shifted_held : Direction → ℕ → ℕ → ℕ
shifted_held plus count n = min (count + n) ceiling
shifted_held minus count n = count - n

unfoldable pub apply_held : List ℕ → List Change → List ℕ
apply_held t [] = t
apply_held t (h ∷ hs) =
    apply_held (cond (is_cell (capacity t) h.word)
    (put_word t (pred h.word) (counter_word h.counter) (shifted_held h.direction (word_at t (pred h.word) (counter_word h.counter)) h.amount)) t) hs

unfoldable pub without : ℕ → List Question → List Question
without n [] = []
without n (k ∷ ks) = cond (eqb k.number n) (without n ks) (k ∷ without n ks)

abbrev pub held_at_ceiling : Parts
held_at_ceiling = record { asks = λ s call. without 9 (questions s call); applies = λ t p. named minus (apply_held t (changes p)) p; dead = unreached; frees = swept }

-- 4,096 holds are gained and 4,095 given up; the cell is freed
abbrev pub held_at_ceiling_calls : List Call
held_at_ceiling_calls = fresh 3 ∷ row (cons 0 0) ∷ row (up 1 4095) ∷ row (down 1 4095) ∷ step ∷ step ∷ step ∷ []

-- "Taking a cell with both counts 0 as dead while a waiting packet names it": looked at after each change, as source 001's figure 8 does. From fresh
-- only then can it bite: a call names a cell that is held or in a field, so one of its counts is above 0 when all older packets are taken whole.
unfoldable pub apply_eager : List ℕ → List Change → List ℕ
apply_eager t [] = t
apply_eager t (h ∷ hs) =
    let u = move_count t h.counter h.word h.direction h.amount in
    apply_eager (swept u (select (capacity u) (λ i. in_use u i && eqb (word_at u i root_count) 0 && eqb (word_at u i cell_count) 0))) hs

abbrev pub named_as_dead : Parts
named_as_dead = applying (λ t p. named minus (apply_eager t (changes p)) p)

-- cell 1 goes from a hold to cell 2, and is read from there: that packet waits and names it while its root count has fallen and its cell count
-- has not risen yet
abbrev pub named_as_dead_calls : List Call
named_as_dead_calls = fresh 3 ∷ row (cons 0 0) ∷ row (cons 1 0) ∷ row (car 2) ∷ step ∷ step ∷ []

-- "Lowering x before raising the word read, and freeing in between": after the first change of a read, which names its cells no longer.
unfoldable pub apply_parted : List ℕ → ℕ → List Change → List ℕ
apply_parted t k [] = t
apply_parted t k (h ∷ hs) =
    let u = move_count t h.counter h.word h.direction h.amount in
    apply_changes (cond (eqb k 1) (swept u (unreached u)) u) hs

abbrev pub freed_in_between : Parts
freed_in_between = applying (λ t p. apply_parted (named minus t p) p.kind (changes p))

-- the word read is reached through x alone
abbrev pub freed_in_between_calls : List Call
freed_in_between_calls = fresh 3 ∷ row (cons 0 0) ∷ row (cons 1 0) ∷ row (car 2) ∷ step ∷ step ∷ step ∷ []

-- "Checking only one hold when both operands are one cell": question 6 of cons.
unfoldable pub reanswer : ℕ → Bool → List Question → List Question
reanswer n b [] = []
reanswer n b (k ∷ ks) = cond (eqb k.number n) (ask n b) k ∷ reanswer n b ks

unfoldable pub asks_one_hold : Store → Call → List Question
asks_one_hold s (fresh c) = questions s (fresh c)
asks_one_hold s (row r) =
    cond (eqb (packet_of s.table r).kind 2)
    (reanswer 6 (every (capacity s.table) (λ i. eqb (uses (packet_of s.table r) (suc i)) 0 || held_at_least s.table (waiting s.queue) i 1))
    (questions s (row r)))
    (questions s (row r))
asks_one_hold s step = questions s step
asks_one_hold s audit = questions s audit
asks_one_hold s (read text) = questions s (read text)
asks_one_hold s (write w room) = questions s (write w room)

abbrev pub one_hold_for_both : Parts
one_hold_for_both = record { asks = asks_one_hold; applies = apply_packet; dead = unreached; frees = swept }

-- one hold is given up twice, more than was gained: `NoneOwed` breaks at once, before any cell is lost
abbrev pub one_hold_for_both_calls : List Call
one_hold_for_both_calls = fresh 3 ∷ row (cons 0 0) ∷ row (cons 1 1) ∷ []

-- "Leaving the children's cell counts when a ring is freed".
abbrev pub children_left : Parts
children_left = record { asks = questions; applies = apply_packet; dead = unreached; frees = join_all }

-- cell 2 points to the held cell 1 and to itself, and is let go
abbrev pub children_left_calls : List Call
children_left_calls =
    fresh 3 ∷ row (cons 0 0) ∷ row (up 1 1) ∷ row (cons 1 0) ∷ row (up 2 1) ∷ row (set_right 2 2) ∷ row (down 2 1)
    ∷ step ∷ step ∷ step ∷ step ∷ step ∷ step ∷ []

-- No protection by packets at all: only root counts make roots.
abbrev pub unprotected : Parts
unprotected = record {
  asks = questions;
  applies = apply_packet;
  dead = λ t. select (capacity t) (λ i. in_use t i && not (reached_by (capacity t) (λ j. ltb 0 (word_at t j root_count)) (points_to t) i));
  frees = swept;
}

-- cell 1 is read from cell 2 and then detached: only the packets name it
abbrev pub unprotected_calls : List Call
unprotected_calls = fresh 3 ∷ row (cons 0 0) ∷ row (cons 1 0) ∷ row (up 2 1) ∷ row (car 2) ∷ row (set_left 2 0) ∷ step ∷ step ∷ []

-- "A step that applies packets and frees nothing".
abbrev pub frees_nothing : Parts
frees_nothing = record { asks = questions; applies = apply_packet; dead = λ t. []; frees = swept }

-- cell 1 is let go, and no packet waits any more
abbrev pub frees_nothing_calls : List Call
frees_nothing_calls = fresh 3 ∷ row (cons 0 0) ∷ row (down 1 1) ∷ step ∷ step ∷ []

-- Who is named (document 02, A6): a packet that is taken and names its cells still.
abbrev pub names_stay : Parts
names_stay = applying (λ t p. apply_changes t (changes p))

pub record ShortcutsBite : Type 0 where
  pub held_at_ceiling_breaks : Breaks held_at_ceiling held_at_ceiling_calls NoneLost
  pub held_at_ceiling_counts : Breaks held_at_ceiling held_at_ceiling_calls RootsAreHolds
  pub named_as_dead_breaks : Breaks named_as_dead named_as_dead_calls NoneLost
  pub freed_in_between_breaks : Breaks freed_in_between freed_in_between_calls NoneLost
  pub one_hold_for_both_breaks : Breaks one_hold_for_both one_hold_for_both_calls NoneOwed
  pub children_left_breaks : Breaks children_left children_left_calls CellsArePointers
  pub unprotected : Breaks unprotected unprotected_calls NoneLost
  pub names_stay_breaks : Breaks names_stay frees_nothing_calls NoneLeft
  pub names_stay_done : Breaks names_stay frees_nothing_calls ExactWhenDone
  pub frees_nothing_breaks : Breaks frees_nothing frees_nothing_calls NoneLeft
  pub frees_nothing_done : Breaks frees_nothing frees_nothing_calls ExactWhenDone
  pub frees_nothing_audit : Breaks frees_nothing frees_nothing_calls AuditsSound
