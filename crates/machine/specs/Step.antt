-- "Collector step" (source 001's figures 8 and 9, as document 01 amends them).
use Rattle.std.specs.Prelude.{cond, not, ◌&&◌, List, [], ◌∷◌, ◌++◌, ℕ, suc, pred, ◌+◌, ◌-◌, eqb, length, drop, replicate}
use Rattle.machine.specs.Range.{select}
use Rattle.machine.specs.Words.{is_cell}
use Rattle.machine.specs.Table.{left, right, root_count, cell_count, name_count, capacity, first_free, last_free, free_cell, scratch_words, word_at, put_word, put_ends, put_cell, in_use}
use Rattle.machine.specs.Queue.{Packet, waiting, taken}
use Rattle.machine.specs.Packets.{Counter, root, cell, name, Direction, plus, minus, Change, changes, names, name_changes}
use Rattle.machine.specs.Reached.{reached}
use Rattle.machine.specs.Calls.{Reply, idle, applied, Store, store}

-- where a counter stands in its cell
abbrev pub counter_word : Counter → ℕ
counter_word root = root_count
counter_word cell = cell_count
counter_word name = name_count

-- a count raised or lowered by n
abbrev pub shifted : Direction → ℕ → ℕ → ℕ
shifted plus count n = count + n
shifted minus count n = count - n

-- one counter of the word w moved by n, if w is a cell
unfoldable pub move_count : List ℕ → Counter → ℕ → Direction → ℕ → List ℕ
move_count t k w d n =
    cond (is_cell (capacity t) w) (put_word t (pred w) (counter_word k) (shifted d (word_at t (pred w) (counter_word k)) n)) t

-- a packet's changes made one by one
unfoldable pub apply_changes : List ℕ → List Change → List ℕ
apply_changes t [] = t
apply_changes t (h ∷ hs) = apply_changes (move_count t h.counter h.word h.direction h.amount) hs

-- the cells that a packet names, one more time for each place when it is queued, one less when it is taken (document 02, A6)
unfoldable pub named : Direction → List ℕ → Packet → List ℕ
named d t p = apply_changes t (name_changes d (names p))

-- packets queued in their order
abbrev pub named_all : List ℕ → List Packet → List ℕ
named_all t [] = t
named_all t (p ∷ ps) = named_all (named plus t p) ps

-- the packet applied: its changes are made, and it names its cells no longer
unfoldable pub apply_packet : List ℕ → Packet → List ℕ
apply_packet t p = named minus (apply_changes t (changes p)) p

-- the indices of the cells in use that are not reached, ascending
unfoldable pub unreached : List ℕ → List ℕ
unreached t = select (capacity t) (λ i. in_use t i && not (reached t i))

-- each pointer out of the cells at these indices lowers a cell count, first those of the last index, as the cells join
unfoldable pub lower_pointers : List ℕ → List ℕ → List ℕ
lower_pointers t [] = t
lower_pointers t (i ∷ is) = let u = lower_pointers t is in move_count (move_count u cell (word_at u i left) minus 1) cell (word_at u i right) minus 1

-- append_cell, as document 02, A8, amends it: a cell joins the free chain at its front, its other words 0; into an empty chain it is the last too
unfoldable pub join : List ℕ → ℕ → List ℕ
join t i = put_ends (put_cell t i (free_cell (first_free t))) (suc i) (cond (eqb (first_free t) 0) (suc i) (last_free t))

-- the cells at these indices join, the last index first, so that the first index is first of all
unfoldable pub join_all : List ℕ → List ℕ → List ℕ
join_all t [] = t
join_all t (i ∷ is) = join (join_all t is) i

-- sweep: the cells at these indices are freed
unfoldable pub swept : List ℕ → List ℕ → List ℕ
swept t is = join_all (lower_pointers t is) is

-- the first n words of the scratch 0, the rest untouched
unfoldable pub cleared : ℕ → List ℕ → List ℕ
cleared n s = replicate n 0 ++ drop n s

pub record Outcome : Type 0 where
  pub reply : Reply
  pub after : Store

abbrev pub outcome : Reply → Store → Outcome
outcome r s = record { reply = r; after = s }

-- a step that takes the packet p
unfoldable pub step_with : Store → Packet → Outcome
step_with s p =
    let t = apply_packet s.table p in
    let dead = unreached t in
    outcome (applied p.kind (length dead)) (store (swept t dead) (taken s.queue) (cleared (scratch_words (capacity t)) s.scratch))

-- with no packet waiting the reply is idle and nothing changes; else the oldest packet is applied
unfoldable pub step_from : Store → List Packet → Outcome
step_from s [] = outcome idle s
step_from s (p ∷ ps) = step_with s p

unfoldable pub stepped : Store → Outcome
stepped s = step_from s (waiting s.queue)
