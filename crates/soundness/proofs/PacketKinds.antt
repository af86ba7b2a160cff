-- What is said of a packet kind by kind: here the kinds are split, and almost nowhere else.
use mathlib.Core.Path.{◌≡◌, refl, sym, ap, ◌∙◌}
use mathlib.Core.Logic.{◌⊎◌, inl, inr, ⊎_elim, ◌≢◌}
use mathlib.Core.Bool.{true, false, cond, false≢true}
use mathlib.Core.List.{List, [], ◌∷◌, ◌++◌}
use Prim.Native.Nat.{ℕ, suc, ◌+◌, ◌-◌, ◌≤◌, ◌<◌}
use native.Mathlib.Omega.{arith}
use lib.Dec.{eqb}
use lib.ListN.{length}
use borrow.Author.Tests.{eqb-false}
use Rattle.machine.specs.Range.{matching}
use Rattle.machine.specs.Table.{stride, root_count, cell_count, capacity, table_length, word_at}
use Rattle.machine.specs.Queue.{Packet}
use Rattle.machine.specs.Packets.{Kind, reads, makes, replaces, raises, lowers, unknown, kind_of, Counter, root, cell, name, Direction, plus, minus, Change, changes_of, changes, names_of, names, uses_of, uses, same_counter, moved_by, waiting_change, contains, is_named}
use Rattle.machine.specs.Step.{counter_word, shifted, move_count, apply_changes}
use Rattle.machine.proofs.Range.{tested, or-false, or_left, or_right, or_true, matching_other}
use Rattle.machine.proofs.Moves.{length_move, capacity_move, word_move, count_move}

-- a packet's changes of one counter of x, in one direction
abbrev pub moves : Counter → Direction → Packet → ℕ → ℕ
moves k d p x = moved_by k d x (changes p)

-- a packet lowers a root count no more often than its call names the cell
pub lowers_uses : (p : Packet) (x : ℕ) → moves root minus p x ≤ uses p x
unfolding changes uses moved_by changes_of uses_of
lowers_uses p x = go (kind_of p.kind) p.a p.b p.c
  where
    go : (k : Kind) (a b c : ℕ) → moved_by root minus x (changes_of k a b) ≤ uses_of k a b c x
    go reads a b c = omega arith
    go makes a b c = omega arith
    go (replaces m) a b c = omega arith
    go raises a b c = omega arith
    go lowers a b c = omega arith
    go unknown a b c = omega arith

-- a list without x
none_of : (w : ℕ) (ws : List ℕ) (x n : ℕ) → contains (w ∷ ws) x ≡ false → (matching w x n ≡ 0) × (contains ws x ≡ false)
unfolding contains
none_of w ws x n h =
    let o = or-false (eqb w x) (contains ws x) h in
    (matching_other w x n (eqb-false w x o.0), o.1)

-- what a packet does not name it neither uses nor moves
pub record Unmoved (p : Packet) (x : ℕ) : Type 0 where
  pub unused : uses p x ≡ 0
  pub still : (k : Counter) (d : Direction) → moves k d p x ≡ 0

pub unnamed : (p : Packet) (x : ℕ) → contains (names p) x ≡ false → Unmoved p x
unfolding changes uses names moved_by changes_of uses_of names_of
unnamed p x h = record { unused = unused (kind_of p.kind) p.a p.b p.c h; still = still (kind_of p.kind) p.a p.b p.c h }
  where
    first : (a b c n : ℕ) → contains (a ∷ b ∷ c ∷ []) x ≡ false → matching a x n ≡ 0
    first a b c n e = (none_of a (b ∷ c ∷ []) x n e).0

    second : (a b c n : ℕ) → contains (a ∷ b ∷ c ∷ []) x ≡ false → matching b x n ≡ 0
    second a b c n e = (none_of b (c ∷ []) x n (none_of a (b ∷ c ∷ []) x n e).1).0

    third : (a b c n : ℕ) → contains (a ∷ b ∷ c ∷ []) x ≡ false → matching c x n ≡ 0
    third a b c n e = (none_of c [] x n (none_of b (c ∷ []) x n (none_of a (b ∷ c ∷ []) x n e).1).1).0

    unused : (k : Kind) (a b c : ℕ) → contains (names_of k a b c) x ≡ false → uses_of k a b c x ≡ 0
    unused reads a b c e = first a b c 1 e
    unused makes a b c e = omega (arith, first a b c 1 e, second a b c 1 e)
    unused (replaces m) a b c e = omega (arith, first a b c 1 e, third a b c 1 e)
    unused raises a b c e = (none_of a [] x 1 e).0
    unused lowers a b c e = (none_of a [] x b e).0
    unused unknown a b c e = refl

    still : (k : Kind) (a b c : ℕ) → contains (names_of k a b c) x ≡ false → (m : Counter) (d : Direction) → moved_by m d x (changes_of k a b) ≡ 0
    still reads a b c e root plus = omega (arith, second a b c 1 e)
    still reads a b c e root minus = omega (arith, first a b c 1 e)
    still reads a b c e cell plus = refl
    still reads a b c e cell minus = refl
    still reads a b c e name plus = refl
    still reads a b c e name minus = refl
    still makes a b c e root plus = refl
    still makes a b c e root minus = omega (arith, first a b c 1 e, second a b c 1 e)
    still makes a b c e cell plus = omega (arith, first a b c 1 e, second a b c 1 e)
    still makes a b c e cell minus = refl
    still makes a b c e name plus = refl
    still makes a b c e name minus = refl
    still (replaces m) a b c e root plus = refl
    still (replaces m) a b c e root minus = omega (arith, first a b c 1 e)
    still (replaces m) a b c e cell plus = omega (arith, first a b c 1 e)
    still (replaces m) a b c e cell minus = omega (arith, second a b c 1 e)
    still (replaces m) a b c e name plus = refl
    still (replaces m) a b c e name minus = refl
    still raises a b c e root plus = omega (arith, (none_of a [] x b e).0)
    still raises a b c e root minus = refl
    still raises a b c e cell plus = refl
    still raises a b c e cell minus = refl
    still raises a b c e name plus = refl
    still raises a b c e name minus = refl
    still lowers a b c e root plus = refl
    still lowers a b c e root minus = omega (arith, (none_of a [] x b e).0)
    still lowers a b c e cell plus = refl
    still lowers a b c e cell minus = refl
    still lowers a b c e name plus = refl
    still lowers a b c e name minus = refl
    still unknown a b c e m d = refl

-- a list of packets that does not name x: each of them, and the sums
pub unnamed_first : (p : Packet) (ps : List Packet) (x : ℕ) → is_named (p ∷ ps) x ≡ false → contains (names p) x ≡ false
unfolding is_named
unnamed_first p ps x h = (or-false (contains (names p) x) (is_named ps x) h).0

pub unnamed_rest : (p : Packet) (ps : List Packet) (x : ℕ) → is_named (p ∷ ps) x ≡ false → is_named ps x ≡ false
unfolding is_named
unnamed_rest p ps x h = (or-false (contains (names p) x) (is_named ps x) h).1

pub unnamed_waiting : (ps : List Packet) (x : ℕ) → is_named ps x ≡ false → (k : Counter) (d : Direction) → waiting_change k d x ps ≡ 0
unfolding waiting_change
unnamed_waiting [] x h k d = refl
unnamed_waiting (p ∷ ps) x h k d =
    omega (arith, (unnamed p x (unnamed_first p ps x h)).still k d, unnamed_waiting ps x (unnamed_rest p ps x h) k d)

-- one packet more at either end
pub waiting_cons : (k : Counter) (d : Direction) (x : ℕ) (p : Packet) (ps : List Packet) → waiting_change k d x (p ∷ ps) ≡ moves k d p x + waiting_change k d x ps
unfolding waiting_change
waiting_cons k d x p ps = refl

pub named_snoc : (ps : List Packet) (p : Packet) (x : ℕ) → (is_named ps x ≡ true) ⊎ (contains (names p) x ≡ true) → is_named (ps ++ (p ∷ [])) x ≡ true
unfolding is_named
named_snoc [] p x h = ⊎_elim (λ (e : false ≡ true). absurd (false≢true e)) (λ e. or_left false e) h
named_snoc (q ∷ ps) p x h =
    ⊎_elim (λ e. ⊎_elim (λ d. or_left (is_named (ps ++ (p ∷ [])) x) d) (λ d. or_right (contains (names q) x) (named_snoc ps p x (inl d)))
    (or_true (contains (names q) x) (is_named ps x) e))
    (λ e. or_right (contains (names q) x) (named_snoc ps p x (inr e))) h

pub unnamed_last : (ps : List Packet) (p : Packet) (x : ℕ) → is_named (ps ++ (p ∷ [])) x ≡ false → contains (names p) x ≡ false
unnamed_last ps p x e = ⊎_elim (λ c. absurd (false≢true (sym e ∙ named_snoc ps p x (inr c)))) (λ c. c) (tested (contains (names p) x))

-- a count run through a list of changes, and the counters of a table to which the changes are made
unfoldable pub running : Counter → ℕ → List Change → ℕ → ℕ
running k x [] n = n
running k x (h ∷ hs) n = running k x hs (cond (same_counter k h.counter) (shifted h.direction n (matching h.word x h.amount)) n)

-- no change of a list is of the counter at word m
abbrev Spares : ℕ → List Change → Type 0
Spares m [] = Unit {0}
Spares m (h ∷ hs) = (m ≢ counter_word h.counter) × Spares m hs

word_spared : (t : List ℕ) (hs : List Change) (j m : ℕ) → m < stride → Spares m hs → word_at (apply_changes t hs) j m ≡ word_at t j m
unfolding apply_changes
word_spared t [] j m l d = refl
word_spared t (h ∷ hs) j m l d =
    word_spared (move_count t h.counter h.word h.direction h.amount) hs j m l d.1
    ∙ word_move t h.counter h.word h.direction h.amount j m l d.0

-- a packet changes root counts and cell counts alone
pub word_applied : (t : List ℕ) (p : Packet) (j m : ℕ) → m < stride → m ≢ root_count → m ≢ cell_count → word_at (apply_changes t (changes p)) j m ≡ word_at t j m
unfolding changes changes_of
word_applied t p j m l r c = word_spared t (changes p) j m l (spares (kind_of p.kind) p.a p.b)
  where
    spares : (k : Kind) (a b : ℕ) → Spares m (changes_of k a b)
    spares reads a b = (r, (r, tt))
    spares makes a b = (r, (c, (r, (c, tt))))
    spares (replaces f) a b = (r, (c, (c, tt)))
    spares raises a b = (r, tt)
    spares lowers a b = (r, tt)
    spares unknown a b = tt

-- one change, of every counter of every cell
pub count_change : (t : List ℕ) (h : Change) (k : Counter) (j : ℕ) → table_length (capacity t) ≤ length t → j < capacity t
    → word_at (move_count t h.counter h.word h.direction h.amount) j (counter_word k)
    ≡ cond (same_counter k h.counter) (shifted h.direction (word_at t j (counter_word k)) (matching h.word (suc j) h.amount)) (word_at t j (counter_word k))
count_change t h k j f l = by_counter k h.counter
  where
    by_counter : (k m : Counter) → word_at (move_count t m h.word h.direction h.amount) j (counter_word k)
        ≡ cond (same_counter k m) (shifted h.direction (word_at t j (counter_word k)) (matching h.word (suc j) h.amount)) (word_at t j (counter_word k))
    by_counter root root = count_move t root h.word h.direction h.amount f j l
    by_counter root cell = word_move t cell h.word h.direction h.amount j (counter_word root) (omega arith) (omega arith)
    by_counter cell root = word_move t root h.word h.direction h.amount j (counter_word cell) (omega arith) (omega arith)
    by_counter root name = word_move t name h.word h.direction h.amount j (counter_word root) (omega arith) (omega arith)
    by_counter cell cell = count_move t cell h.word h.direction h.amount f j l
    by_counter cell name = word_move t name h.word h.direction h.amount j (counter_word cell) (omega arith) (omega arith)
    by_counter name root = word_move t root h.word h.direction h.amount j (counter_word name) (omega arith) (omega arith)
    by_counter name cell = word_move t cell h.word h.direction h.amount j (counter_word name) (omega arith) (omega arith)
    by_counter name name = count_move t name h.word h.direction h.amount f j l

pub count_applied : (t : List ℕ) (hs : List Change) (k : Counter) (j : ℕ) → table_length (capacity t) ≤ length t → j < capacity t
    → word_at (apply_changes t hs) j (counter_word k) ≡ running k (suc j) hs (word_at t j (counter_word k))
unfolding apply_changes running
count_applied t [] k j f l = refl
count_applied t (h ∷ hs) k j f l =
    count_applied (move_count t h.counter h.word h.direction h.amount) hs k j
    (rw (capacity_move t h.counter h.word h.direction h.amount, length_move t h.counter h.word h.direction h.amount) f)
    (rw (capacity_move t h.counter h.word h.direction h.amount) l)
    ∙ ap (running k (suc j) hs) (count_change t h k j f l)

-- a packet's changes one by one come to its raisings less its lowerings
pub running_root : (p : Packet) (x n : ℕ) → moves root minus p x ≤ n → running root x (changes p) n ≡ n + moves root plus p x - moves root minus p x
unfolding changes moved_by changes_of running
running_root p x n h = go (kind_of p.kind) p.a p.b h
  where
    go : (k : Kind) (a b : ℕ) → moved_by root minus x (changes_of k a b) ≤ n
        → running root x (changes_of k a b) n ≡ n + moved_by root plus x (changes_of k a b) - moved_by root minus x (changes_of k a b)
    go reads a b l = omega arith
    go makes a b l = omega arith
    go (replaces m) a b l = omega arith
    go raises a b l = omega arith
    go lowers a b l = omega arith
    go unknown a b l = omega arith

pub running_cell : (p : Packet) (x n : ℕ) → running cell x (changes p) n ≡ n + moves cell plus p x - moves cell minus p x
unfolding changes moved_by changes_of running
running_cell p x n = go (kind_of p.kind) p.a p.b
  where
    go : (k : Kind) (a b : ℕ) → running cell x (changes_of k a b) n ≡ n + moved_by cell plus x (changes_of k a b) - moved_by cell minus x (changes_of k a b)
    go reads a b = omega arith
    go makes a b = omega arith
    go (replaces m) a b = omega arith
    go raises a b = omega arith
    go lowers a b = omega arith
    go unknown a b = omega arith
