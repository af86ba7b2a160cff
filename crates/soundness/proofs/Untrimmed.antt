-- On a sound store nothing is trimmed.
use mathlib.Core.Path.{◌≡◌, refl, sym, ap}
use mathlib.Core.Logic.{◌⊎◌, inl, inr, ⊎_elim}
use mathlib.Core.Bool.{true, false, cond, false≢true}
use mathlib.Core.List.{List, [], ◌∷◌}
use Prim.Native.Nat.{ℕ, zero, suc, ◌+◌, ◌-◌, ◌*◌, ◌≤◌, ◌<◌}
use native.Mathlib.Omega.{arith}
use lib.Dec.{eqb, leb}
use lib.ListN.{length, take, drop}
use borrow.Author.Tests.{eqb-true, eqb-false, leb-true, leb-false}
use Rattle.machine.specs.Range.{matching, occurrences}
use Rattle.machine.specs.Words.{ceiling}
use Rattle.machine.specs.Table.{root_count, cell_count, name_count, capacity, word_at}
use Rattle.machine.specs.Queue.{Packet, slots}
use Rattle.machine.specs.Packets.{Kind, reads, makes, replaces, raises, lowers, unknown, kind_of, Counter, root, cell, name, plus, minus, Change, changes_of, changes, moved_by, names, times_named, uses, uses_of, same_counter}
use Rattle.machine.specs.Step.{counter_word, shifted, apply_packet}
use Rattle.machine.specs.Stages.{stage}
use Rattle.machine.specs.Audit.{replayed}
use Rattle.machine.proofs.Range.{tested, matching_same, matching_other}
use Rattle.machine.proofs.Names.{times_most}
use Rattle.machine.proofs.Ring.{length_waiting}
use Rattle.machine.proofs.Questions.{shape_is}
use Rattle.machine.proofs.RootsByCell.{Counted, sound_counted}
use Rattle.machine.proofs.Replay.{replays_uses, replays_bound}
use Rattle.soundness.specs.Untrimmed.{Lowers, ByItself, Untrimmed, NothingTrimmed}
use Rattle.soundness.proofs.PacketKinds.{running, count_applied}
use Rattle.soundness.proofs.Views.{shown, earlier, seen_undo, stages_within}
use Rattle.soundness.proofs.Facts.{Facts, sound_facts, all_below}
use Rattle.soundness.proofs.OldestPacket.{applied_capacity, stands, applied_facts}
use Rattle.soundness.proofs.NameCounts.{packet_capacity, packet_facts, packet_counted}
use Rattle.soundness.proofs.FreedCells.{swept_enough}

-- one counter of one cell, run through the changes: each lowering is met, and P holds of each number on the way
abbrev Runs : (ℕ → Type 0) → Counter → ℕ → List Change → ℕ → Type 0
Runs P k x [] n = Unit {0}
Runs P k x (h ∷ hs) n =
    (same_counter k h.counter ≡ true → Lowers h.direction n (matching h.word x h.amount))
    × P (cond (same_counter k h.counter) (shifted h.direction n (matching h.word x h.amount)) n)
    × Runs P k x hs (cond (same_counter k h.counter) (shifted h.direction n (matching h.word x h.amount)) n)

-- a word that is x, or the number 0
matching_cases : (w x n : ℕ) → ((w ≡ x) × (matching w x n ≡ n)) ⊎ (matching w x n ≡ 0)
matching_cases w x n = ⊎_elim (λ e. let d = eqb-true w x e in inl (d, matching_same w x n d)) (λ e. inr (matching_other w x n (eqb-false w x e))) (tested (eqb w x))

runs_root : (k : Kind) (a b c x n : ℕ) → uses_of k a b c x ≤ n → n ≤ ceiling
    → n + moved_by root plus x (changes_of k a b) - moved_by root minus x (changes_of k a b) ≤ ceiling
    → Runs (λ m. m ≤ ceiling) root x (changes_of k a b) n
unfolding changes_of moved_by uses_of
runs_root reads a b c x n u l h = (λ _. u, omega arith, (λ _. tt, omega arith, tt))
runs_root makes a b c x n u l h = (λ _. omega arith, omega arith, (λ _. tt, omega arith, (λ _. omega arith, omega arith, (λ _. tt, omega arith, tt))))
runs_root (replaces m) a b c x n u l h = (λ _. omega arith, omega arith, (λ _. tt, omega arith, (λ (e : false ≡ true). absurd (false≢true e), omega arith, tt)))
runs_root raises a b c x n u l h = (λ _. tt, omega arith, tt)
runs_root lowers a b c x n u l h = (λ _. u, omega arith, tt)
runs_root unknown a b c x n u l h = tt

-- a cell count in passing
abbrev InPassing : Kind → ℕ → ℕ → ℕ → ℕ → Type 0
InPassing k a b x m = (m ≤ ceiling) ⊎ ((m ≡ suc ceiling) × ByItself k a b x)

runs_cell : (k : Kind) (a b x n : ℕ) → n ≤ ceiling → moved_by cell minus x (changes_of k a b) ≤ n + moved_by cell plus x (changes_of k a b)
    → n + moved_by cell plus x (changes_of k a b) - moved_by cell minus x (changes_of k a b) ≤ ceiling
    → Runs (InPassing k a b x) cell x (changes_of k a b) n
unfolding changes_of moved_by
runs_cell reads a b x n l m h = (λ (e : false ≡ true). absurd (false≢true e), inl l, (λ _. tt, inl l, tt))
runs_cell makes a b x n l m h = (
  λ (e : false ≡ true). absurd (false≢true e),
  inl l,
  (
    λ _. tt,
    inl (omega arith),
    (λ (e : false ≡ true). absurd (false≢true e), inl (omega arith), (λ _. tt, inl (omega arith), tt)),
  ),
)
runs_cell (replaces f) a b x n l m h =
    (λ (e : false ≡ true). absurd (false≢true e), inl l, (λ _. tt, raised (matching_cases a x 1) (matching_cases b x 1), (λ _. omega arith, inl (omega arith), tt)))
  where
    raised : ((a ≡ x) × (matching a x 1 ≡ 1)) ⊎ (matching a x 1 ≡ 0) → ((b ≡ x) × (matching b x 1 ≡ 1)) ⊎ (matching b x 1 ≡ 0)
        → InPassing (replaces f) a b x (n + matching a x 1)
    raised (inl e) (inl d) = both (tested (leb (n + matching a x 1) ceiling))
      where
        both : (leb (n + matching a x 1) ceiling ≡ true) ⊎ (leb (n + matching a x 1) ceiling ≡ false) → InPassing (replaces f) a b x (n + matching a x 1)
        both (inl y) = inl (leb-true (n + matching a x 1) ceiling y)
        both (inr y) = inr (omega (arith, leb-false (n + matching a x 1) ceiling y, e.1), (e.0, d.0))
    raised (inl e) (inr d) = inl (omega (arith, e.1))
    raised (inr e) (inl d) = inl (omega arith)
    raised (inr e) (inr d) = inl (omega arith)
runs_cell raises a b x n l m h = (λ (e : false ≡ true). absurd (false≢true e), inl l, tt)
runs_cell lowers a b x n l m h = (λ (e : false ≡ true). absurd (false≢true e), inl l, tt)
runs_cell unknown a b x n l m h = tt

-- and name counts stand
runs_name : (P : ℕ → Type 0) (k : Kind) (a b x m : ℕ) → P m → Runs P name x (changes_of k a b) m
unfolding changes_of
runs_name P k a b x m h = go k
  where
    other : {A : Type 0} → false ≡ true → A
    other e = absurd (false≢true e)

    go : (k : Kind) → Runs P name x (changes_of k a b) m
    go reads = (other, h, (other, h, tt))
    go makes = (other, h, (other, h, (other, h, (other, h, tt))))
    go (replaces f) = (other, h, (other, h, (other, h, tt)))
    go raises = (other, h, tt)
    go lowers = (other, h, tt)
    go unknown = tt

-- P holds at every stage of a run, and each lowering is met at its stage
runs_stage : (P : ℕ → Type 0) (k : Counter) (x : ℕ) (hs : List Change) (m : ℕ) → Runs P k x hs m → P m → (n : ℕ) → P (running k x (take n hs) m)
unfolding running
runs_stage P k x hs m r h zero = h
runs_stage P k x [] m r h (suc n) = h
runs_stage P k x (j ∷ hs) m r h (suc n) =
    runs_stage P k x hs (cond (same_counter k j.counter) (shifted j.direction m (matching j.word x j.amount)) m) r.2 r.1 n

runs_lowers : (P : ℕ → Type 0) (k : Counter) (x : ℕ) (hs : List Change) (m : ℕ) → Runs P k x hs m → (n : ℕ) (h : Change) (js : List Change)
    → drop n hs ≡ h ∷ js → same_counter k h.counter ≡ true → Lowers h.direction (running k x (take n hs) m) (matching h.word x h.amount)
unfolding running
runs_lowers P k x [] m r zero h js e c = let z : ◌≡◌ {A = ℕ} 0 1 = cc in absurd (omega arith)
runs_lowers P k x [] m r (suc n) h js e c = let z : ◌≡◌ {A = ℕ} 0 1 = cc in absurd (omega arith)
runs_lowers P k x (j ∷ hs) m r zero h js e c = let same : j ≡ h = cc in rw (sym same) (r.0 (rw same c))
runs_lowers P k x (j ∷ hs) m r (suc n) h js e c =
    runs_lowers P k x hs (cond (same_counter k j.counter) (shifted j.direction m (matching j.word x j.amount)) m) r.2 n h js e c

module _ (t : List ℕ) (p : Packet) (ps : List Packet) (f : Facts t (p ∷ ps)) (c : Counted t (p ∷ ps)) (few : length (p ∷ ps) ≤ slots) where
  root_runs : (i : ℕ) → i < capacity t → Runs (λ m. m ≤ ceiling) root (suc i) (changes p) (word_at t i root_count)
  unfolding changes
  root_runs i l =
      runs_root (kind_of p.kind) p.a p.b p.c (suc i) (word_at t i root_count)
      (unfold uses in leb-true (uses p (suc i)) (word_at t i root_count) (replays_uses (suc i) (word_at t i root_count) p ps (f.replay i l))) (f.roots i l)
      (unfold replayed in leb-true (replayed (suc i) p (word_at t i root_count)) ceiling (replays_bound (suc i) (word_at t i root_count) p ps (f.replay i l)))

  cell_runs : (i : ℕ) → i < capacity t → Runs (InPassing (kind_of p.kind) p.a p.b (suc i)) cell (suc i) (changes p) (word_at t i cell_count)
  unfolding changes earlier
  cell_runs i l =
      let s = seen_undo (capacity t) (earlier (shown t) ps) p i (all_below t (p ∷ ps) f).0 f.stages.1 in
      let e = f.counts i l in
      runs_cell (kind_of p.kind) p.a p.b (suc i) (word_at t i cell_count) (f.cells i l) (omega arith)
      (omega (arith, stages_within (capacity t) (shown t) ps f.stages.0 i l))

  -- at most three places of each packet
  names_few : (i : ℕ) → i < capacity t → word_at t i name_count ≤ 3 * slots
  names_few i l = omega (arith, c i l, times_most (p ∷ ps) (suc i))

  name_runs : (i : ℕ) → i < capacity t → Runs (λ m. m ≤ 3 * slots) name (suc i) (changes p) (word_at t i name_count)
  unfolding changes
  name_runs i l = runs_name (λ m. m ≤ 3 * slots) (kind_of p.kind) p.a p.b (suc i) (word_at t i name_count) (names_few i l)

  -- a counter at a stage is its count run so far
  at_stage : (n : ℕ) (k : Counter) (i : ℕ) → i < capacity t → word_at (stage t p n) i (counter_word k) ≡ running k (suc i) (take n (changes p)) (word_at t i (counter_word k))
  unfolding stage
  at_stage n k i l = count_applied t (take n (changes p)) k i f.room l

  root_stage : (n i : ℕ) → i < capacity t → word_at (stage t p n) i root_count ≤ ceiling
  root_stage n i l = rw (at_stage n root i l) (runs_stage (λ m. m ≤ ceiling) root (suc i) (changes p) (word_at t i root_count) (root_runs i l) (f.roots i l) n)

  cell_stage : (n i : ℕ) → i < capacity t → InPassing (kind_of p.kind) p.a p.b (suc i) (word_at (stage t p n) i cell_count)
  cell_stage n i l =
      rw (at_stage n cell i l)
      (runs_stage (InPassing (kind_of p.kind) p.a p.b (suc i)) cell (suc i) (changes p) (word_at t i cell_count) (cell_runs i l) (inl (f.cells i l)) n)

  name_stage : (n i : ℕ) → i < capacity t → word_at (stage t p n) i name_count ≤ 3 * slots
  name_stage n i l = rw (at_stage n name i l) (runs_stage (λ m. m ≤ 3 * slots) name (suc i) (changes p) (word_at t i name_count) (name_runs i l) (names_few i l) n)

  met : (n : ℕ) (h : Change) (hs : List Change) → drop n (changes p) ≡ h ∷ hs → (i : ℕ) → i < capacity t → (k : Counter) → h.counter ≡ k
      → Lowers h.direction (word_at (stage t p n) i (counter_word k)) (matching h.word (suc i) h.amount)
  met n h hs d i l root e = rw (at_stage n root i l) (runs_lowers (λ m. m ≤ ceiling) root (suc i) (changes p) (word_at t i root_count) (root_runs i l) n h hs d (rw e))
  met n h hs d i l cell e = rw (at_stage n cell i l) (runs_lowers (InPassing (kind_of p.kind) p.a p.b (suc i)) cell (suc i) (changes p) (word_at t i cell_count) (cell_runs i l) n h hs d (rw e))
  met n h hs d i l name e = rw (at_stage n name i l) (runs_lowers (λ m. m ≤ 3 * slots) name (suc i) (changes p) (word_at t i name_count) (name_runs i l) n h hs d (rw e))

  within : (n : ℕ) (k : Counter) (i : ℕ) → i < capacity t → word_at (stage t p n) i (counter_word k) ≤ suc ceiling
  within n root i l = omega (arith, root_stage n i l)
  within n cell i l = ⊎_elim (λ m. omega arith) (λ e. omega (arith, e.0)) (cell_stage n i l)
  within n name i l = omega (arith, name_stage n i l)

  at_most : (n : ℕ) (k : Counter) (i : ℕ) → i < capacity t → word_at (stage t p n) i (counter_word k) ≡ suc ceiling
      → (k ≡ cell) × ByItself (kind_of p.kind) p.a p.b (suc i)
  at_most n root i l e = absurd (omega (arith, root_stage n i l))
  at_most n cell i l e = ⊎_elim (λ m. absurd (omega arith)) (λ d. (refl, d.1)) (cell_stage n i l)
  at_most n name i l e = absurd (omega (arith, name_stage n i l))

  unnamed : (i : ℕ) → i < capacity t → occurrences (suc i) (names p) ≤ word_at t i name_count
  unfolding times_named
  unnamed i l = omega (arith, c i l)

  untrimmed_facts : Untrimmed t p
  untrimmed_facts =
      let g = applied_facts t p ps f in
      let same = applied_capacity t p ps f in
      record {
        lowers = λ n h hs d i l. met n h hs d i l h.counter refl;
        passing = λ n k i l. omega (arith, within n k i l);
        only = at_most;
        roots = λ i l. g.roots i (rw same l);
        cells = λ i l. g.cells i (rw same l);
        unnaming = λ i l. omega (arith, unnamed i l, stands t p ps f i name_count (omega arith) (omega arith) (omega arith));
        freeing = λ i l. swept_enough (apply_packet t p) ps (packet_facts t p ps f) (packet_counted t p ps f c) i (rw (packet_capacity t p ps f) l);
      }

pub untrimmed : NothingTrimmed
untrimmed t q p ps s e =
    untrimmed_facts t p ps (rw e at (sound_facts t q s)) (rw e at (sound_counted t q s))
    (omega (arith, ap length e, length_waiting q, (shape_is t q s.shape).queue.count))
