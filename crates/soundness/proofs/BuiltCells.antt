-- Reading a text builds its cells by conses that the machine accepts: what is carried from cons to cons.
use mathlib.Core.Path.{◌≡◌, refl, ap, ◌∙◌}
use mathlib.Core.Logic.{◌⊎◌, inl, inr, ⊎_elim}
use mathlib.Core.Bool.{Bool, true, false, cond, ◌&&◌, ◌||◌}
use mathlib.Core.List.{List, [], ◌∷◌, ◌++◌}
use Prim.Native.Nat.{ℕ, suc, pred, ◌+◌, ◌-◌, ◌≤◌, ◌<◌}
use native.Mathlib.Omega.{arith}
use lib.Dec.{leb, eqb}
use lib.ListN.{length}
use borrow.Author.Tests.{eqb-true, eqb-false, lt-ltb, le-leb, lt-leb}
use Rattle.notation.specs.Trees.{Tree, nil, atom, pair, largest_value, Values, pairs}
use Rattle.machine.specs.declared.Queue.{Queue}
use Rattle.machine.specs.Range.{select, matching, occurrences, every_of}
use Rattle.machine.specs.Words.{is_nil, is_cell, is_atom, is_legal, may_be_stored, first_atom, largest_word, ceiling, most_cells}
use Rattle.machine.specs.Table.{left, right, root_count, cell_count, capacity, first_free, word_at, in_use, is_free}
use Rattle.machine.specs.Queue.{Packet, slots, put_slot, appended, waiting}
use Rattle.machine.specs.Packets.{kind_of, root, cell, plus, minus, changes_of, changes, moved_by, uses_of, uses, waiting_change}
use Rattle.machine.specs.Counts.{held_at_least, pointers}
use Rattle.machine.specs.Calls.{cons, row, value, Store, store, field, packet_of, reads_nil, written, value_of}
use Rattle.machine.specs.Step.{named, outcome}
use Rattle.machine.specs.Texts.{Built, built, built_pair, build_by, atoms_storable, leaf, OpensOut, ends, opens}
use Rattle.machine.specs.Questions.{first_no, words_legal, words_storable, held_enough, slot_empty, cell_free, held_within, pointers_within, early_row, early, ask_free, late, late_row, questions}
use Rattle.machine.specs.Audit.{Sound}
use Rattle.machine.specs.Facts.{Chain}
use Rattle.machine.specs.Machine.{refused_or, accepted_row, consed}
use Rattle.machine.proofs.Range.{tested, or_left, or_right, and_both, and_first, and_second, not_both, every_all, matching_same, matching_other, total_at}
use Rattle.machine.proofs.Select.{select_length, selected_some}
use Rattle.machine.proofs.Words.{cell_index, cell_number_lem, index_cell}
use Rattle.machine.proofs.Table.{not_in_use_free}
use Rattle.machine.proofs.Names.{named_capacity, named_root}
use Rattle.machine.proofs.Ring.{arrays_appended, waiting_appended}
use Rattle.machine.proofs.Lists.{waiting_snoc}
use Rattle.machine.proofs.Questions.{AllYes, first_no_zero}
use Rattle.soundness.specs.Whole.{Whole}
use Rattle.soundness.specs.TextRead.{AllAccepted}
use Rattle.soundness.specs.Reliable.{Stands}
use Rattle.soundness.proofs.PacketKinds.{moves, unnamed_waiting}
use Rattle.soundness.proofs.Views.{nil_no_cell}
use Rattle.soundness.proofs.LegalPackets.{Fit, cell_legal}
use Rattle.soundness.proofs.Facts.{Facts, sound_facts, free_zero, free_unnamed}
use Rattle.soundness.proofs.ReachedCells.{counted_used}
use Rattle.soundness.proofs.FreeChain.{chain_some, free_same}
use Rattle.soundness.proofs.HeldCounts.{final_sum}
use Rattle.soundness.proofs.NewPacket.{HeldFor, Wrote, wrote_pointers}
use Rattle.soundness.proofs.Cons.{with_cell, same_capacity_lem, new_left, new_right, other, was_free, new_used, same_use_lem, keeps}
use Rattle.soundness.proofs.RowWrites.{cons_case, cons_root, row_wrote, first_legal, second_legal}
use Rattle.soundness.proofs.RowSound.{row_sound}
use Rattle.soundness.proofs.NamedTable.{named_stands, named_pointers, named_free, named_opens}
use Rattle.soundness.proofs.CodeTests.{pointers_counted, pointers_most}
use Rattle.soundness.proofs.RaisedCells.{question9, question10}

-- how many cells are free
abbrev pub free_cells : List ℕ → ℕ
free_cells t = length (select (capacity t) (is_free t))

-- A sound store on which the words ws are built and wait for their cons: each cell among them is held that often beside, and no pointer more than there
-- may be will come of it.
pub record Ready (t : List ℕ) (q : Queue) (ws : List ℕ) : Type 0 where
  pub whole : Whole t q
  pub legal : words_legal t ws ≡ true
  pub storable : words_storable ws ≡ true
  pub held : (i : ℕ) → i < capacity t
      → waiting_change root minus (suc i) (waiting q) + occurrences (suc i) ws ≤ word_at t i root_count + waiting_change root plus (suc i) (waiting q)
  pub pointed : (i : ℕ) → i < capacity t → pointers t (suc i) + occurrences (suc i) ws ≤ ceiling

-- the held count that came of another, with one hold of w more
abbrev pub Gains : List ℕ → Queue → List ℕ → Queue → ℕ → ℕ → Type 0
Gains t q u v w i =
    word_at u i root_count + waiting_change root plus (suc i) (waiting v) + waiting_change root minus (suc i) (waiting q)
    ≡ word_at t i root_count + waiting_change root plus (suc i) (waiting q) + waiting_change root minus (suc i) (waiting v) + matching w (suc i) 1

pub stands_refl : (t : List ℕ) → Stands t t
stands_refl t = record { same_capacity = refl; used = λ i l e. e; fields = λ i k l m e. refl }

pub stands_trans : (t u v : List ℕ) → Stands t u → Stands u v → Stands t v
stands_trans t u v a b = record {
  same_capacity = b.same_capacity ∙ a.same_capacity;
  used = λ i l e. b.used i (rw a.same_capacity l) (a.used i l e);
  fields = λ i k l m e. b.fields i k (rw a.same_capacity l) m (a.used i l e) ∙ a.fields i k l m e;
}

-- what a word in use opens out into stands with it
pub opens_kept : (t u : List ℕ) (ps : List Packet) → Facts t ps → Stands t u → {w : ℕ} {tree : Tree} → Fit t w → OpensOut t w tree → OpensOut u w tree
unfolding field
opens_kept t u ps f s fit (ends w e) = ends w (rw s.same_capacity e)
opens_kept t u ps f s fit (opens w {a = a} {d = d} e l r) =
    let i = cell_index (capacity t) w e in
    let used = fit.used (pred w) i (cell_number_lem (capacity t) w e) in
    let same_left = s.fields (pred w) left i (omega arith) used in
    let same-right = s.fields (pred w) right i (omega arith) used in
    opens w {a = a} {d = d} (rw s.same_capacity e)
    (rw same_left (opens_kept t u ps f s (f.fields (pred w) left i (omega arith) used) l))
    (rw same-right (opens_kept t u ps f s (f.fields (pred w) right i (omega arith) used) r))

-- a word that waits is fit
waiting_fit : (t : List ℕ) (q : Queue) (w : ℕ) (ws : List ℕ) → Ready t q ws → is_legal (capacity t) w ≡ true
    → ((i : ℕ) → w ≡ suc i → 1 ≤ occurrences (suc i) ws) → Fit t w
waiting_fit t q w ws r e some = record {
  legal = e;
  used = λ i l d. counted_used t (waiting q) (sound_facts t q r.whole.sound) i l (omega (arith, r.held i l, some i d));
}

-- what is so of all words that wait is so of the two that a cons takes, and of the others
first_two : (a b c : Bool) → a && (b && c) ≡ true → b && (a && true) ≡ true
first_two true true c h = refl
first_two true false c h = h
first_two false b c h = absurd (let z : ◌≡◌ {A = ℕ} 0 1 = cc in omega arith)

past_two : (a b c : Bool) → a && (b && c) ≡ true → c ≡ true
past_two a b c h = and_second b c (and_second a (b && c) h)

-- only an atom can be kept out
pub cell_storable : (w : ℕ) → w ≤ most_cells → may_be_stored w ≡ true
unfolding may_be_stored is_atom
cell_storable w h = rw (lt-leb first_atom w (omega arith))

-- one cons of two words that wait
module _ (s : Store) (x y : ℕ) (ws : List ℕ) (r : Ready s.table s.queue (y ∷ x ∷ ws)) (slot : s.queue.count < slots) (free : cell_free s.table ≡ true) where
  abbrev t : List ℕ
  t = s.table

  abbrev q : Queue
  q = s.queue

  abbrev ps : List Packet
  ps = waiting q

  abbrev p : Packet
  p = packet_of t (cons x y)

  -- the cell is written, and then the packet's cells are named
  abbrev u : List ℕ
  u = written t (cons x y)

  abbrev v : List ℕ
  v = named plus u p

  abbrev new : ℕ
  new = first_free t

  sound : Sound t q
  sound = r.whole.sound

  f : Facts t ps
  f = sound_facts t q sound

  waits : (i : ℕ) → occurrences (suc i) (y ∷ x ∷ ws) ≡ matching y (suc i) 1 + (matching x (suc i) 1 + occurrences (suc i) ws)
  unfolding occurrences
  waits i = refl

  asks : (i : ℕ) → uses p (suc i) ≡ matching x (suc i) 1 + matching y (suc i) 1
  unfolding packet_of uses uses_of kind_of
  asks i = refl

  legal_words : words_legal t (x ∷ y ∷ []) ≡ true
  unfolding words_legal every_of
  legal_words = first_two (is_legal (capacity t) y) (is_legal (capacity t) x) (every_of ws (is_legal (capacity t))) r.legal

  storable_words : words_storable (x ∷ y ∷ []) ≡ true
  unfolding words_storable every_of
  storable_words = first_two (may_be_stored y) (may_be_stored x) (every_of ws may_be_stored) r.storable

  held : HeldFor t ps p
  held i l = inr (omega (arith, r.held i l, waits i, asks i))

  six : held_enough t ps p ≡ true
  unfolding held_enough held_at_least
  six = every_all (capacity t) (λ i. eqb (uses p (suc i)) 0 || held_at_least t ps i (uses p (suc i)))
      (λ i l. or_right (eqb (uses p (suc i)) 0) (le-leb (waiting_change root minus (suc i) ps + uses p (suc i)) (word_at t i root_count + waiting_change root plus (suc i) ps) (omega (arith, r.held i l, waits i, asks i))))

  early_yes : AllYes (early_row t (cons x y))
  unfolding early_row
  early_yes = (legal_words, (storable_words, tt))

  free_yes : AllYes (ask_free t (cons x y))
  unfolding ask_free
  free_yes = (free, tt)

  -- no root count rises, but the new cell's
  rises : (i : ℕ) → moves root plus p (suc i) ≡ 0
  unfolding packet_of changes changes_of moved_by kind_of
  rises i = refl

  falls : (i : ℕ) → moves root minus p (suc i) ≡ matching x (suc i) 1 + matching y (suc i) 1
  unfolding packet_of changes changes_of moved_by kind_of
  falls i = omega arith

  points : (i : ℕ) → (moves cell plus p (suc i) ≡ matching x (suc i) 1 + matching y (suc i) 1) × (moves cell minus p (suc i) ≡ 0)
  unfolding packet_of changes changes_of moved_by kind_of
  points i = (omega arith, refl)

  nine : held_within u (waiting (appended q p)) ≡ true
  nine = (question9 t q sound (cons x y) early_yes held free_yes r.whole.arrays slot).1 (λ i l z. absurd (omega (arith, rises i)))

  ten : pointers_within u ≡ true
  ten = (question10 t q sound (cons x y) early_yes held free_yes).1
      (λ i l _. omega (arith, pointers_counted t q sound i l, (points i).0, (points i).1, r.pointed i l, waits i))

  pub cons_asked : first_no (questions s (row (cons x y))) ≡ 0
  unfolding questions early early_row late late_row reads_nil ask_free slot_empty
  cons_asked = first_no_zero (questions s (row (cons x y)))
      (sound.shape, (legal_words, (storable_words, (six, (lt-ltb q.count slots slot, (free, (nine, (ten, tt))))))))

  pub consed_is : consed s x y ≡ outcome (value new) (store v (appended q p) s.scratch)
  unfolding consed reads_nil value_of
  consed_is = ap (λ (n : ℕ). refused_or n s (accepted_row s (cons x y))) cons_asked

  after_waiting : waiting (appended q p) ≡ ps ++ (p ∷ [])
  after_waiting = waiting_appended q p r.whole.arrays slot

  -- a fact of the new cell, which was the first of the chain
  each_new : (P : List ℕ → ℕ → Type 0) → ((n : ℕ) (rest : List ℕ) (c : Chain t (n ∷ rest)) → P (with_cell t n x y) (suc n)) → P u p.c
  each_new P g = cons_case t f.free f.chain (chain_some t f.free f.chain free) x y (λ v m. P v m.c) g

  is_new : p.c ≡ new
  unfolding packet_of
  is_new = refl

  new_index : (i : ℕ) × (new ≡ suc i) × (i < capacity t) × (in_use t i ≡ false)
  new_index = rw is_new at (each_new (λ v w. (i : ℕ) × (w ≡ suc i) × (i < capacity t) × (in_use t i ≡ false))
      (λ n rest c. (n, refl, c.linked.1, was_free t ps f n rest c x y)))

  -- it was not held, and had no pointers
  new_unheld : (i : ℕ) → i < capacity t → in_use t i ≡ false → (occurrences (suc i) (y ∷ x ∷ ws) ≡ 0) × (pointers t (suc i) ≡ 0)
  new_unheld i l e =
      let n = free_unnamed t ps f i l e in (
        omega (arith, r.held i l, free_zero t ps f i root_count l e (omega arith) (omega arith), unnamed_waiting ps (suc i) n root plus),
        omega (arith, pointers_counted t q sound i l, free_zero t ps f i cell_count l e (omega arith) (omega arith), unnamed_waiting ps (suc i) n cell plus),
      )

  wrote : Wrote t u p
  wrote = row_wrote t ps f (cons x y) early_yes held free_yes

  written_same : capacity u ≡ capacity t
  written_same = wrote.same_capacity

  same : capacity v ≡ capacity t
  same = named_capacity plus u p ∙ written_same

  -- one hold of the new cell for one of each operand
  pub cons_gains : (i : ℕ) → i < capacity t
      → word_at v i root_count + waiting_change root plus (suc i) (waiting (appended q p)) + waiting_change root minus (suc i) ps + (matching x (suc i) 1 + matching y (suc i) 1)
      ≡ word_at t i root_count + waiting_change root plus (suc i) ps + waiting_change root minus (suc i) (waiting (appended q p)) + matching new (suc i) 1
  cons_gains i l = rw after_waiting
      (omega (
        arith,
        named_root plus u p i,
        rw is_new at (cons_root t ps f x y i free l),
        waiting_snoc root plus (suc i) ps p,
        waiting_snoc root minus (suc i) ps p,
        rises i,
        falls i,
      ))

  new_word_lem : (i : ℕ) → (matching new (suc i) 1 ≡ 0) ⊎ (new ≡ suc i)
  new_word_lem i = ⊎_elim (λ e. inr (eqb-true new (suc i) e)) (λ e. inl (matching_other new (suc i) 1 (eqb-false new (suc i) e))) (tested (eqb new (suc i)))

  goes_on : (i : ℕ) → occurrences (suc i) (new ∷ ws) ≡ matching new (suc i) 1 + occurrences (suc i) ws
  unfolding occurrences
  goes_on i = refl

  next_pointed : (i : ℕ) → i < capacity t → pointers v (suc i) + occurrences (suc i) (new ∷ ws) ≤ ceiling
  next_pointed i l =
      rw (named_pointers plus u p (suc i))
      (let m = wrote_pointers t u p wrote i in
      let o = goes_on i in
      ⊎_elim (λ z. omega (arith, (points i).0, (points i).1, r.pointed i l, waits i)) (λ z. at_new z m o) (new_word_lem i))
    where
      at_new : new ≡ suc i → pointers u (suc i) + moves cell minus p (suc i) ≡ pointers t (suc i) + moves cell plus p (suc i)
          → occurrences (suc i) (new ∷ ws) ≡ matching new (suc i) 1 + occurrences (suc i) ws
          → pointers u (suc i) + occurrences (suc i) (new ∷ ws) ≤ ceiling
      at_new z m o =
          let w = new_index in
          let k : i ≡ w.0 = omega (arith, w.1) in
          let g = new_unheld i l (rw k w.3) in
          omega (arith, g.0, g.1, (points i).0, (points i).1, waits i, matching_same new (suc i) 1 z)

  next_legal : words_legal v (new ∷ ws) ≡ true
  unfolding words_legal every_of
  next_legal =
      let w = new_index in
      let new-legal : is_legal (capacity t) new ≡ true = rw w.1 (cell_legal (capacity t) (suc w.0) (index_cell (capacity t) w.0 w.2)) in
      rw same (and_both new-legal (past_two (is_legal (capacity t) y) (is_legal (capacity t) x) (every_of ws (is_legal (capacity t))) r.legal))

  next_storable : words_storable (new ∷ ws) ≡ true
  unfolding words_storable every_of
  next_storable =
      let w = new_index in
      and_both (cell_storable new (omega (arith, w.1, w.2, f.most))) (past_two (may_be_stored y) (may_be_stored x) (every_of ws may_be_stored) r.storable)

  pub cons_ready : Ready v (appended q p) (new ∷ ws)
  cons_ready = record {
    whole = record { sound = row_sound s (cons x y) (unfold reads_nil in refl) sound r.whole.arrays cons_asked; arrays = arrays_appended q p r.whole.arrays };
    legal = next_legal;
    storable = next_storable;
    held = rw same (λ (i : ℕ) (l : i < capacity t). omega (arith, cons_gains i l, r.held i l, waits i, goes_on i));
    pointed = rw same next_pointed;
  }

  written_stands : Stands t u
  written_stands = each_new (λ v w. Stands t v) (λ n rest c. record {
    same_capacity = same_capacity_lem t ps f n rest c x y;
    used = λ i l e. keeps t ps f n rest c x y i e;
    fields = λ i k l m e. other t ps f n rest c x y i k (omega arith) (λ (d : i ≡ n). not_both (rw d at e) (was_free t ps f n rest c x y));
  })

  pub cons_stands : Stands t v
  cons_stands = stands_trans t u v written_stands (named_stands plus u p)

  pub cons_count : (appended q p).count ≡ q.count + 1
  unfolding appended put_slot
  cons_count = refl

  -- one cell less is free
  written_frees : free_cells u + 1 ≡ free_cells t
  written_frees = each_new (λ v w. free_cells v + 1 ≡ free_cells t) (λ n rest c.
      let v = with_cell t n x y in
      let sums = total_at (capacity t) (λ i. cond (is_free v i) 1 0) (λ i. cond (is_free t i) 1 0) n c.linked.1
      (λ i l d. ap (λ (b : Bool). cond b 1 0) (free_same t v i (same_use_lem t ps f n rest c x y i d))) in
      let now : is_free v n ≡ false = unfold is_free in rw (new_used t ps f n rest c x y) in
      let was : is_free t n ≡ true = not_in_use_free t n (was_free t ps f n rest c x y) in
      rw (same_capacity_lem t ps f n rest c x y)
      (omega (arith, select_length (capacity t) (is_free v), select_length (capacity t) (is_free t), rw (now, was) at sums)))

  pub cons_frees : free_cells v + 1 ≡ free_cells t
  cons_frees = rw (named_free plus u p) written_frees

  x_fit : Fit t x
  x_fit = waiting_fit t q x (y ∷ x ∷ ws) r (first_legal t x y legal_words) (λ i e. omega (arith, waits i, matching_same x (suc i) 1 e))

  y_fit : Fit t y
  y_fit = waiting_fit t q y (y ∷ x ∷ ws) r (second_legal t x y legal_words) (λ i e. omega (arith, waits i, matching_same y (suc i) 1 e))

  -- the new cell is the pair of both
  pub cons_opens : {a d : Tree} → OpensOut t x a → OpensOut t y d → OpensOut v new (pair a d)
  unfolding field
  cons_opens {a} {d} l m = named_opens plus u p (rw is_new at (each_new (λ v w. OpensOut v x a → OpensOut v y d → OpensOut v w (pair a d)) (λ n rest c g h.
      let at : pred (suc n) ≡ n = omega arith in
      opens (suc n) {a = a} {d = d} (rw (same_capacity_lem t ps f n rest c x y) (index_cell (capacity t) n c.linked.1))
      (rw (at, new_left t ps f n rest c x y) g) (rw (at, new_right t ps f n rest c x y) h))
      (opens_kept t u ps f written_stands x_fit l) (opens_kept t u ps f written_stands y_fit m)))

-- what building a tree gives, beside words that wait
pub record BuiltReady (s : Store) (ws : List ℕ) (tree : Tree) (b : Built) : Type 0 where
  pub ready : Ready b.after.table b.after.queue (b.word ∷ ws)
  pub stands : Stands s.table b.after.table
  pub opens : OpensOut b.after.table b.word tree
  pub count : b.after.queue.count ≡ s.queue.count + pairs tree
  pub frees : free_cells b.after.table + pairs tree ≡ free_cells s.table
  pub gains : (i : ℕ) → i < capacity s.table → Gains s.table s.queue b.after.table b.after.queue b.word i

-- a word that is no cell
leaf_ready : (s : Store) (ws : List ℕ) (w : ℕ) (tree : Tree) → Ready s.table s.queue ws → is_legal (capacity s.table) w ≡ true → may_be_stored w ≡ true
    → ((i : ℕ) → i < capacity s.table → matching w (suc i) 1 ≡ 0) → is_cell (capacity s.table) w ≡ false → leaf w ≡ tree → pairs tree ≡ 0
    → BuiltReady s ws tree (built w s)
unfolding words_legal words_storable every_of occurrences
leaf_ready s ws w tree r e m none c d z = record {
  ready = record {
    whole = r.whole;
    legal = and_both e r.legal;
    storable = and_both m r.storable;
    held = λ i l. omega (arith, r.held i l, none i l);
    pointed = λ i l. omega (arith, r.pointed i l, none i l);
  };
  stands = stands_refl s.table;
  opens = let z : OpensOut s.table w (leaf w) = ends w c in rw d at z;
  count = omega arith;
  frees = omega arith;
  gains = λ i l. omega (arith, none i l);
}

nil_legal : (c : ℕ) → is_legal c 0 ≡ true
unfolding is_legal is_nil
nil_legal c = or_left (is_atom 0) (or_left (is_cell c 0) refl)

atom_legal : (c v : ℕ) → v ≤ largest_value → is_legal c (first_atom + v) ≡ true
unfolding is_legal is_atom
atom_legal c v h = or_right (is_nil (first_atom + v) || is_cell c (first_atom + v)) (and_both (le-leb first_atom (first_atom + v) (omega arith)) (le-leb (first_atom + v) largest_word (omega arith)))

atom_no_cell : (c v : ℕ) → c ≤ most_cells → is_cell c (first_atom + v) ≡ false
unfolding is_cell
atom_no_cell c v h = rw (lt-leb (first_atom + v) c (omega arith)) (and-false (leb 1 (first_atom + v)))
  where
    and-false : (b : Bool) → b && false ≡ false
    and-false true = refl
    and-false false = refl

atom_leaf : (v : ℕ) → v ≤ largest_value → leaf (first_atom + v) ≡ atom v
unfolding leaf is_atom
atom_leaf v h =
    let value : first_atom + v - first_atom ≡ v = omega arith in
    rw (le-leb first_atom (first_atom + v) (omega arith), le-leb (first_atom + v) largest_word (omega arith), value)

head_legal : (t : List ℕ) (w : ℕ) (ws : List ℕ) → words_legal t (w ∷ ws) ≡ true → is_legal (capacity t) w ≡ true
unfolding words_legal every_of
head_legal t w ws h = and_first (is_legal (capacity t) w) (every_of ws (is_legal (capacity t))) h

head_waits : (w : ℕ) (ws : List ℕ) (i : ℕ) → w ≡ suc i → 1 ≤ occurrences (suc i) (w ∷ ws)
unfolding occurrences
head_waits w ws i e = omega (arith, matching_same w (suc i) 1 e)

pairs_pair : (a d : Tree) → pairs (pair a d) ≡ suc (pairs a + pairs d)
unfolding pairs
pairs_pair a d = refl

pair_ready : (s : Store) (ws : List ℕ) (m n : Tree) (a d : Built) → BuiltReady s ws m a → BuiltReady a.after (a.word ∷ ws) n d
    → s.queue.count + pairs (pair m n) ≤ slots → pairs (pair m n) ≤ free_cells s.table
    → (first_no (questions d.after (row (cons a.word d.word))) ≡ 0) × BuiltReady s ws (pair m n) (built_pair (consed d.after a.word d.word))
unfolding pairs
pair_ready s ws m n a d x y slot free =
    let o = d.after in
    let t = a.after.table in
    let room : o.queue.count < slots = omega (arith, x.count, y.count) in
    let some : cell_free o.table ≡ true = unfold cell_free in selected_some (capacity o.table) (is_free o.table) (omega (arith, x.frees, y.frees)) in
    let r = y.ready in
    let fit = waiting_fit t a.after.queue a.word (a.word ∷ ws) x.ready (head_legal t a.word ws x.ready.legal) (λ i e. head_waits a.word ws i e) in
    let kept = opens_kept t o.table (waiting a.after.queue) (sound_facts t a.after.queue x.ready.whole.sound) y.stands fit x.opens in (
      cons_asked o a.word d.word ws r room some,
      rw (consed_is o a.word d.word ws r room some) (record {
        ready = cons_ready o a.word d.word ws r room some;
        stands = stands_trans s.table o.table (named plus (written o.table (cons a.word d.word)) (packet_of o.table (cons a.word d.word)))
            (stands_trans s.table t o.table x.stands y.stands) (cons_stands o a.word d.word ws r room some);
        opens = cons_opens o a.word d.word ws r room some kept y.opens;
        count = omega (arith, cons_count o a.word d.word ws r room some, x.count, y.count);
        frees = omega (arith, cons_frees o a.word d.word ws r room some, x.frees, y.frees);
        gains = λ i l.
            let k : i < capacity t = rw x.stands.same_capacity l in
            let j : i < capacity o.table = rw y.stands.same_capacity k in
            omega (arith, x.gains i l, y.gains i k, cons_gains o a.word d.word ws r room some i j);
      }),
    )

-- on a sound store with cells and slots enough every cons is accepted
pub tree_ready : (s : Store) (ws : List ℕ) (tree : Tree) → Values tree → atoms_storable tree ≡ true → Ready s.table s.queue ws → s.queue.count + pairs tree ≤ slots
    → pairs tree ≤ free_cells s.table → AllAccepted s tree × BuiltReady s ws tree (build_by consed s tree)
unfolding build_by atoms_storable
tree_ready s ws nil v m r slot free =
    (tt, leaf_ready s ws 0 nil r (nil_legal (capacity s.table)) (cell_storable 0 (omega arith)) (λ i l. nil_no_cell i) (unfold is_cell in refl) (unfold leaf is_atom in refl) (unfold pairs in refl))
tree_ready s ws (atom n) v m r slot free =
    let most = (sound_facts s.table s.queue r.whole.sound).most in (
      tt,
      leaf_ready s ws (first_atom + n) (atom n) r (atom_legal (capacity s.table) n v) m
          (λ i l. matching_other (first_atom + n) (suc i) 1 (λ e. omega arith)) (atom_no_cell (capacity s.table) n most) (atom_leaf n v) (unfold pairs in refl),
    )
tree_ready s ws (pair a d) v m r slot free =
    let x = build_by consed s a in
    let y = build_by consed x.after d in
    let n = pairs_pair a d in
    let first = tree_ready s ws a v.0 (and_first (atoms_storable a) (atoms_storable d) m) r (omega arith) (omega arith) in
    let second = tree_ready x.after (x.word ∷ ws) d v.1 (and_second (atoms_storable a) (atoms_storable d) m) first.1.ready (omega (arith, first.1.count)) (omega (arith, first.1.frees)) in
    let both = pair_ready s ws a d x y first.1 second.1 slot free in
    ((first.0, second.0, both.0), both.1)

-- where nothing waits yet
pub none_wait : (t : List ℕ) (q : Queue) → Whole t q → Ready t q []
unfolding words_legal words_storable every_of occurrences
none_wait t q w =
    let f = sound_facts t q w.sound in
    record {
      whole = w;
      legal = refl;
      storable = refl;
      held = λ i l. omega (arith, final_sum (suc i) (word_at t i root_count) (waiting q) (f.replay i l));
      pointed = λ i l. omega (arith, pointers_most t q w.sound i l);
    }
