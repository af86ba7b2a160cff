-- S4: one packet undone, on plain lists.
use mathlib.Core.Path.{◌≡◌, refl, sym, ap, ◌∙◌, subst}
use mathlib.Core.Logic.{⊎_elim}
use mathlib.Core.Bool.{Bool, true, false, not, ◌&&◌, ◌||◌, false≢true}
use mathlib.Core.List.{List}
use Prim.Native.Nat.{ℕ, suc, pred, ◌+◌, ◌-◌, ◌≤◌, ◌<◌}
use native.Mathlib.Omega.{arith}
use native.Mathlib.Numerals.{sub-one}
use lib.Dec.{leb, eqb}
use lib.ListN.{length, get_or}
use borrow.Author.Tests.{leb-true, le-leb, eqb-true, eqb-false, eq-eqb, ne_eqb}
use Rattle.machine.specs.declared.Queue.{Queue}
use Rattle.machine.specs.Audit.{undoable_of, undone_of, undoable, undone, before}
use Rattle.machine.specs.Calls.{field}
use Rattle.machine.specs.Counts.{pointers}
use Rattle.machine.specs.Packets.{Kind, makes, replaces, kind_of}
use Rattle.machine.specs.Questions.{pointers_within}
use Rattle.machine.specs.Queue.{Packet}
use Rattle.machine.specs.Range.{matching}
use Rattle.machine.specs.Table.{left, right, capacity, table_length, word_at, put_word, in_use}
use Rattle.machine.specs.Words.{is_cell, ceiling, most_cells}
use Rattle.machine.proofs.Range.{tested, and_both, or_right, matching_other, same_tests}
use Rattle.machine.proofs.Table.{word_other, length_put_word, capacity_put_word}
use Rattle.machine.proofs.Undo.{within_is}
use Rattle.machine.proofs.Words.{cell_index, index_cell}
use Rattle.audit_packets.specs.Packets.{packet_on}
use Rattle.audit_pointers.specs.EarlierFields.{newer, stage_field}
use Rattle.scratch_counts.specs.Counts.{CountUp, CountDown, RoomForOne}
use Rattle.audit_pointers.specs.PointerCounts.{count_within, word_within}
use Rattle.audit_pointers.specs.UndoStages.{stage, UsedCell, Undoable, Undoes, UndoesKind, UndoesPacket}
use Rattle.audit_pointers.proofs.FieldPointers.{use_put, pointers_put}
use Rattle.audit_pointers.proofs.EarlierFields.{AllPlaced, PlacedOf, Placed, all_placed, newer_step, Refielded, refielded, stage_field_lem, Keeps, kept_undo}
use Rattle.audit_pointers.proofs.PointerCounts.{nil_within}
use Rattle.audit_cells.proofs.Tests.{and_no_first, and_no_second, and_decides}

-- a word is matched by no cell if it is nil
nil_matches : (i : ℕ) → matching 0 (suc i) 1 ≡ 0
nil_matches i = matching_other 0 (suc i) 1 (λ e. omega arith)

-- where only the word b can have gained a pointer, b alone is tested
module _ (v v' : List ℕ) (c b : ℕ) (s : List ℕ) (cv : capacity v ≡ c) (cv' : capacity v' ≡ c) (w : pointers_within v ≡ true)
    (gain : (i : ℕ) → i < c → pointers v' (suc i) ≤ pointers v (suc i) + matching b (suc i) 1)
    (counts : (i : ℕ) → i < c → get_or s i 0 ≡ pointers v' (suc i)) where
  there : word_within c s b ≡ true → (i : ℕ) → i < capacity v' → pointers v' (suc i) ≤ ceiling
  unfolding word_within count_within
  there h i l =
      ⊎_elim (λ e. here (eqb-true b (suc i) e))
      (λ e. omega (arith, gain i (omega arith), (within_is v).0 w i (omega arith), matching_other b (suc i) 1 (eqb-false b (suc i) e)))
      (tested (eqb b (suc i)))
    where
      here : b ≡ suc i → pointers v' (suc i) ≤ ceiling
      here e =
          let k = rw e at h in
          let m = leb-true (get_or s i 0) ceiling (rw (index_cell c i (omega arith)) at k) in
          omega (arith, counts i (omega arith))

  back : pointers_within v' ≡ true → word_within c s b ≡ true
  unfolding word_within count_within
  back h = ⊎_elim cell (λ (e : is_cell c b ≡ false). rw e) (tested (is_cell c b))
    where
      cell : is_cell c b ≡ true → not (is_cell c b) || leb (get_or s (pred b) 0) ceiling ≡ true
      cell e =
          let l = cell_index c b e in
          or_right (not (is_cell c b)) (le-leb (get_or s (pred b) 0) ceiling (omega (arith, counts (pred b) l, (within_is v').0 h (pred b) (omega arith))))

  within_word : word_within c s b ≡ pointers_within v'
  within_word = same_tests (word_within c s b) (pointers_within v') (λ h. (within_is v').1 (there h)) back

-- refused: a field does not hold what it must
undoes_no : (v v' : List ℕ) (holds : Bool) (c : ℕ) (s : List ℕ) → holds ≡ false → Undoes v v' holds c s s false
undoes_no v v' holds c s h = record {
  answer = sym (and_no_first (pointers_within v') h);
  each = λ e. absurd (false≢true e);
  past = refl;
}

module _ (t : List ℕ) (q : Queue) (j : ℕ) (s : List ℕ) (h : Undoable t q j s) where
  abbrev v : List ℕ
  v = stage t q (j + 1)

  few : capacity t ≤ most_cells
  few = h.able.lent.shape.table.most

  all : AllPlaced t (newer q (j + 1))
  all = let l = h.some in all_placed q t few h.able.legal (j + 1) (omega arith)

  pub re : Refielded t v
  unfolding stage
  re = refielded t (newer q (j + 1)) all

  -- the field that the code finds is the stage's
  pub found : (i k w : ℕ) → k ≤ right → w ≡ stage_field t (newer q (j + 1)) i k → w ≡ word_at v i k
  unfolding stage
  found i k w l e = e ∙ sym (stage_field_lem t (newer q (j + 1)) h.able.lent.shape.table.room all i k l)

  long : table_length (capacity v) ≤ length v
  long = rw (re.same_capacity, re.same_length) h.able.lent.shape.table.room

  pub undo_room : (c : ℕ) → c ≡ capacity t → RoomForOne c s
  undo_room c e i l = omega (arith, h.each i (omega arith), (within_is v).0 h.within i (omega (arith, re.same_capacity)))

  module _ (x : ℕ) (u : UsedCell t x) where
    low : pred x < capacity v
    low = rw re.same_capacity (let a = u.some in let b = u.below in omega arith)

    used : in_use v (pred x) ≡ true
    used = re.same_use (pred x) ∙ u.used

    module _ (k a b w : ℕ) (lk : k ≤ right) (e : w ≡ stage_field t (newer q (j + 1)) (x - 1) k) where
      holds : w ≡ field v x k
      unfolding field
      holds = found (x - 1) k w lk e ∙ ap (λ (i : ℕ). word_at v i k) (sub-one x)

      pub replace_no : (w ≡ a → ⊥) → UndoesKind t q j (replaces k) a b x s s false
      unfolding undoable_of
      replace_no d = undoes_no v (undone_of v (replaces k) a b x) (eqb (field v x k) a) (capacity t) s (ne_eqb (field v x k) a (λ f. d (holds ∙ f)))

      pub replace_yes : (c : ℕ) (s₁ s₂ : List ℕ) (r : Bool) → c ≡ capacity t → w ≡ a → CountUp c b s s₁ → CountDown c a s₁ s₂ → r ≡ word_within c s₂ b
          → UndoesKind t q j (replaces k) a b x s s₂ r
      unfolding undoable_of undone_of
      replace_yes c s₁ s₂ r m f up down g = record {
        answer = g
            ∙ within_word v v' c b s₂ (re.same_capacity ∙ sym m) (capacity_put_word v (pred x) k b ∙ re.same_capacity ∙ sym m) h.within
            (λ i l. omega (arith, sum i)) counts
            ∙ and_decides (pointers_within v') (eq-eqb (field v x k) a (sym holds ∙ f));
        each = λ _ i l. counts i (omega arith);
        past = rw (← m) (down.past ∙ up.past);
      }
        where
          v' : List ℕ
          v' = put_word v (pred x) k b

          held : word_at v (pred x) k ≡ a
          held = unfold field in (sym holds ∙ f)

          sum : (i : ℕ) → pointers v' (suc i) + matching a (suc i) 1 ≡ pointers v (suc i) + matching b (suc i) 1
          sum i = ap (λ (n : ℕ). pointers v' (suc i) + matching n (suc i) 1) (sym held) ∙ pointers_put v (pred x) k b (suc i) long low lk used

          counts : (i : ℕ) → i < c → get_or s₂ i 0 ≡ pointers v' (suc i)
          counts i l = omega (arith, sum i, h.each i (omega arith), up.each i l, down.each i l)

    module _ (a b w z : ℕ) (el : w ≡ stage_field t (newer q (j + 1)) (x - 1) left) where
      pub cons_no_left : (w ≡ a → ⊥) → UndoesKind t q j makes a b x s s false
      unfolding undoable_of
      cons_no_left d =
          undoes_no v (undone_of v makes a b x) (eqb (field v x left) a && eqb (field v x right) b) (capacity t) s
          (and_no_first (eqb (field v x right) b) (ne_eqb (field v x left) a (λ f. d (holds left a b w (omega arith) el ∙ f))))

      module _ (er : z ≡ stage_field t (newer q (j + 1)) (x - 1) right) where
        pub cons_no_right : (z ≡ b → ⊥) → UndoesKind t q j makes a b x s s false
        unfolding undoable_of
        cons_no_right d =
            undoes_no v (undone_of v makes a b x) (eqb (field v x left) a && eqb (field v x right) b) (capacity t) s
            (and_no_second (eqb (field v x left) a) (ne_eqb (field v x right) b (λ f. d (holds right a b z (omega arith) er ∙ f))))

        pub cons_yes : (c : ℕ) (s₁ s₂ : List ℕ) → c ≡ capacity t → w ≡ a → z ≡ b → CountDown c a s s₁ → CountDown c b s₁ s₂
            → UndoesKind t q j makes a b x s s₂ true
        unfolding undoable_of undone_of
        cons_yes c s₁ s₂ m f g one two = record {
          answer = sym (nil_within c s₂)
              ∙ within_word v v₂ c 0 s₂ (re.same_capacity ∙ sym m) (cap ∙ re.same_capacity ∙ sym m) h.within (λ i l. omega (arith, sum i)) counts
              ∙ and_decides (pointers_within v₂)
              (and_both (eq-eqb (field v x left) a (sym (holds left a b w (omega arith) el) ∙ f))
              (eq-eqb (field v x right) b (sym (holds right a b z (omega arith) er) ∙ g)));
          each = λ _ i l. counts i (omega arith);
          past = rw (← m) (two.past ∙ one.past);
        }
          where
            v₁ : List ℕ
            v₁ = put_word v (pred x) left 0

            v₂ : List ℕ
            v₂ = put_word v₁ (pred x) right 0

            cap : capacity v₂ ≡ capacity v
            cap = capacity_put_word v₁ (pred x) right 0 ∙ capacity_put_word v (pred x) left 0

            held_left : word_at v (pred x) left ≡ a
            held_left = unfold field in (sym (holds left a b w (omega arith) el) ∙ f)

            held_right : word_at v₁ (pred x) right ≡ b
            held_right =
                word_other v (pred x) left 0 (pred x) right (omega arith) (omega arith) (λ _ y. omega arith)
                ∙ (unfold field in (sym (holds right a b z (omega arith) er) ∙ g))

            first : (i : ℕ) → pointers v₁ (suc i) + matching a (suc i) 1 ≡ pointers v (suc i) + matching 0 (suc i) 1
            first i =
                ap (λ (n : ℕ). pointers v₁ (suc i) + matching n (suc i) 1) (sym held_left)
                ∙ pointers_put v (pred x) left 0 (suc i) long low (omega arith) used

            second : (i : ℕ) → pointers v₂ (suc i) + matching b (suc i) 1 ≡ pointers v₁ (suc i) + matching 0 (suc i) 1
            second i =
                ap (λ (n : ℕ). pointers v₂ (suc i) + matching n (suc i) 1) (sym held_right)
                ∙ pointers_put v₁ (pred x) right 0 (suc i) (rw (capacity_put_word v (pred x) left 0, length_put_word v (pred x) left 0) long)
                (rw (capacity_put_word v (pred x) left 0) low) (omega arith) (use_put v (pred x) left 0 (suc i) long low (omega arith) used (pred x) ∙ used)

            sum : (i : ℕ) → pointers v₂ (suc i) + matching a (suc i) 1 + matching b (suc i) 1 ≡ pointers v (suc i)
            sum i = omega (arith, first i, second i, nil_matches i)

            counts : (i : ℕ) → i < c → get_or s₂ i 0 ≡ pointers v₂ (suc i)
            counts i l = omega (arith, sum i, h.each i (omega arith), one.each i l, two.each i l)

-- the packet that waits there, by its kind
used_cell : (t : List ℕ) (c : ℕ) → (c ≡ suc (pred c)) → pred c < capacity t → in_use t (pred c) ≡ true → UsedCell t c
used_cell t c e l u = record { some = omega arith; below = omega arith; used = u }

module _ (t : List ℕ) (q : Queue) (j : ℕ) (s : List ℕ) (h : Undoable t q j s) where
  here_placed : Placed t (packet_on q j)
  here_placed =
      let l = h.some in
      (subst (AllPlaced t) (newer_step q j h.some) (all_placed q t h.able.lent.shape.table.most h.able.legal j (omega arith))).0

  module _ (p : Packet) (e : p ≡ packet_on q j) where
    placed_kind : (κ : Kind) → kind_of p.kind ≡ κ → PlacedOf t κ p.c
    placed_kind κ k = rw k at (rw (← e) at here_placed)

    pub makes_used : kind_of p.kind ≡ makes → UsedCell t p.c
    makes_used k = let w = placed_kind makes k in used_cell t p.c w.0 w.1 w.2

    pub replaces_used : (f : ℕ) → kind_of p.kind ≡ replaces f → UsedCell t p.c
    replaces_used f k = let w = placed_kind (replaces f) k in used_cell t p.c w.0 w.1 w.2

    stage_undone : stage t q j ≡ undone (stage t q (j + 1)) p
    unfolding stage before
    stage_undone = ap (before t) (newer_step q j h.some) ∙ ap (undone (before t (newer q (j + 1)))) (sym e)

    pub undo_kind : (κ : Kind) (s' : List ℕ) (r : Bool) → kind_of p.kind ≡ κ → UndoesKind t q j κ p.a p.b p.c s s' r → UndoesPacket t q j s s' r
    undo_kind κ s' r k u =
        subst (λ (z : List ℕ). Undoes (stage t q (j + 1)) z (undoable (stage t q (j + 1)) (packet_on q j)) (capacity t) s s' r) (as_undone ∙ sym stage_undone)
        (subst (λ (b : Bool). Undoes (stage t q (j + 1)) (undone_of (stage t q (j + 1)) κ p.a p.b p.c) b (capacity t) s s' r)
        (as_undoable ∙ ap (undoable (stage t q (j + 1))) e) u)
      where
        as_undone : undone_of (stage t q (j + 1)) κ p.a p.b p.c ≡ undone (stage t q (j + 1)) p
        as_undone = unfold undone in (rw k)

        as_undoable : undoable_of (stage t q (j + 1)) κ p.a p.b p.c ≡ undoable (stage t q (j + 1)) p
        as_undoable = unfold undoable in (rw k)

    -- a packet that wrote no field
    pub undo_kept : Keeps (kind_of p.kind) → UndoesPacket t q j s s true
    undo_kept k =
        let d = stage_undone ∙ (kept_undo (stage t q (j + 1)) p k).0 in
        record {
          answer = sym (and_both (ap (undoable (stage t q (j + 1))) (sym e) ∙ (kept_undo (stage t q (j + 1)) p k).1) (ap pointers_within d ∙ h.within));
          each = λ _ i l. h.each i l ∙ ap (λ (z : List ℕ). pointers z (suc i)) (sym d);
          past = refl;
        }
