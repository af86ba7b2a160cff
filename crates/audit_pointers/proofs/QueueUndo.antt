-- S4: all packets undone, newest first, from the table as it stands to the compared cell counts.
use mathlib.Core.Path.{◌≡◌, refl, sym, ap, ◌∙◌}
use mathlib.Core.Bool.{Bool, true, false, ◌&&◌}
use mathlib.Core.List.{List, ◌∷◌}
use Prim.Native.Nat.{ℕ, zero, suc, ◌+◌, ◌-◌, ◌≤◌, ◌<◌}
use native.Mathlib.Omega.{arith}
use native.Mathlib.Numerals.{add-one}
use lib.Dec.{leb, eqb}
use lib.ListN.{length, drop}
use Rattle.machine.specs.declared.Queue.{Queue}
use Rattle.machine.specs.Audit.{undoable, before, undoes, pointers_sound}
use Rattle.machine.specs.Counts.{pointers}
use Rattle.machine.specs.Questions.{pointers_within}
use Rattle.machine.specs.Queue.{waiting}
use Rattle.machine.specs.Range.{every}
use Rattle.machine.specs.Table.{cell_count, capacity, scratch_words, word_at}
use Rattle.machine.specs.Words.{ceiling}
use Rattle.machine.proofs.Range.{not_both, and_both, and_first, and_second, refuted}
use Rattle.machine.proofs.Undo.{undoes_within}
use Rattle.audit_packets.specs.Packets.{packet_on}
use Rattle.audit_pointers.specs.EarlierFields.{newer}
use Rattle.scratch_counts.specs.Counts.{count_matches}
use Rattle.audit_pointers.specs.PointerCounts.{Counted, count_within}
use Rattle.audit_pointers.specs.UndoStages.{stage, Stageable, Undoing, Undoable, UndoesPacket}
use Rattle.audit_pointers.proofs.EarlierFields.{newer_step, newer_none, newer_all}
use Rattle.audit_cells.proofs.Tests.{and_decides, every_same}

module _ (t : List ℕ) (q : Queue) where
  undoes_step : (j : ℕ) → j < q.count
      → undoes t (newer q j) ≡ undoes t (newer q (j + 1)) && (undoable (stage t q (j + 1)) (packet_on q j) && pointers_within (stage t q j))
  unfolding stage undoes
  undoes_step j l =
      rw (newer_step q j l)
      (assoc (undoes t (newer q (j + 1))) (undoable (before t (newer q (j + 1))) (packet_on q j)) (pointers_within (before t (packet_on q j ∷ newer q (j + 1)))))
    where
      assoc : (a b c : Bool) → a && b && c ≡ a && (b && c)
      assoc true b c = refl
      assoc false b c = refl

  pub undo_next : (j : ℕ) (s₀ s : List ℕ) → Undoing t q j s₀ s → 0 < j → Undoable t q (j - 1) s
  undo_next j s₀ s h l =
      let m = h.some in
      let e : j - 1 + 1 ≡ j = omega arith in record {
        able = h.able;
        some = omega arith;
        each = λ i b. h.each i b ∙ ap (λ (n : ℕ). pointers (stage t q n) (suc i)) (sym e);
        within = ap (λ (n : ℕ). pointers_within (stage t q n)) e ∙ unfold stage in (undoes_within t (newer q j) h.holds);
      }

  -- the scratch keeps its length
  stageable_kept : (s s' : List ℕ) → Stageable t q s → length s' ≡ length s → Stageable t q s'
  stageable_kept s s' a n = record { lent = record { shape = a.lent.shape; scratch = rw n a.lent.scratch }; legal = a.legal }

  pub undo_more : (j : ℕ) (s₀ s s' : List ℕ) (r : Bool) → Undoing t q j s₀ s → 0 < j → UndoesPacket t q (j - 1) s s' r → r ≡ true
      → length s' ≡ length s → Undoing t q (j - 1) s₀ s'
  undo_more j s₀ s s' r h l u k n =
      let m = h.some in
      let e : j - 1 + 1 ≡ j = omega arith in record {
        able = stageable_kept s s' h.able n;
        some = omega arith;
        holds = undoes_step (j - 1) (omega arith) ∙ and_both (ap (λ (i : ℕ). undoes t (newer q i)) e ∙ h.holds) (sym u.answer ∙ k);
        each = u.each k;
        past = u.past ∙ h.past;
        same = n ∙ h.same;
      }

  -- sound pointers are undone to any packet
  undoes_to : undoes t (waiting q) ≡ true → (j : ℕ) → j ≤ q.count → undoes t (newer q j) ≡ true
  undoes_to h zero l = ap (undoes t) (newer_all q) ∙ h
  undoes_to h (suc j) l =
      ap (λ (n : ℕ). undoes t (newer q n)) (sym (add-one j))
      ∙ and_first (undoes t (newer q (j + 1))) (undoable (stage t q (j + 1)) (packet_on q j) && pointers_within (stage t q j))
      (sym (undoes_step j (omega arith)) ∙ undoes_to h j (omega arith))

  sound_undoes : pointers_sound t (waiting q) ≡ true → undoes t (waiting q) ≡ true
  unfolding pointers_sound
  sound_undoes h = and_first (undoes t (waiting q)) (every (capacity t) (λ i. eqb (word_at t i cell_count) (pointers (before t (waiting q)) (suc i)))) h

  pub undo_broken : (j : ℕ) (s s' : List ℕ) (r : Bool) → j ≤ q.count → 0 < j → UndoesPacket t q (j - 1) s s' r → r ≡ false
      → pointers_sound t (waiting q) ≡ false
  undo_broken j s s' r m l u k =
      refuted (pointers_sound t (waiting q)) (λ h. not_both
      (and_second (undoes t (newer q (j - 1 + 1))) (undoable (stage t q (j - 1 + 1)) (packet_on q (j - 1)) && pointers_within (stage t q (j - 1)))
      (sym (undoes_step (j - 1) (omega arith)) ∙ undoes_to (sound_undoes h) (j - 1) (omega arith)))
      (sym u.answer ∙ k))

  -- at the end the cell counts are compared
  pub undo_done : (j : ℕ) (s₀ s : List ℕ) → Undoing t q j s₀ s → j ≡ 0 → every (capacity t) (count_matches cell_count t s) ≡ pointers_sound t (waiting q)
  unfolding pointers_sound count_matches
  undo_done j s₀ s h z =
      every_same (capacity t) (count_matches cell_count t s) same (λ i l. ap (eqb (word_at t i cell_count)) (h.each i l ∙ ap (λ (v : List ℕ). pointers v (suc i)) end))
      ∙ and_decides (every (capacity t) same) (ap (undoes t) (sym all_of) ∙ h.holds)
    where
      all_of : newer q j ≡ waiting q
      all_of = ap (newer q) z ∙ newer_all q

      end : stage t q j ≡ before t (waiting q)
      end = unfold stage in (ap (before t) all_of)

      same : ℕ → Bool
      same i = eqb (word_at t i cell_count) (pointers (before t (waiting q)) (suc i))

  -- at the start the table as it stands
  module _ (c : ℕ) (s s₁ : List ℕ) (m : c ≡ capacity t) (h : Counted t c s s₁) where
    pub start_past : drop (scratch_words (capacity t)) s₁ ≡ drop (scratch_words (capacity t)) s
    start_past = rw (← m) h.past

    start_within : every c (count_within s₁) ≡ pointers_within t
    unfolding pointers_within count_within
    start_within =
        every_same c (count_within s₁) (λ i. leb (pointers t (suc i)) ceiling) (λ i l. ap (λ (n : ℕ). leb n ceiling) (h.each i l))
        ∙ ap (λ (n : ℕ). every n (λ i. leb (pointers t (suc i)) ceiling)) m

    pub start_broken : every c (count_within s₁) ≡ false → pointers_sound t (waiting q) ≡ false
    start_broken k =
        refuted (pointers_sound t (waiting q)) (λ e. not_both (last_stage (undoes_to (sound_undoes e) q.count (omega arith))) (sym start_within ∙ k))
      where
        last_stage : undoes t (newer q q.count) ≡ true → pointers_within t ≡ true
        last_stage u = unfold undoes in (rw (newer_none q q.count refl) at u)

    pub undo_start : every c (count_within s₁) ≡ true → Stageable t q s → length s₁ ≡ length s → Undoing t q q.count s₁ s₁
    undo_start k a n = record {
      able = stageable_kept s s₁ a n;
      some = omega arith;
      holds = unfold undoes in (rw (newer_none q q.count refl) (sym start_within ∙ k));
      each = λ i l. h.each i (omega arith) ∙ ap (λ (v : List ℕ). pointers v (suc i)) none;
      past = refl;
      same = refl;
    }
      where
        none : t ≡ stage t q q.count
        none = unfold stage before in (sym (ap (before t) (newer_none q q.count refl)))
