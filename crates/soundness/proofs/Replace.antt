-- The replaces: a field of a held cell is written, and the word detached stays protected by the packet.
use mathlib.Core.Path.{◌≡◌, sym, ◌∙◌}
use mathlib.Core.Logic.{◌⊎◌, inl, inr, ⊎_elim}
use mathlib.Core.Bool.{true, false, cond, ◌&&◌}
use mathlib.Core.List.{List, [], ◌∷◌, ◌++◌}
use Prim.Native.Nat.{ℕ, suc, pred, ◌≤◌, ◌<◌}
use native.Mathlib.Omega.{arith}
use lib.Dec.{eqb}
use borrow.Author.Tests.{eqb-true}
use Rattle.machine.specs.Words.{is_cell, is_legal}
use Rattle.machine.specs.Table.{stride, right, root_count, cell_count, state, capacity, word_at, put_word, in_use}
use Rattle.machine.specs.Queue.{Packet, packet}
use Rattle.machine.specs.Packets.{replaces, kind_of, names_of, names, uses_of, uses, contains}
use Rattle.machine.specs.Reached.{is_root_by_queue, points_to, ReachedByQueue}
use Rattle.machine.specs.Audit.{words_of_kind, packet_legal}
use Rattle.machine.proofs.Range.{tested, and_both, and_first, and_second, not_both, matching_same}
use Rattle.machine.proofs.Words.{cell_index}
use Rattle.machine.proofs.Table.{room, word_put, word_other, length_put_word, capacity_put_word, first_free_put_word, last_free_put_word}
use Rattle.soundness.proofs.Views.{shown, Same, put_view, put_same}
use Rattle.soundness.proofs.LegalPackets.{Fit, fit_grows, cell_legal, cell_used, names_three, LegalPacket, WrittenIn, second_of}
use Rattle.soundness.proofs.Stages.{shown_used, used_put, shown_put}
use Rattle.soundness.proofs.Facts.{Facts, Live}
use Rattle.soundness.proofs.HeldCounts.{replay_append}
use Rattle.soundness.proofs.FreeChain.{chain_same}
use Rattle.soundness.proofs.ReachedCells.{points_by, points_cases, reached_grows, root_stays, root_named}
use Rattle.soundness.proofs.NewPacket.{HeldFor, Wrote, append_facts, operand_fit}
use Rattle.soundness.proofs.RowQuestions.{Passed}

-- the field k of x gets y; n is the packet's kind
module _ (t : List ℕ) (ps : List Packet) (f : Facts t ps) (n k x y : ℕ) (kind : kind_of n ≡ replaces k) (low : k ≤ right)
    (cell : is_cell (capacity t) x ≡ true) (word : is_legal (capacity t) y ≡ true) where
  abbrev detached : ℕ
  detached = word_at t (pred x) k

  abbrev replace : Packet
  replace = packet n y detached x

  abbrev u : List ℕ
  u = put_word t (pred x) k y

  below : pred x < capacity t
  below = cell_index (capacity t) x cell

  used_as : (z : ℕ) → (x ≡ suc z) ⊎ (y ≡ suc z) → 1 ≤ uses replace (suc z)
  unfolding uses
  used_as z h = rw kind (unfold uses_of in ⊎_elim (λ e. omega (arith, matching_same x (suc z) 1 e)) (λ e. omega (arith, matching_same y (suc z) 1 e)) h)

  same_use_lem : (i : ℕ) → in_use u i ≡ in_use t i
  same_use_lem i = used_put t (pred x) k y i low

  other : (i m : ℕ) → m < stride → right < m → word_at u i m ≡ word_at t i m
  other i m l h = word_other t (pred x) k y i m (omega arith) l (λ _ e. omega arith)

  module _ (held : HeldFor t ps replace) where
    x_fit : Fit t x
    x_fit = operand_fit t ps f replace x held (cell_legal (capacity t) x cell) (λ i e. used_as i (inl e))

    y_fit : Fit t y
    y_fit = operand_fit t ps f replace y held word (λ i e. used_as i (inr e))

    x_used : in_use t (pred x) ≡ true
    x_used = cell_used t x cell x_fit

    detached_fit : Fit t detached
    detached_fit = f.fields (pred x) k below low x_used

    grows : (w : ℕ) → Fit t w → Fit u w
    grows w = fit_grows t u w (capacity_put_word t (pred x) k y) (λ i _ e. same_use_lem i ∙ e)

    at_field : WrittenIn t (pred x) k
    at_field = record { below = below; field = low; used = x_used }

    field_fits : (i m : ℕ) → i < capacity t → m ≤ right → in_use u i ≡ true → Fit u (word_at u i m)
    field_fits i m l h e =
        rw (word_put t (pred x) k y i m (room t (capacity t) (pred x) f.room below) (omega arith) (omega arith))
        (⊎_elim (λ (c : eqb k m && eqb (pred x) i ≡ true). rw c (grows y y_fit))
        (λ (c : eqb k m && eqb (pred x) i ≡ false). rw c (grows (word_at t i m) (f.fields i m l h (sym (same_use_lem i) ∙ e))))
        (tested (eqb k m && eqb (pred x) i)))

    -- the free cells are as they were
    free_words : (i m : ℕ) → i < capacity t → m < stride → in_use t i ≡ false → word_at u i m ≡ word_at t i m
    free_words i m l h e = word_other t (pred x) k y i m (omega arith) h (λ d _. not_both x_used (rw (← d) at e))

    undone_field : Same (capacity t) (put_view (shown u) (pred x) k detached) (shown t)
    undone_field i m l h = ⊎_elim here (λ (c : eqb k m && eqb (pred x) i ≡ false). unfold put_view in rw c (sees ∙ rw c)) (tested (eqb k m && eqb (pred x) i))
      where
        sees : shown u i m ≡ cond (eqb k m && eqb (pred x) i) y (shown t i m)
        sees = unfold put_view in shown_put t (pred x) k y f.room at_field i m l h

        here : eqb k m && eqb (pred x) i ≡ true → put_view (shown u) (pred x) k detached i m ≡ shown t i m
        here c =
            let d : k ≡ m = eqb-true k m (and_first (eqb k m) (eqb (pred x) i) c) in
            let e : pred x ≡ i = eqb-true (pred x) i (and_second (eqb k m) (eqb (pred x) i) c) in
            rw (← d, ← e) (put_same (shown u) (pred x) k detached ∙ sym (shown_used t (pred x) k x_used))

    holds_y : shown u (pred x) k ≡ y
    holds_y = shown_put t (pred x) k y f.room at_field (pred x) k below low ∙ put_same (shown t) (pred x) k y

    replace_legal : LegalPacket u replace
    unfolding packet_legal names
    replace_legal =
        let gy = grows y y_fit in
        let gd = grows detached detached_fit in
        record {
          words = rw kind (unfold words_of_kind in and_both (and_both gy.legal gd.legal) (rw (capacity_put_word t (pred x) k y) cell));
          names = rw kind (unfold names_of in names_three (Fit u) y detached x gy gd (grows x x_fit));
        }

    same_capacity_lem : capacity u ≡ capacity t
    same_capacity_lem = capacity_put_word t (pred x) k y

    same_root : (i : ℕ) → word_at u i root_count ≡ word_at t i root_count
    same_root i = other i root_count (omega arith) (omega arith)

    pub replace_wrote : Wrote t u replace
    replace_wrote = record { same_capacity = same_capacity_lem; below = rw kind (below, low); holds = rw kind holds_y; undoes = rw kind undone_field }

    pub replace_facts : Passed t u ps replace → Facts u (ps ++ (replace ∷ []))
    replace_facts a = append_facts t u ps replace f (record {
      same_length = length_put_word t (pred x) k y;
      wrote = replace_wrote;
      states = λ i l. rw (other i state (omega arith) (omega arith)) (f.states i l);
      roots = λ i l. rw (same_root i) (f.roots i l);
      counts = λ i l. other i cell_count (omega arith) (omega arith);
      keeps = λ i _ e. same_use_lem i ∙ e;
      fields = field_fits;
      free = f.free;
      chain = chain_same t u f.free same_capacity_lem (first_free_put_word t (pred x) k y) (last_free_put_word t (pred x) k y) (λ i _. same_use_lem i) free_words f.chain;
      legal = replace_legal;
      replay = λ i l. rw (same_root i) (replay_append (suc i) (word_at t i root_count) ps replace (f.replay i l) (held i l)
          (rw (same_root i) at (a.most i (rw same_capacity_lem l))));
      within = rw same_capacity_lem at a.within;
    })

    -- a pointer that the replace detached leads to a cell that the packet names
    edges : (j i : ℕ) → ReachedByQueue t ps j → i < capacity t → points_to t j i ≡ true → (points_to u j i ≡ true) ⊎ (is_root_by_queue u (ps ++ (replace ∷ [])) i ≡ true)
    edges j i _ l h = through (points_cases t j i h)
      where
        named : detached ≡ suc i → contains (names replace) (suc i) ≡ true
        named d = unfold names in rw kind (unfold names_of in rw (← d) (second_of y detached (x ∷ [])))

        through : (b : ℕ) × (b ≤ right) × (word_at t j b ≡ suc i) → (points_to u j i ≡ true) ⊎ (is_root_by_queue u (ps ++ (replace ∷ [])) i ≡ true)
        through w =
            ⊎_elim (λ c. inr (root_named u ps replace i (named (here c)))) (λ c. inl (points_by u j i w.0 w.1 (there c ∙ w.2)))
            (tested (eqb k w.0 && eqb (pred x) j))
          where
            here : eqb k w.0 && eqb (pred x) j ≡ true → detached ≡ suc i
            here c =
                let d : k ≡ w.0 = eqb-true k w.0 (and_first (eqb k w.0) (eqb (pred x) j) c) in
                let g : pred x ≡ j = eqb-true (pred x) j (and_second (eqb k w.0) (eqb (pred x) j) c) in
                rw (d, g) w.2

            there : eqb k w.0 && eqb (pred x) j ≡ false → word_at u j w.0 ≡ word_at t j w.0
            there c =
                let v = w.1 in
                word_put t (pred x) k y j w.0 (room t (capacity t) (pred x) f.room below) (omega arith) (omega arith) ∙ rw c

    pub replace_live : Live t ps → Live u (ps ++ (replace ∷ []))
    replace_live live i l e =
        reached_grows t u ps (ps ++ (replace ∷ [])) same_capacity_lem (λ j _. root_stays t u ps replace j (λ h. rw (same_root j) h)) edges
        (live i (rw same_capacity_lem at l) (sym (same_use_lem i) ∙ e))
