-- Cons: the first free cell leaves the chain and is in use, with both operands and root count 1.
use mathlib.Core.Path.{◌≡◌, refl, sym, ap, ap₂, ◌∙◌}
use mathlib.Core.Logic.{◌⊎◌, inl, inr, ⊎_elim, ◌≢◌}
use mathlib.Core.Bool.{Bool, true, false, cond}
use mathlib.Core.List.{List, [], ◌∷◌, ◌++◌, map}
use Prim.Native.Nat.{ℕ, zero, suc, pred, ◌+◌, ◌≤◌, ◌<◌}
use native.Mathlib.Omega.{arith}
use lib.Dec.{eqb, ltb, eqb-suc-zero}
use lib.ListN.{length, get_or}
use borrow.Author.Tests.{eqb-true, eqb-false, eq-eqb, lt-ltb}
use Rattle.machine.specs.Range.{matching, occurrences, last_of}
use Rattle.machine.specs.Words.{is_legal, ceiling}
use Rattle.machine.specs.Table.{stride, left, right, root_count, cell_count, state, name_count, capacity, first_free, last_free, new_cell, word_at, put_ends, put_cell, in_use, is_free}
use Rattle.machine.specs.Queue.{Packet, packet}
use Rattle.machine.specs.Packets.{kind_of, names_of, names, uses_of, uses, is_named}
use Rattle.machine.specs.Reached.{is_root_by_queue, points_to, begun, ReachedByQueue}
use Rattle.machine.specs.Audit.{replays, words_of_kind, packet_legal}
use Rattle.machine.specs.Facts.{Linked, Chain}
use Rattle.machine.proofs.Range.{tested, or_left, and_both, not_both, matching_same, matching_other}
use Rattle.machine.proofs.Words.{index_cell}
use Rattle.machine.proofs.Table.{Inside, room, cell_word, cell_other, word_put_ends, length_put_ends, length_put_cell, capacity_put_ends, capacity_put_cell, first_free_put_ends, first_free_put_cell, last_free_put_ends, last_free_put_cell, free_not_in_use, not_in_use_free}
use Rattle.soundness.proofs.Views.{shown, Same, put_view, put_same, put_other}
use Rattle.soundness.proofs.LegalPackets.{Fit, fit_grows, cell_legal, names_three, LegalPacket}
use Rattle.soundness.proofs.Stages.{shown_used, shown_free}
use Rattle.soundness.proofs.Facts.{Facts, Live, free_zero, free_unnamed}
use Rattle.soundness.proofs.HeldCounts.{replay_append, replays_unnamed}
use Rattle.soundness.proofs.FreeChain.{linked_same, chain_free, free_same}
use Rattle.soundness.proofs.ReachedCells.{points_by, points_cases, reached_used, reached_grows, root_stays}
use Rattle.soundness.proofs.NewPacket.{Wrote, append_facts, operand_fit}
use Rattle.soundness.proofs.RowQuestions.{Passed}

occurrences_head : (i : ℕ) (is : List ℕ) (j : ℕ) → occurrences j (i ∷ is) ≡ matching i j 1 + occurrences j is
unfolding occurrences
occurrences_head i is j = refl

-- the cell at index new leaves the head of the chain and becomes one of x and y
abbrev pub with_cell : List ℕ → ℕ → ℕ → ℕ → List ℕ
with_cell t new x y = put_cell (put_ends t (word_at t new left) (cond (eqb (word_at t new left) 0) 0 (last_free t))) new (new_cell x y)

module _ (t : List ℕ) (ps : List Packet) (f : Facts t ps) (new : ℕ) (rest : List ℕ) (chain : Chain t (new ∷ rest)) (x y : ℕ) where
  abbrev next : ℕ
  next = word_at t new left

  abbrev last : ℕ
  last = cond (eqb next 0) 0 (last_free t)

  abbrev ended : List ℕ
  ended = put_ends t next last

  abbrev u : List ℕ
  u = with_cell t new x y

  abbrev make : Packet
  make = packet 2 x y (suc new)

  below : new < capacity t
  below = chain.linked.1

  inside : Inside ended new
  inside = room ended (capacity t) new (rw (length_put_ends t next last) f.room) below

  long : 2 < length t
  long = let r = f.room in omega arith

  pub same_capacity_lem : capacity u ≡ capacity t
  same_capacity_lem = capacity_put_cell ended new (new_cell x y) refl ∙ capacity_put_ends t next last

  -- the new cell's words, and the others'
  new_word_lem : (k : ℕ) → k < stride → word_at u new k ≡ get_or (new_cell x y) k 0
  new_word_lem k l = cell_word ended new (new_cell x y) refl inside k l

  pub new_left : word_at u new left ≡ x
  new_left = new_word_lem left (omega arith)

  pub new_right : word_at u new right ≡ y
  new_right = new_word_lem right (omega arith)

  new_root : word_at u new root_count ≡ 1
  new_root = new_word_lem root_count (omega arith)

  pub other : (i k : ℕ) → k < stride → i ≢ new → word_at u i k ≡ word_at t i k
  other i k l d = cell_other ended new (new_cell x y) refl i k l (λ e. d (sym e)) ∙ word_put_ends t next last i k

  is_new : (i : ℕ) → (i ≡ new) ⊎ (i ≢ new)
  is_new i = ⊎_elim (λ e. inl (eqb-true i new e)) (λ e. inr (eqb-false i new e)) (tested (eqb i new))

  -- a fact of every cell, by whether it is the new one
  each_cell : (P : ℕ → Type 0) → P new → ((i : ℕ) → i ≢ new → P i) → (i : ℕ) → P i
  each_cell P h g i = ⊎_elim (λ (e : i ≡ new). rw e h) (g i) (is_new i)

  pub was_free : in_use t new ≡ false
  unfolding occurrences
  was_free = free_not_in_use t new (chain_free t (new ∷ rest) chain new below (omega (arith, matching_same new new 1 refl)))

  pub new_used : in_use u new ≡ true
  unfolding in_use
  new_used = lt-ltb 0 (word_at u new state) (omega (arith, new_word_lem state (omega arith)))

  -- the new cell has the root count 1, and no other root count changes
  pub cons_roots : (i : ℕ) → i < capacity t → word_at u i root_count ≡ word_at t i root_count + matching (suc new) (suc i) 1
  cons_roots = each_cell (λ i. i < capacity t → word_at u i root_count ≡ word_at t i root_count + matching (suc new) (suc i) 1)
      (λ _. omega (arith, new_root, free_zero t ps f new root_count below was_free (omega arith) (omega arith), matching_same (suc new) (suc new) 1 refl))
      (λ i d _. omega (arith, other i root_count (omega arith) d, matching_other (suc new) (suc i) 1 (λ e. d (omega arith))))

  -- no packet names the new cell yet, as none named it while it was free
  pub cons_names : (i : ℕ) → i < capacity t → word_at u i name_count ≡ word_at t i name_count
  cons_names = each_cell (λ i. i < capacity t → word_at u i name_count ≡ word_at t i name_count)
      (λ _. new_word_lem name_count (omega arith) ∙ sym (free_zero t ps f new name_count below was_free (omega arith) (omega arith)))
      (λ i d _. other i name_count (omega arith) d)

  pub same_use_lem : (i : ℕ) → i ≢ new → in_use u i ≡ in_use t i
  unfolding in_use
  same_use_lem i d = ap (ltb 0) (other i state (omega arith) d)

  pub keeps : (i : ℕ) → in_use t i ≡ true → in_use u i ≡ true
  keeps = each_cell (λ i. in_use t i ≡ true → in_use u i ≡ true) (λ _. new_used) (λ i d e. same_use_lem i d ∙ e)

  grows : (w : ℕ) → Fit t w → Fit u w
  grows w = fit_grows t u w same_capacity_lem (λ i _. keeps i)

  -- the chain goes on with the rest
  not_again : occurrences new rest ≡ 0
  not_again =
      let o = occurrences_head new rest new in
      let once = chain.once new below in
      omega (arith, matching_same new new 1 refl, rw (not_in_use_free t new was_free) at once)

  first_is : first_free u ≡ next
  first_is = first_free_put_cell ended new (new_cell x y) refl ∙ first_free_put_ends t next last long

  last_is : last_free u ≡ last
  last_is = last_free_put_cell ended new (new_cell x y) refl ∙ last_free_put_ends t next last long

  ends_rest : (is : List ℕ) → Linked t next is → last_of (map suc (new ∷ is)) ≡ last_free t → last_of (map suc is) ≡ last
  unfolding last_of
  ends_rest [] h e = sym (ap (λ (b : Bool). cond b 0 (last_free t)) (eq-eqb next 0 h))
  ends_rest (i ∷ is) h e = e ∙ sym (ap (λ (w : ℕ). cond (eqb w 0) 0 (last_free t)) h.0 ∙ ap (λ (b : Bool). cond b 0 (last_free t)) (eqb-suc-zero i))

  once_rest : (i : ℕ) → i < capacity t → occurrences i rest ≡ cond (is_free u i) 1 0
  once_rest = each_cell (λ i. i < capacity t → occurrences i rest ≡ cond (is_free u i) 1 0)
      (λ l. let e : is_free u new ≡ false = unfold is_free in rw new_used in not_again ∙ rw e)
      (λ i d l. let o = occurrences_head new rest i in
      let z = matching_other new i 1 (λ e. d (sym e)) in
      let e : occurrences i rest ≡ occurrences i (new ∷ rest) = omega arith in
      e ∙ chain.once i l ∙ rw (free_same t u i (same_use_lem i d)))

  rest_chain : Chain u rest
  rest_chain = record {
    linked = rw first_is (linked_same t u same_capacity_lem next rest chain.linked.2
        (λ i l m. other i left (omega arith) (λ e. let z = not_again in let n = rw e at m in omega arith)));
    ends = ends_rest rest chain.linked.2 chain.ends ∙ sym last_is;
    once = rw same_capacity_lem once_rest;
    wiped = rw same_capacity_lem (λ (i k : ℕ) (l : i < capacity t) (e : is_free u i ≡ true) (low : right ≤ k) (high : k < stride).
        let d : i ≢ new = λ z. not_both new_used (rw z at (free_not_in_use u i e)) in
        other i k (omega arith) d ∙ chain.wiped i k l (sym (free_same t u i (same_use_lem i d)) ∙ e) low high);
  }

  -- undoing a cons makes its two entries nil, as they were while the cell was free
  undone_cell : Same (capacity t) (put_view (put_view (shown u) new left 0) new right 0) (shown t)
  undone_cell i k l m = each_cell (λ j. put_view (put_view (shown u) new left 0) new right 0 j k ≡ shown t j k) (at_new k m)
      (λ j d. put_other (put_view (shown u) new left 0) new right 0 j k (λ e _. d (sym e)) ∙ put_other (shown u) new left 0 j k (λ e _. d (sym e)) ∙ elsewhere j d) i
    where
      elsewhere : (j : ℕ) → j ≢ new → shown u j k ≡ shown t j k
      elsewhere j d = unfold shown in ap₂ (λ (b : Bool) (w : ℕ). cond b w 0) (same_use_lem j d) (other j k (omega arith) d)

      at_new : (k : ℕ) → k ≤ right → put_view (put_view (shown u) new left 0) new right 0 new k ≡ shown t new k
      at_new zero m =
          put_other (put_view (shown u) new left 0) new right 0 new left (λ _ e. omega arith) ∙ put_same (shown u) new left 0
          ∙ sym (shown_free t new left was_free)
      at_new (suc zero) m = put_same (put_view (shown u) new left 0) new right 0 ∙ sym (shown_free t new right was_free)
      at_new (suc (suc k)) m = absurd (omega arith)

  at_cell : (k w : ℕ) → word_at u new k ≡ w → shown u (pred (suc new)) k ≡ w
  at_cell k w e = ap (λ (i : ℕ). shown u i k) (let d : pred (suc new) ≡ new = omega arith in d) ∙ shown_used u new k new_used ∙ e

  pub cons_wrote : Wrote t u make
  unfolding kind_of
  cons_wrote = record {
    same_capacity = same_capacity_lem;
    below = ((omega (arith, below), omega arith), (omega (arith, below), omega arith));
    holds = (at_cell left x new_left, at_cell right y new_right);
    undoes = λ i k l m. ap (λ (n : ℕ). put_view (put_view (shown u) n left 0) n right 0 i k) (let d : pred (suc new) ≡ new = omega arith in d) ∙ undone_cell i k l m;
  }

  module _ (a : Passed t u ps make) (legal-x : is_legal (capacity t) x ≡ true) (legal-y : is_legal (capacity t) y ≡ true) where
    x_fit : Fit t x
    unfolding uses uses_of kind_of
    x_fit = operand_fit t ps f make x a.held legal-x (λ i e. omega (arith, matching_same x (suc i) 1 e))

    y_fit : Fit t y
    unfolding uses uses_of kind_of
    y_fit = operand_fit t ps f make y a.held legal-y (λ i e. omega (arith, matching_same y (suc i) 1 e))

    -- no operand is the new cell
    operand_other : (w : ℕ) → Fit t w → matching w (suc new) 1 ≡ 0
    operand_other w h = matching_other w (suc new) 1 (λ e. not_both (h.used new below e) was_free)

    new_fit : Fit u (suc new)
    new_fit = record {
      legal = rw same_capacity_lem (cell_legal (capacity t) (suc new) (index_cell (capacity t) new below));
      used = λ i l e. ap (in_use u) (let d : i ≡ new = omega arith in d) ∙ new_used;
    }

    field_fits : (i k : ℕ) → i < capacity t → k ≤ right → in_use u i ≡ true → Fit u (word_at u i k)
    field_fits = each_cell (λ i. (k : ℕ) → i < capacity t → k ≤ right → in_use u i ≡ true → Fit u (word_at u i k)) (λ k _ m _. at_new k m)
        (λ i d k l m e. rw (other i k (omega arith) d) (grows (word_at t i k) (f.fields i k l m (sym (same_use_lem i d) ∙ e))))
      where
        at_new : (k : ℕ) → k ≤ right → Fit u (word_at u new k)
        at_new zero m = rw new_left (grows x x_fit)
        at_new (suc zero) m = rw new_right (grows y y_fit)
        at_new (suc (suc k)) m = absurd (omega arith)

    new_replay : replays (suc new) 1 (ps ++ (make ∷ [])) ≡ true
    unfolding uses uses_of kind_of
    new_replay =
        replay_append (suc new) 1 ps make (replays_unnamed (suc new) 1 ps (free_unnamed t ps f new below was_free) (omega arith))
        (inl (omega (arith, operand_other x x_fit, operand_other y y_fit))) (rw new_root at (a.most new (rw same_capacity_lem below)))

    replay_all : (i : ℕ) → i < capacity t → replays (suc i) (word_at u i root_count) (ps ++ (make ∷ [])) ≡ true
    replay_all = each_cell (λ i. i < capacity t → replays (suc i) (word_at u i root_count) (ps ++ (make ∷ [])) ≡ true) (λ _. rw new_root new_replay)
        (λ i d l. let e = other i root_count (omega arith) d in
        rw e (replay_append (suc i) (word_at t i root_count) ps make (f.replay i l) (a.held i l) (rw e at (a.most i (rw same_capacity_lem l)))))

    packet_legal_lem : LegalPacket u make
    unfolding packet_legal words_of_kind names names_of kind_of
    packet_legal_lem =
        let gx = grows x x_fit in
        let gy = grows y y_fit in
        record {
          words = and_both (and_both gx.legal gy.legal) (rw same_capacity_lem (index_cell (capacity t) new below));
          names = names_three (Fit u) x y (suc new) gx gy new_fit;
        }

    pub cons_facts : Facts u (ps ++ (make ∷ []))
    cons_facts = append_facts t u ps make f (record {
      same_length = length_put_cell ended new (new_cell x y) ∙ length_put_ends t next last;
      wrote = cons_wrote;
      states = each_cell (λ i. i < capacity t → word_at u i state ≤ 1) (λ _. omega (arith, new_word_lem state (omega arith)))
          (λ i d l. rw (other i state (omega arith) d) (f.states i l));
      roots = each_cell (λ i. i < capacity t → word_at u i root_count ≤ ceiling) (λ _. omega (arith, new_root))
          (λ i d l. rw (other i root_count (omega arith) d) (f.roots i l));
      counts = each_cell (λ i. i < capacity t → word_at u i cell_count ≡ word_at t i cell_count)
          (λ _. new_word_lem cell_count (omega arith) ∙ sym (free_zero t ps f new cell_count below was_free (omega arith) (omega arith)))
          (λ i d _. other i cell_count (omega arith) d);
      keeps = λ i _. keeps i;
      fields = field_fits;
      free = rest;
      chain = rest_chain;
      legal = packet_legal_lem;
      replay = replay_all;
      within = rw same_capacity_lem at a.within;
    })

    pub cons_live : Live t ps → Live u (ps ++ (make ∷ []))
    cons_live live i l = each_cell (λ j. j < capacity u → in_use u j ≡ true → ReachedByQueue u (ps ++ (make ∷ [])) j) (λ m _. begun m new_is_root) old i l
      where
        new_is_root : is_root_by_queue u (ps ++ (make ∷ [])) new ≡ true
        new_is_root = unfold is_root_by_queue in or_left (is_named (ps ++ (make ∷ [])) (suc new)) (lt-ltb 0 (word_at u new root_count) (omega (arith, new_root)))

        stays : (j : ℕ) → 0 < word_at t j root_count → 0 < word_at u j root_count
        stays =
            each_cell (λ j. 0 < word_at t j root_count → 0 < word_at u j root_count) (λ _. omega (arith, new_root))
            (λ j d h. rw (other j root_count (omega arith) d) h)

        edges : (j k : ℕ) → ReachedByQueue t ps j → k < capacity t → points_to t j k ≡ true → (points_to u j k ≡ true) ⊎ (is_root_by_queue u (ps ++ (make ∷ [])) k ≡ true)
        edges j k r _ h =
            let e = (reached_used t ps f r).1 in
            let w = points_cases t j k h in
            let low = w.1 in
            inl (points_by u j k w.0 w.1 (other j w.0 (omega arith) (λ d. not_both (rw d at e) was_free) ∙ w.2))

        old : (j : ℕ) → j ≢ new → j < capacity u → in_use u j ≡ true → ReachedByQueue u (ps ++ (make ∷ [])) j
        old j d m e =
            reached_grows t u ps (ps ++ (make ∷ [])) same_capacity_lem (λ k _. root_stays t u ps make k (stays k)) edges
            (live j (rw same_capacity_lem at m) (sym (same_use_lem j d) ∙ e))
