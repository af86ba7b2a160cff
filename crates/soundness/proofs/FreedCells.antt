-- The cells in use that are not reached are freed. No waiting packet names one, so every stage loses just its entries, and the lowered
-- counts are the pointers that are left.
use mathlib.Core.Path.{◌≡◌, refl, sym, ap, ◌∙◌}
use mathlib.Core.Logic.{◌⊎◌, inl, inr, ⊎_elim, ◌≢◌}
use mathlib.Core.Bool.{Bool, true, false, cond, not, ◌&&◌}
use mathlib.Core.List.{List, [], ◌∷◌, ◌++◌, map}
use Prim.Native.Nat.{ℕ, suc, ◌+◌, ◌≤◌, ◌<◌}
use native.Mathlib.Omega.{arith}
use lib.Dec.{ltb, eqb}
use borrow.Author.Tests.{ltb-false, le-ltb, eqb-true, eqb-false}
use Rattle.machine.specs.Range.{occurrences, last_of}
use Rattle.machine.specs.Table.{stride, right, root_count, cell_count, state, name_count, capacity, first_free, last_free, word_at, in_use, is_free}
use Rattle.machine.specs.Queue.{Packet}
use Rattle.machine.specs.Packets.{names, contains, is_named, times_named}
use Rattle.machine.specs.Reached.{is_root_by_queue, points_to, begun, onward, ReachedByQueue, reached}
use Rattle.machine.specs.Step.{unreached, swept}
use Rattle.machine.specs.Audit.{packet_legal}
use Rattle.machine.specs.Facts.{Linked, Chain, pointers_out, Sweep}
use Rattle.machine.proofs.Range.{tested, lt_or_ge, not_both, or_left, or_right, occurrences_append}
use Rattle.machine.proofs.Table.{free_not_in_use}
use Rattle.machine.proofs.Lists.{at_most_one, Indices, none_past}
use Rattle.machine.proofs.Chain.{linked_indices}
use Rattle.machine.proofs.Reached.{reached_is}
use Rattle.machine.proofs.RootsByCell.{Counted, by_queue, by_cell}
use Rattle.machine.proofs.Select.{select_indices, select_once, dead_is}
use Rattle.machine.proofs.Sweep.{sweeps}
use Rattle.soundness.proofs.Views.{View, shown, seen, seen_same, seen_none, Same, All, all_map, earlier, earlier_same, earlier_entry, stages_same}
use Rattle.soundness.proofs.LegalPackets.{Fit, fit_nil, LegalPacket, WrittenIn, legal_written, named_fit, named_detached, written_map}
use Rattle.soundness.proofs.Stages.{shown_used, shown_free}
use Rattle.soundness.proofs.Facts.{Facts, Live, free_zero, all_below}
use Rattle.soundness.proofs.NameCounts.{none_named}
use Rattle.soundness.proofs.ReachedCells.{points_by, points_cases, reached_used, reached_grows}
use Rattle.soundness.proofs.Masks.{mask, masked, unmasked, WritesShown, mask_earlier, unwritten_earlier, seen_split, mask_stages, out_seen}

module _ (t : List ℕ) (ps : List Packet) (f : Facts t ps) (n : Counted t ps) where
  abbrev c : ℕ
  c = capacity t

  abbrev live : ℕ → Bool
  live = reached t

  abbrev doomed : ℕ → Bool
  doomed i = in_use t i && not (live i)

  abbrev dead : List ℕ
  dead = unreached t

  abbrev u : List ℕ
  u = swept t dead

  dead_below : Indices c dead
  unfolding unreached
  dead_below = select_indices c doomed

  sweep : Sweep t dead u
  sweep = sweeps t dead f.room dead_below

  live_reached : (i : ℕ) → live i ≡ true → ReachedByQueue t ps i
  live_reached i h = by_queue t ps n ((reached_is t i).0 h)

  reached_live : {i : ℕ} → ReachedByQueue t ps i → live i ≡ true
  reached_live {i} r = (reached_is t i).1 (by_cell t ps n r)

  live_used : (i : ℕ) → live i ≡ true → in_use t i ≡ true
  live_used i h = (reached_used t ps f (live_reached i h)).1

  -- which cells are dead
  is_dead_lem : (i : ℕ) → i < c → in_use t i ≡ true → live i ≡ false → contains dead i ≡ true
  is_dead_lem i l h e = ((dead_is t).members i).1 (l, h, λ r. not_both ((reached_is t i).1 r) e)

  not_dead : (i : ℕ) → (contains dead i ≡ true → ⊥) → contains dead i ≡ false
  not_dead i h = ⊎_elim (λ e. absurd (h e)) (λ e. e) (tested (contains dead i))

  live_not_dead : (i : ℕ) → live i ≡ true → contains dead i ≡ false
  live_not_dead i h = not_dead i (λ e. (((dead_is t).members i).0 e).2 ((reached_is t i).0 h))

  free_not_dead : (i : ℕ) → in_use t i ≡ false → contains dead i ≡ false
  free_not_dead i h = not_dead i (λ e. not_both (((dead_is t).members i).0 e).1 h)

  live_words : (i k : ℕ) → k < stride → k ≢ cell_count → live i ≡ true → word_at u i k ≡ word_at t i k
  live_words i k m n h = sweep.unchanged i k m n (live_not_dead i h)

  free_words : (i k : ℕ) → k < stride → k ≢ cell_count → in_use t i ≡ false → word_at u i k ≡ word_at t i k
  free_words i k m n h = sweep.unchanged i k m n (free_not_dead i h)

  -- in three ways: reached, dead, free
  each_sort : (P : ℕ → Type 0) → ((i : ℕ) → live i ≡ true → P i) → ((i : ℕ) → live i ≡ false → in_use t i ≡ true → P i)
      → ((i : ℕ) → live i ≡ false → in_use t i ≡ false → P i) → (i : ℕ) → P i
  each_sort P a b d i = ⊎_elim (λ h. a i h) (λ h. ⊎_elim (λ e. b i h e) (λ e. d i h e) (tested (in_use t i))) (tested (live i))

  pub swept_capacity : capacity u ≡ c
  swept_capacity = sweep.same_capacity

  -- afterwards the cells in use are those that were reached
  pub swept_use : (i : ℕ) → i < c → in_use u i ≡ reached t i
  unfolding in_use
  swept_use = each_sort (λ i. i < c → ltb 0 (word_at u i state) ≡ live i)
      (λ i h l. ap (ltb 0) (live_words i state (omega arith) (omega arith) h) ∙ live_used i h ∙ sym h)
      (λ i h e l. le-ltb 0 (word_at u i state) (omega (arith, sweep.freed i state (is_dead_lem i l e h) (omega arith) (omega arith))) ∙ sym h)
      (λ i h e l. ap (ltb 0) (free_words i state (omega arith) (omega arith) e) ∙ e ∙ sym h)

  used_live : (i : ℕ) → i < c → in_use u i ≡ true → live i ≡ true
  used_live i l h = sym (swept_use i l) ∙ h

  -- they were in use before, with the same fields
  pub swept_fields : (i : ℕ) → i < c → in_use u i ≡ true → (in_use t i ≡ true) × ((k : ℕ) → k ≤ right → word_at u i k ≡ word_at t i k)
  swept_fields i l h = let e = used_live i l h in (live_used i e, λ k m. live_words i k (omega arith) (omega arith) e)

  -- no root count changes: a dead cell is no root
  pub swept_root : (i : ℕ) → i < c → word_at u i root_count ≡ word_at t i root_count
  unfolding is_root_by_queue
  swept_root = each_sort (λ i. i < c → word_at u i root_count ≡ word_at t i root_count)
      (λ i h l. live_words i root_count (omega arith) (omega arith) h)
      (λ i h e l. sweep.freed i root_count (is_dead_lem i l e h) (omega arith) (omega arith) ∙ sym (no_root_lem i l h))
      (λ i h e l. free_words i root_count (omega arith) (omega arith) e)
    where
      no_root_lem : (i : ℕ) → i < c → live i ≡ false → word_at t i root_count ≡ 0
      no_root_lem i l h =
          ⊎_elim (λ e. absurd (not_both (reached_live (begun l (or_left (is_named ps (suc i)) e))) h))
          (λ e. let z = ltb-false 0 (word_at t i root_count) e in omega arith)
          (tested (ltb 0 (word_at t i root_count)))

  -- a word that was fit and, if a cell, is reached, is fit
  live_fit : (w : ℕ) → Fit t w → ((i : ℕ) → i < c → w ≡ suc i → live i ≡ true) → Fit u w
  live_fit w h g = record { legal = rw swept_capacity h.legal; used = λ i l e. let m : i < c = rw swept_capacity at l in swept_use i m ∙ g i m e }

  named_live : (w i : ℕ) → i < c → w ≡ suc i → is_named ps w ≡ true → live i ≡ true
  named_live w i l e n = reached_live (begun l (unfold is_root_by_queue in or_right (ltb 0 (word_at t i root_count)) (rw e at n)))

  legal_all : (qs : List Packet) → ((w : ℕ) → is_named qs w ≡ true → is_named ps w ≡ true) → All (LegalPacket t) qs → All (LegalPacket u) qs
  unfolding packet_legal is_named
  legal_all [] g h = tt
  legal_all (q ∷ qs) g h = (
    record {
      words = rw swept_capacity h.0.words;
      names = λ w n. live_fit w (h.0.names w n) (λ i l e. named_live w i l e (g w (or_left (is_named qs w) n)));
    },
    legal_all qs (λ w n. g w (or_right (contains (names q) w) n)) h.1,
  )

  legal_after : All (LegalPacket u) ps
  legal_after = legal_all ps (λ w n. n) f.legal

  writes_live : All (WritesShown live) ps
  writes_live = all_map (LegalPacket u) (WritesShown live) ps
      (λ p h. written_map (WrittenIn u) (λ i k. live i ≡ true) p (λ i k w. used_live i (rw swept_capacity at w.below) w.used)
      (legal_written u p h)) legal_after

  field_fits : (i k : ℕ) → i < c → k ≤ right → live i ≡ true → Fit u (word_at u i k)
  field_fits i k l m h =
      rw (live_words i k (omega arith) (omega arith) h) (live_fit (word_at t i k) (f.fields i k l m (live_used i h))
      (λ j b e. reached_live (onward (live_reached i h) b (points_by t i j k m e))))

  -- the chain is longer by the dead cells
  dead_once : (i : ℕ) → i < c → occurrences i dead ≡ cond (doomed i) 1 0
  unfolding unreached
  dead_once i l = select_once c doomed i l

  both_once : (i : ℕ) → i < c → occurrences i f.free + occurrences i dead ≡ cond (is_free u i) 1 0
  unfolding is_free
  both_once = each_sort (λ i. i < c → occurrences i f.free + occurrences i dead ≡ cond (not (in_use u i)) 1 0)
      (λ i h l. let a = f.chain.once i l in let b = dead_once i l in rw (swept_use i l, h) (omega (arith, rw (live_used i h) at a, rw (live_used i h, h) at b)))
      (λ i h e l. let a = f.chain.once i l in let b = dead_once i l in rw (swept_use i l, h) (omega (arith, rw e at a, rw (e, h) at b)))
      (λ i h e l. let a = f.chain.once i l in let b = dead_once i l in rw (swept_use i l, h) (omega (arith, rw e at a, rw e at b)))

  linked_all : Linked u (first_free u) (dead ++ f.free) × (last_of (map suc (dead ++ f.free)) ≡ last_free u)
  linked_all = sweep.joined f.free f.chain.linked f.chain.ends (λ i. ⊎_elim (λ l. rw (both_once i l) (at_most_one (is_free u i)))
      (λ l. omega (arith, none_past c f.free (linked_indices t (first_free t) f.free f.chain.linked) i l, none_past c dead dead_below i l)) (lt_or_ge i c))

  -- a cell that is not reached ends with all but its left 0
  wiped : (i k : ℕ) → i < c → live i ≡ false → right ≤ k → k < stride → word_at u i k ≡ 0
  wiped i k l h low high = ⊎_elim (λ e. sweep.freed i k (is_dead_lem i l e h) low high) free (tested (in_use t i))
    where
      free : in_use t i ≡ false → word_at u i k ≡ 0
      free e = ⊎_elim count (λ d. free_words i k (omega arith) d e ∙ free_zero t ps f i k l e low high) (is_count k)
        where
          is_count : (k : ℕ) → (k ≡ cell_count) ⊎ (k ≢ cell_count)
          is_count k = ⊎_elim (λ d. inl (eqb-true k cell_count d)) (λ d. inr (eqb-false k cell_count d)) (tested (eqb k cell_count))

          count : k ≡ cell_count → word_at u i k ≡ 0
          count d = rw d (omega (arith, sweep.lowered i l (free_not_dead i e), free_zero t ps f i cell_count l e (omega arith) (omega arith)))

  chain_after : Chain u (dead ++ f.free)
  chain_after = record {
    linked = linked_all.0;
    ends = linked_all.1;
    once = rw swept_capacity (λ (i : ℕ) (l : i < c). omega (arith, occurrences_append i dead f.free, both_once i l));
    wiped = rw swept_capacity (λ (i k : ℕ) (l : i < c) (e : is_free u i ≡ true). wiped i k l (sym (swept_use i l) ∙ free_not_in_use u i e));
  }

  -- the view shows only what is reached
  shows : Same c (shown u) (mask live (shown t))
  shows i k l m = ⊎_elim here (λ e. shown_free u i k (swept_use i l ∙ e) ∙ sym (masked live (shown t) i k e)) (tested (live i))
    where
      here : live i ≡ true → shown u i k ≡ mask live (shown t) i k
      here h =
          shown_used u i k (swept_use i l ∙ h) ∙ live_words i k (omega arith) (omega arith) h
          ∙ sym (shown_used t i k (live_used i h)) ∙ sym (unmasked live (shown t) i k h)

  shows_earlier : Same c (earlier (shown u) ps) (mask live (earlier (shown t) ps))
  shows_earlier i k l m = earlier_same c (shown u) (mask live (shown t)) ps shows i k l m ∙ mask_earlier c live (shown t) ps writes_live i k l m

  -- the pointers out of dead cells are what the oldest stage loses
  lost : (x : ℕ) → seen c (mask (λ i. not (live i)) (earlier (shown t) ps)) (suc x) ≡ pointers_out t dead (suc x)
  unfolding unreached mask
  lost x = seen_same c (mask (λ i. not (live i)) e) (mask doomed (word_at t)) (suc x) at_index ∙ sym (out_seen t c doomed x)
    where
      e : View
      e = earlier (shown t) ps

      untouched : (i k : ℕ) → live i ≡ false → e i k ≡ shown t i k
      untouched = unwritten_earlier c live (shown t) ps writes_live

      at_index : Same c (mask (λ i. not (live i)) e) (mask doomed (word_at t))
      at_index i k _ _ =
          each_sort (λ j. cond (not (live j)) (e j k) 0 ≡ cond (doomed j) (word_at t j k) 0)
          (λ j h. rw (h, live_used j h))
          (λ j h d. rw (h, d, untouched j k h, shown_used t j k d))
          (λ j h d. rw (h, d, untouched j k h, shown_free t j k d)) i

  -- no lowering meets 0
  pub swept_enough : (i : ℕ) → i < c → pointers_out t dead (suc i) ≤ word_at t i cell_count
  swept_enough i l = omega (arith, lost i, f.counts i l, seen_split c live (earlier (shown t) ps) i)

  counts_after : (i : ℕ) → i < c → word_at u i cell_count ≡ seen c (earlier (shown u) ps) (suc i)
  counts_after i l = ⊎_elim alive gone (tested (live i))
    where
      alive : live i ≡ true → word_at u i cell_count ≡ seen c (earlier (shown u) ps) (suc i)
      alive h = omega (
        arith,
        sweep.lowered i l (live_not_dead i h),
        f.counts i l,
        lost i,
        seen_split c live (earlier (shown t) ps) i,
        seen_same c (earlier (shown u) ps) (mask live (earlier (shown t) ps)) (suc i) shows_earlier,
      )

      shown_fit : (j k : ℕ) → j < c → k ≤ right → Fit u (shown u j k)
      shown_fit j k b m =
          ⊎_elim (λ e. rw (shown_used u j k e) (field_fits j k b m (used_live j b e))) (λ e. rw (shown_free u j k e) (fit_nil u)) (tested (in_use u j))

      gone : live i ≡ false → word_at u i cell_count ≡ seen c (earlier (shown u) ps) (suc i)
      gone h =
          wiped i cell_count l h (omega arith) (omega arith)
          ∙ sym (seen_none c (earlier (shown u) ps) (suc i) (λ j k b m e. not_both
          ((earlier_entry (Fit u) (shown u) ps j k (fit_nil u) (named_detached (Fit u) ps (named_fit u ps legal_after)) (shown_fit j k b m)
          ).used i (rw swept_capacity l) e)
          (swept_use i l ∙ h)))

  pub swept_facts : Facts u ps
  swept_facts = record {
    some = rw swept_capacity f.some;
    most = rw swept_capacity f.most;
    room = rw (swept_capacity, sweep.same_length) f.room;
    states = rw swept_capacity (λ (i : ℕ) (l : i < c). ⊎_elim (λ h. rw (live_words i state (omega arith) (omega arith) h) (f.states i l))
        (λ h. omega (arith, wiped i state l h (omega arith) (omega arith))) (tested (live i)));
    roots = rw swept_capacity (λ (i : ℕ) (l : i < c). rw (swept_root i l) (f.roots i l));
    cells = rw swept_capacity (λ (i : ℕ) (l : i < c). ⊎_elim (λ h. omega (arith, sweep.lowered i l (live_not_dead i h), f.cells i l))
        (λ h. omega (arith, wiped i cell_count l h (omega arith) (omega arith))) (tested (live i)));
    fields = rw swept_capacity (λ (i k : ℕ) (l : i < c) (m : k ≤ right) (e : in_use u i ≡ true). field_fits i k l m (used_live i l e));
    free = dead ++ f.free;
    chain = chain_after;
    legal = legal_after;
    replay = rw swept_capacity (λ (i : ℕ) (l : i < c). rw (swept_root i l) (f.replay i l));
    stages = rw swept_capacity (stages_same c (mask live (shown t)) (shown u) ps (λ i k l m. sym (shows i k l m)) (all_below t ps f)
        (mask_stages c live (shown t) ps (all_below t ps f) writes_live f.stages));
    counts = rw swept_capacity counts_after;
  }

  -- no name count changes either: a dead cell is not named
  pub swept_counted : Counted u ps
  swept_counted = rw swept_capacity (each_sort (λ i. i < c → word_at u i name_count ≡ times_named ps (suc i))
      (λ i h l. live_words i name_count (omega arith) (omega arith) h ∙ n i l)
      (λ i h e l. wiped i name_count l h (omega arith) (omega arith) ∙ sym (none_named ps (suc i) (unnamed i l h)))
      (λ i h e l. free_words i name_count (omega arith) (omega arith) e ∙ n i l))
    where
      unnamed : (i : ℕ) → i < c → live i ≡ false → is_named ps (suc i) ≡ false
      unnamed i l h = ⊎_elim (λ e. absurd (not_both (named_live (suc i) i l refl e) h)) (λ e. e) (tested (is_named ps (suc i)))

  pub swept_live : Live u ps
  swept_live i l h =
      let m : i < c = rw swept_capacity at l in
      reached_grows t u ps ps swept_capacity roots edges (live_reached i (used_live i m h))
    where
      roots : (i : ℕ) → i < c → is_root_by_queue t ps i ≡ true → is_root_by_queue u ps i ≡ true
      roots i l e = unfold is_root_by_queue in rw (swept_root i l) e

      edges : (j i : ℕ) → ReachedByQueue t ps j → i < c → points_to t j i ≡ true → (points_to u j i ≡ true) ⊎ (is_root_by_queue u ps i ≡ true)
      edges j i r l e =
          let w = points_cases t j i e in
          let low = w.1 in
          inl (points_by u j i w.0 w.1 (live_words j w.0 (omega arith) (omega arith) (reached_live r) ∙ w.2))
