-- Name counts change when a packet is queued and when it is taken: what S1 to S5 say of all other words stands, and the counts stay those of the queue.
use mathlib.Core.Path.{◌≡◌, sym, ap, ap₂, ◌∙◌}
use mathlib.Core.Logic.{inl, ⊎_elim, ◌≢◌}
use mathlib.Core.Bool.{Bool, true, false, cond}
use mathlib.Core.List.{List, [], ◌∷◌, ◌++◌}
use Prim.Native.Nat.{ℕ, suc, ◌<◌}
use native.Mathlib.Omega.{arith}
use lib.Dec.{eqb}
use borrow.Author.Tests.{eqb-true, eqb-false, ltb-false}
use Rattle.machine.specs.Table.{stride, cell_count, state, name_count, capacity, word_at, in_use}
use Rattle.machine.specs.Queue.{Packet}
use Rattle.machine.specs.Packets.{Direction, plus, minus, changes, names, contains, is_named, times_named}
use Rattle.machine.specs.Reached.{is_root_by_queue}
use Rattle.machine.specs.Step.{shifted, apply_changes, named, apply_packet}
use Rattle.machine.proofs.Range.{tested}
use Rattle.machine.proofs.Moves.{shifted_none}
use Rattle.machine.proofs.Names.{named_length, named_capacity, named_first, named_last, named_word, named_field, named_root, named_use, named_count, none_contained, times_named_lem, times_append}
use Rattle.machine.proofs.RootsByCell.{Counted}
use Rattle.soundness.proofs.PacketKinds.{unnamed_first, unnamed_last}
use Rattle.soundness.proofs.Views.{shown, Same, all_map, earlier, earlier_same, seen_same, stages_same}
use Rattle.soundness.proofs.LegalPackets.{fit_grows, LegalPacket, legal_grows}
use Rattle.soundness.proofs.Facts.{Facts, Live, all_below, free_unnamed}
use Rattle.soundness.proofs.FreeChain.{chain_same}
use Rattle.soundness.proofs.ReachedCells.{points_by, points_cases, reached_grows}
use Rattle.soundness.proofs.OldestPacket.{applied_capacity, applied_use, stands, applied_facts}

pub none_named : (ps : List Packet) (x : ℕ) → is_named ps x ≡ false → times_named ps x ≡ 0
none_named ps x e = let z = ltb-false 0 (times_named ps x) (times_named_lem ps x ∙ e) in omega arith

-- a packet's cells named, or no longer, where none of them is free
module _ (d : Direction) (t : List ℕ) (p : Packet) (ps : List Packet) (f : Facts t ps)
    (spared : (i : ℕ) → i < capacity t → in_use t i ≡ false → contains (names p) (suc i) ≡ false) where
  abbrev u : List ℕ
  u = named d t p

  abbrev same_capacity_lem : capacity u ≡ capacity t
  same_capacity_lem = named_capacity d t p

  free_words : (i k : ℕ) → i < capacity t → k < stride → in_use t i ≡ false → word_at u i k ≡ word_at t i k
  free_words i k l m e = ⊎_elim count (λ n. named_word d t p i k m (eqb-false k name_count n)) (tested (eqb k name_count))
    where
      count : eqb k name_count ≡ true → word_at u i k ≡ word_at t i k
      count n =
          rw (eqb-true k name_count n) (named_count d t p f.room i l
          ∙ ap (shifted d (word_at t i name_count)) (none_contained (suc i) (names p) (spared i l e)) ∙ shifted_none d (word_at t i name_count))

  keeps : (i : ℕ) → i < capacity t → in_use t i ≡ true → in_use u i ≡ true
  keeps i _ e = named_use d t p i ∙ e

  same_shown : Same (capacity t) (shown t) (shown u)
  unfolding shown
  same_shown i k l m = sym (ap₂ (λ (b : Bool) (w : ℕ). cond b w 0) (named_use d t p i) (named_field d t p i k m))

  pub naming_facts : Facts u ps
  naming_facts = record {
    some = rw same_capacity_lem f.some;
    most = rw same_capacity_lem f.most;
    room = rw (same_capacity_lem, named_length d t p) f.room;
    states = λ i l. rw (named_word d t p i state (omega arith) (omega arith)) (f.states i (rw same_capacity_lem at l));
    roots = λ i l. rw (named_root d t p i) (f.roots i (rw same_capacity_lem at l));
    cells = λ i l. rw (named_word d t p i cell_count (omega arith) (omega arith)) (f.cells i (rw same_capacity_lem at l));
    fields = λ i k l m e. rw (named_field d t p i k m) (fit_grows t u (word_at t i k) same_capacity_lem keeps
        (f.fields i k (rw same_capacity_lem at l) m (sym (named_use d t p i) ∙ e)));
    free = f.free;
    chain = chain_same t u f.free same_capacity_lem (named_first d t p) (named_last d t p) (λ i _. named_use d t p i) free_words f.chain;
    legal = all_map (LegalPacket t) (LegalPacket u) ps (λ r. legal_grows t u r same_capacity_lem keeps) f.legal;
    replay = λ i l. rw (named_root d t p i) (f.replay i (rw same_capacity_lem at l));
    stages = rw same_capacity_lem (stages_same (capacity t) (shown t) (shown u) ps same_shown (all_below t ps f) f.stages);
    counts = rw same_capacity_lem (λ (i : ℕ) (l : i < capacity t). named_word d t p i cell_count (omega arith) (omega arith) ∙ f.counts i l
        ∙ seen_same (capacity t) (earlier (shown t) ps) (earlier (shown u) ps) (suc i) (earlier_same (capacity t) (shown t) (shown u) ps same_shown));
  }

  pub naming_live : Live t ps → Live u ps
  naming_live live i l e =
      reached_grows t u ps ps same_capacity_lem (λ j _ r. unfold is_root_by_queue in rw (named_root d t p j) r)
      (λ j k _ _ h. let w = points_cases t j k h in inl (points_by u j k w.0 w.1 (named_field d t p j w.0 w.1 ∙ w.2)))
      (live i (rw same_capacity_lem at l) (sym (named_use d t p i) ∙ e))

-- a packet joins the queue: its table t, in which the counts are still those of the packets before it
module _ (t : List ℕ) (ps : List Packet) (p : Packet) (f : Facts t (ps ++ (p ∷ []))) (n : Counted t ps) where
  pub joins_spared : (i : ℕ) → i < capacity t → in_use t i ≡ false → contains (names p) (suc i) ≡ false
  joins_spared i l e = unnamed_last ps p (suc i) (free_unnamed t (ps ++ (p ∷ [])) f i l e)

  pub joins_counted : Counted (named plus t p) (ps ++ (p ∷ []))
  unfolding times_named
  joins_counted = rw (named_capacity plus t p) (λ (i : ℕ) (l : i < capacity t).
      omega (arith, named_count plus t p f.room i l, n i l, times_append ps (p ∷ []) (suc i)))

-- the oldest packet is applied
module _ (t : List ℕ) (p : Packet) (ps : List Packet) (f : Facts t (p ∷ ps)) where
  abbrev changed : List ℕ
  changed = apply_changes t (changes p)

  oldest_spared : (i : ℕ) → i < capacity changed → in_use changed i ≡ false → contains (names p) (suc i) ≡ false
  oldest_spared i l e =
      unnamed_first p ps (suc i) (free_unnamed t (p ∷ ps) f i (rw (applied_capacity t p ps f) at l) (sym (applied_use t p ps f i) ∙ e))

  pub packet_capacity : capacity (apply_packet t p) ≡ capacity t
  unfolding apply_packet
  packet_capacity = named_capacity minus changed p ∙ applied_capacity t p ps f

  -- every word but the name count is that of the changes
  pub packet_word : (i k : ℕ) → k < stride → k ≢ name_count → word_at (apply_packet t p) i k ≡ word_at changed i k
  unfolding apply_packet
  packet_word i k l e = named_word minus changed p i k l e

  pub packet_use : (i : ℕ) → in_use (apply_packet t p) i ≡ in_use t i
  unfolding apply_packet
  packet_use i = named_use minus changed p i ∙ applied_use t p ps f i

  pub packet_facts : Facts (apply_packet t p) ps
  unfolding apply_packet
  packet_facts = naming_facts minus changed p ps (applied_facts t p ps f) oldest_spared

  pub packet_counted : Counted t (p ∷ ps) → Counted (apply_packet t p) ps
  unfolding apply_packet times_named
  packet_counted n i l =
      let m : i < capacity changed = rw (named_capacity minus changed p) at l in
      let o : i < capacity t = rw (applied_capacity t p ps f) at m in
      omega (arith, named_count minus changed p (applied_facts t p ps f).room i m, stands t p ps f i name_count (omega arith) (omega arith) (omega arith), n i o)
