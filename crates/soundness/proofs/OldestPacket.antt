-- The oldest packet is applied: its changes come to raisings less lowerings, and the stage after it becomes the oldest.
use mathlib.Core.Path.{◌≡◌, refl, sym, ap, ap₂, ◌∙◌}
use mathlib.Core.Logic.{◌≢◌}
use mathlib.Core.Bool.{Bool, true, false, cond}
use mathlib.Core.List.{List, [], ◌∷◌}
use Prim.Native.Nat.{ℕ, suc, ◌≤◌, ◌<◌}
use native.Mathlib.Omega.{arith}
use lib.Dec.{ltb}
use borrow.Author.Tests.{leb-true}
use Rattle.machine.specs.Words.{ceiling}
use Rattle.machine.specs.Table.{stride, right, root_count, cell_count, state, capacity, first_free, word_at, in_use}
use Rattle.machine.specs.Queue.{Packet}
use Rattle.machine.specs.Packets.{root, cell, plus, minus, Change, changes, uses}
use Rattle.machine.specs.Step.{move_count, apply_changes}
use Rattle.machine.specs.Audit.{replayed}
use Rattle.machine.proofs.Table.{each_word}
use Rattle.machine.proofs.Moves.{first_free_move}
use Rattle.machine.proofs.Replay.{replays_uses, replays_bound, replays_rest}
use Rattle.machine.proofs.Kept.{Framed, framed_changes}
use Rattle.soundness.proofs.PacketKinds.{lowers_uses, Unmoved, unnamed, unnamed_first, word_applied, count_applied, running_root, running_cell}
use Rattle.soundness.proofs.Views.{shown, Same, same_sym, all_map, earlier, earlier_same, seen, seen_same, seen_undo, stages_same, stages_within}
use Rattle.soundness.proofs.LegalPackets.{fit_grows, LegalPacket, legal_grows}
use Rattle.soundness.proofs.Facts.{Facts, all_below, free_unnamed}
use Rattle.soundness.proofs.FreeChain.{chain_same}

first_applied : (t : List ℕ) (hs : List Change) → first_free (apply_changes t hs) ≡ first_free t
unfolding apply_changes
first_applied t [] = refl
first_applied t (h ∷ hs) =
    first_applied (move_count t h.counter h.word h.direction h.amount) hs ∙ first_free_move t h.counter h.word h.direction h.amount

module _ (t : List ℕ) (p : Packet) (ps : List Packet) (f : Facts t (p ∷ ps)) where
  abbrev applied : List ℕ
  applied = apply_changes t (changes p)

  frame : Framed t applied
  frame = (framed_changes t (changes p)).0

  pub applied_capacity : capacity applied ≡ capacity t
  applied_capacity = frame.same_capacity

  pub stands : (i m : ℕ) → m < stride → m ≢ root_count → m ≢ cell_count → word_at applied i m ≡ word_at t i m
  stands i m l r c = word_applied t p i m l r c

  pub applied_use : (i : ℕ) → in_use applied i ≡ in_use t i
  unfolding in_use
  applied_use i = ap (ltb 0) (stands i state (omega arith) (omega arith) (omega arith))

  pub applied_fields : (i k : ℕ) → k ≤ right → word_at applied i k ≡ word_at t i k
  applied_fields i k l = stands i k (omega arith) (omega arith) (omega arith)

  pub enough : (i : ℕ) → i < capacity t → uses p (suc i) ≤ word_at t i root_count
  enough i l = leb-true (uses p (suc i)) (word_at t i root_count) (replays_uses (suc i) (word_at t i root_count) p ps (f.replay i l))

  -- root counts go on as in the replay
  pub applied_root : (i : ℕ) → i < capacity t → word_at applied i root_count ≡ replayed (suc i) p (word_at t i root_count)
  unfolding replayed
  applied_root i l =
      count_applied t (changes p) root i f.room l ∙ running_root p (suc i) (word_at t i root_count) (omega (arith, enough i l, lowers_uses p (suc i)))

  -- cell counts become the pointers at the next stage
  pub applied_cell : (i : ℕ) → i < capacity t → word_at applied i cell_count ≡ seen (capacity t) (earlier (shown t) ps) (suc i)
  unfolding earlier
  applied_cell i l =
      let e = count_applied t (changes p) cell i f.room l ∙ running_cell p (suc i) (word_at t i cell_count) in
      omega (arith, f.counts i l, seen_undo (capacity t) (earlier (shown t) ps) p i (all_below t (p ∷ ps) f).0 f.stages.1)

  -- a free cell is not named, so none of its words changes
  free_still : (i : ℕ) → i < capacity t → in_use t i ≡ false → Unmoved p (suc i)
  free_still i l u = unnamed p (suc i) (unnamed_first p ps (suc i) (free_unnamed t (p ∷ ps) f i l u))

  free_words : (i k : ℕ) → i < capacity t → k < stride → in_use t i ≡ false → word_at applied i k ≡ word_at t i k
  free_words i k l m u =
      let s = free_still i l u in
      let r = count_applied t (changes p) root i f.room l ∙ running_root p (suc i) (word_at t i root_count) (omega (arith, s.still root minus)) in
      let c = count_applied t (changes p) cell i f.room l ∙ running_cell p (suc i) (word_at t i cell_count) in
      each_word (λ n. n < stride → word_at applied i n ≡ word_at t i n) (λ _. omega (arith, s.still root plus, s.still root minus))
      (λ _. omega (arith, s.still cell plus, s.still cell minus)) (λ n a b d. stands i n d a b) k m

  applied_shown : Same (capacity t) (shown applied) (shown t)
  unfolding shown
  applied_shown i k l m = ap₂ (λ (b : Bool) (w : ℕ). cond b w 0) (applied_use i) (applied_fields i k m)

  pub applied_facts : Facts applied ps
  applied_facts = record {
    some = rw applied_capacity f.some;
    most = rw applied_capacity f.most;
    room = rw (applied_capacity, frame.same_length) f.room;
    states = λ i l. rw (stands i state (omega arith) (omega arith) (omega arith)) (f.states i (rw applied_capacity at l));
    roots = λ i l. let m : i < c = rw applied_capacity at l in
        rw (applied_root i m) (leb-true (replayed (suc i) p (word_at t i root_count)) ceiling (replays_bound (suc i) (word_at t i root_count) p ps (f.replay i m)));
    cells = λ i l. let m : i < c = rw applied_capacity at l in rw (applied_cell i m) (stages_within c (shown t) ps f.stages.0 i m);
    fields = λ i k l m u. rw (applied_fields i k m) (fit_grows t applied (word_at t i k) applied_capacity keeps
        (f.fields i k (rw applied_capacity at l) m (sym (applied_use i) ∙ u)));
    free = f.free;
    chain = chain_same t applied f.free applied_capacity (first_applied t (changes p)) (framed_changes t (changes p)).1 (λ i _. applied_use i) free_words
        f.chain;
    legal = all_map (LegalPacket t) (LegalPacket applied) ps (λ r. legal_grows t applied r applied_capacity keeps) f.legal.1;
    replay = λ i l. let m : i < c = rw applied_capacity at l in rw (applied_root i m) (replays_rest (suc i) (word_at t i root_count) p ps (f.replay i m));
    stages = rw applied_capacity (stages_same c (shown t) (shown applied) ps same (all_below t (p ∷ ps) f).1 f.stages.0);
    counts = rw applied_capacity (λ (i : ℕ) (l : i < c). applied_cell i l
        ∙ seen_same c (earlier (shown t) ps) (earlier (shown applied) ps) (suc i) (earlier_same c (shown t) (shown applied) ps same));
  }
    where
      c : ℕ
      c = capacity t

      same : Same c (shown t) (shown applied)
      same = same_sym c (shown applied) (shown t) applied_shown

      keeps : (i : ℕ) → i < capacity t → in_use t i ≡ true → in_use applied i ≡ true
      keeps i _ u = applied_use i ∙ u
