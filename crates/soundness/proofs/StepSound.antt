-- Every accepted step on a sound store leaves a sound store.
use mathlib.Core.Path.{◌≡◌, sym, ap, ◌∙◌}
use mathlib.Core.List.{List, ◌∷◌}
use Prim.Native.Nat.{ℕ, pred, ◌<◌}
use native.Mathlib.Omega.{arith}
use lib.ListN.{length}
use Rattle.machine.specs.declared.Queue.{Queue}
use Rattle.machine.specs.Queue.{Arrays, Packet, slot, taken, waiting}
use Rattle.machine.specs.Step.{apply_packet, unreached, swept}
use Rattle.machine.specs.Audit.{Sound}
use Rattle.machine.proofs.Ring.{waiting_taken, length_waiting}
use Rattle.machine.proofs.RootsByCell.{sound_counted}
use Rattle.soundness.proofs.Facts.{Slots, slots_of, sound_facts, facts_sound}
use Rattle.soundness.proofs.ZeroSlots.{slots_taken}
use Rattle.soundness.proofs.NameCounts.{packet_facts, packet_counted}
use Rattle.soundness.proofs.FreedCells.{swept_facts, swept_counted, swept_live}

-- the packets that wait behind the oldest are those of the queue without it
module _ (q : Queue) (p : Packet) (ps : List Packet) (n : Slots q) (e : waiting q ≡ p ∷ ps) where
  pub one_waits : 0 < q.count
  one_waits = omega (arith, length_waiting q, ap length e)

  pub waiting_rest : waiting (taken q) ≡ ps
  waiting_rest =
      let w = waiting_taken q (pred q.count) n.shape.place n.shape.count (omega (arith, one_waits)) in
      tails (slot q q.place) p (waiting (taken q)) ps (sym w ∙ e)
    where
      tails : (a b : Packet) (xs ys : List Packet) → a ∷ xs ≡ b ∷ ys → xs ≡ ys
      tails a b xs ys h = cc

-- the table that a step makes of t when it takes p
abbrev pub step_table : List ℕ → Packet → List ℕ
step_table t p = swept (apply_packet t p) (unreached (apply_packet t p))

pub step_sound : (t : List ℕ) (q : Queue) (p : Packet) (ps : List Packet) → Sound t q → Arrays q → waiting q ≡ p ∷ ps → Sound (step_table t p) (taken q)
step_sound t q p ps h a e =
    let n = slots_of t q h in
    let u = apply_packet t p in
    let g = rw e at (sound_facts t q h) in
    let f = packet_facts t p ps g in
    let d = packet_counted t p ps g (rw e at (sound_counted t q h)) in
    let r = waiting_rest q p ps n e in
    facts_sound (step_table t p) (taken q) (slots_taken q a (one_waits q p ps n e) n)
    (rw r (swept_facts u ps f d)) (rw r (swept_counted u ps f d)) (rw r (swept_live u ps f d))
