-- Slots not waiting stay zero when a packet joins and when one is taken.
use mathlib.Core.Path.{◌≡◌, refl, ap, ◌∙◌}
use mathlib.Core.Logic.{⊎_elim}
use mathlib.Core.Bool.{true}
use mathlib.Core.List.{[]}
use Prim.Native.Nat.{ℕ, suc, ◌+◌, ◌-◌, ◌%◌, ◌≤◌, ◌<◌}
use native.Mathlib.Omega.{arith}
use Rattle.machine.specs.declared.Queue.{Queue}
use Rattle.machine.specs.Range.{every}
use Rattle.machine.specs.Queue.{Arrays, Packet, slots, slot, put_slot, empty_queue, appended, taken, packets_from, waiting, zero_packet}
use Rattle.machine.specs.Audit.{is_zero_packet, other_slots_zero}
use Rattle.machine.proofs.Range.{every_at, every_all, below_suc}
use Rattle.machine.proofs.Ring.{slot_same, slot_other}
use Rattle.soundness.proofs.Facts.{Slots}

zero_packet_lem : is_zero_packet zero_packet ≡ true
unfolding is_zero_packet
zero_packet_lem = refl

-- the slot that lies j places after the waiting packets
pub slot_after : Queue → ℕ → ℕ
slot_after q j = (q.place + q.count + j) % slots

others_at : (q : Queue) → other_slots_zero q ≡ true → (j : ℕ) → j < slots - q.count → is_zero_packet (slot q (slot_after q j)) ≡ true
unfolding other_slots_zero slot_after
others_at q h j l = every_at (slots - q.count) (λ n. is_zero_packet (slot q ((q.place + q.count + n) % slots))) h j l

others_all : (q : Queue) → ((j : ℕ) → j < slots - q.count → is_zero_packet (slot q (slot_after q j)) ≡ true) → other_slots_zero q ≡ true
unfolding other_slots_zero slot_after
others_all q f = every_all (slots - q.count) (λ n. is_zero_packet (slot q ((q.place + q.count + n) % slots))) f

pub slots_appended : (q : Queue) (p : Packet) → q.count < slots → Slots q → Slots (appended q p)
unfolding appended put_slot slot_after
slots_appended q p l s = record { shape = record { place = s.shape.place; count = omega arith }; others = others_all (appended q p) zeros }
  where
    zeros : (j : ℕ) → j < slots - (q.count + 1) → is_zero_packet (slot (appended q p) ((q.place + (q.count + 1) + j) % slots)) ≡ true
    zeros j m =
        let e : (q.place + (q.count + 1) + j) % slots ≡ (q.place + q.count + suc j) % slots = ap (λ (n : ℕ). n % slots) (omega arith) in
        rw (e, slot_other q ((q.place + q.count) % slots) p q.place (q.count + 1) ((q.place + q.count + suc j) % slots) (omega arith))
        (others_at q s.others (suc j) (omega arith))

turn : (a m : ℕ) → ((a + 1) % slots + m) % slots ≡ (a + suc m) % slots
turn a m = omega arith

turned : (a n j : ℕ) → 0 < n → ((a + 1) % slots + (n - 1) + j) % slots ≡ (a + n + j) % slots
turned a n j l =
    ap (λ (m : ℕ). m % slots) (let e : (a + 1) % slots + (n - 1) + j ≡ (a + 1) % slots + (n - 1 + j) = omega arith in e)
    ∙ turn a (n - 1 + j) ∙ ap (λ (m : ℕ). m % slots) (let e : a + suc (n - 1 + j) ≡ a + n + j = omega arith in e)

whole : (a n j : ℕ) → a < slots → n ≤ slots → j ≡ slots - n → (a + n + j) % slots ≡ a
whole a n j l m e = omega arith

apart : (a n j : ℕ) → a < slots → 0 < n → j < slots - n → (a + n + j) % slots ≡ a → ⊥
apart a n j l m k e = omega arith

pub slots_taken : (q : Queue) → Arrays q → 0 < q.count → Slots q → Slots (taken q)
unfolding taken put_slot slot_after
slots_taken q a l s = record { shape = record { place = omega arith; count = omega (arith, s.shape.count) }; others = others_all (taken q) zeros }
  where
    place' : ℕ
    place' = (q.place + 1) % slots

    zeros : (j : ℕ) → j < slots - (q.count - 1) → is_zero_packet (slot (taken q) ((place' + (q.count - 1) + j) % slots)) ≡ true
    zeros j m = ⊎_elim earlier here (below_suc (let n : j < suc (slots - q.count) = omega (arith, s.shape.count) in n))
      where
        earlier : j < slots - q.count → is_zero_packet (slot (taken q) ((place' + (q.count - 1) + j) % slots)) ≡ true
        earlier n =
            let e : (place' + (q.count - 1) + j) % slots ≡ (q.place + q.count + j) % slots = turned q.place q.count j l in
            rw (
              e,
              slot_other q q.place zero_packet place' (q.count - 1) ((q.place + q.count + j) % slots)
                  (apart q.place q.count j s.shape.place l n),
            )
            (others_at q s.others j n)

        here : j ≡ slots - q.count → is_zero_packet (slot (taken q) ((place' + (q.count - 1) + j) % slots)) ≡ true
        here n =
            let e : (place' + (q.count - 1) + j) % slots ≡ q.place = turned q.place q.count j l
            ∙ whole q.place q.count j s.shape.place s.shape.count n in
            rw (e, slot_same q q.place zero_packet place' (q.count - 1) a s.shape.place) zero_packet_lem

pub slots_empty_lem : Slots empty_queue
unfolding other_slots_zero every is_zero_packet slot
slots_empty_lem = record { shape = record { place = omega arith; count = omega arith }; others = refl }

pub arrays_empty : Arrays empty_queue
arrays_empty = record { kinds = refl; a = refl; b = refl; c = refl }

pub waiting_empty : waiting empty_queue ≡ []
unfolding waiting packets_from
waiting_empty = refl
