-- Laws of the ring: append and take are list operations on the waiting packets.
use mathlib.Core.Path.{◌≡◌, refl, sym, ap, ap₂, ◌∙◌}
use mathlib.Core.List.{List, [], ◌∷◌, ◌++◌}
use Prim.Native.Nat.{ℕ, zero, suc, ◌+◌, ◌-◌, ◌%◌, ◌≤◌, ◌<◌}
use native.Mathlib.Nat.{add-zero}
use native.Mathlib.Numerals.{add-one}
use native.Mathlib.Omega.{arith}
use lib.ListN.{length, length-set}
use lib.Seq.{get_or-set_same, get_or-set_other}
use Rattle.machine.specs.declared.Queue.{Queue}
pub use Rattle.machine.specs.Queue.{Arrays}
use Rattle.machine.specs.Queue.{Packet, slots, slot, put_slot, appended, taken, packets_from, waiting, zero_packet}

pub arrays_put : (q : Queue) (j : ℕ) (p : Packet) (place count : ℕ) → Arrays q → Arrays (put_slot q j p place count)
unfolding put_slot
arrays_put q j p place count h = record {
  kinds = length-set q.kinds j p.kind ∙ h.kinds;
  a = length-set q.a j p.a ∙ h.a;
  b = length-set q.b j p.b ∙ h.b;
  c = length-set q.c j p.c ∙ h.c;
}

pub arrays_appended : (q : Queue) (p : Packet) → Arrays q → Arrays (appended q p)
unfolding appended
arrays_appended q p h = arrays_put q ((q.place + q.count) % slots) p q.place (q.count + 1) h

pub arrays_taken : (q : Queue) → Arrays q → Arrays (taken q)
unfolding taken
arrays_taken q h = arrays_put q q.place zero_packet ((q.place + 1) % slots) (q.count - 1) h

pub slot_same : (q : Queue) (j : ℕ) (p : Packet) (place count : ℕ) → Arrays q → j < slots → slot (put_slot q j p place count) j ≡ p
unfolding slot put_slot
slot_same q j p place count h l =
    simp (
      get_or-set_same q.kinds j p.kind 0 (omega (arith, h.kinds)),
      get_or-set_same q.a j p.a 0 (omega (arith, h.a)),
      get_or-set_same q.b j p.b 0 (omega (arith, h.b)),
      get_or-set_same q.c j p.c 0 (omega (arith, h.c)),
    )

pub slot_other : (q : Queue) (j : ℕ) (p : Packet) (place count m : ℕ) → (m ≡ j → ⊥) → slot (put_slot q j p place count) m ≡ slot q m
unfolding slot put_slot
slot_other q j p place count m d =
    simp (
      get_or-set_other q.kinds j m p.kind 0 d,
      get_or-set_other q.a j m p.a 0 d,
      get_or-set_other q.b j m p.b 0 d,
      get_or-set_other q.c j m p.c 0 d,
    )

-- a write to a slot that is not among n from k on
pub packets_other : (q : Queue) (j : ℕ) (p : Packet) (place count k n : ℕ) → ((r : ℕ) → r < n → (k + r) % slots ≡ j → ⊥) → packets_from (put_slot q j p place count) k n ≡ packets_from q k n
unfolding packets_from
packets_other q j p place count k zero d = refl
packets_other q j p place count k (suc n) d =
    rw (
      slot_other q j p place count (k % slots) (λ e. d 0 (omega arith) (omega arith)),
      packets_other q j p place count (suc k) n (λ r l e. d (suc r) (omega arith) (omega arith)),
    )

-- one packet more at the end
pub packets_snoc : (q : Queue) (k n : ℕ) → packets_from q k (suc n) ≡ packets_from q k n ++ (slot q ((k + n) % slots) ∷ [])
unfolding packets_from
packets_snoc q k zero = rw add-zero
packets_snoc q k (suc n) =
    ap (λ (ps : List Packet). slot q (k % slots) ∷ ps)
    (packets_snoc q (suc k) n ∙ ap (λ (m : ℕ). packets_from q (suc k) n ++ (slot q (m % slots) ∷ [])) (omega arith))

-- where the walk starts matters only up to a turn of the ring
pub packets_turn : (q : Queue) (k m n : ℕ) → k % slots ≡ m % slots → packets_from q k n ≡ packets_from q m n
unfolding packets_from
packets_turn q k m zero e = refl
packets_turn q k m (suc n) e = rw (e, packets_turn q (suc k) (suc m) n (omega arith))

packets_put : (q : Queue) (p : Packet) (place count k n : ℕ) → Arrays q → n < slots → packets_from (put_slot q ((k + n) % slots) p place count) k (suc n) ≡ packets_from q k n ++ (p ∷ [])
packets_put q p place count k n h l =
    packets_snoc (put_slot q ((k + n) % slots) p place count) k n
    ∙ ap₂ (λ (ps : List Packet) (r : Packet). ps ++ (r ∷ []))
    (packets_other q ((k + n) % slots) p place count k n (λ r m e. omega arith))
    (slot_same q ((k + n) % slots) p place count h (omega arith))

pub waiting_appended : (q : Queue) (p : Packet) → Arrays q → q.count < slots → waiting (appended q p) ≡ waiting q ++ (p ∷ [])
unfolding waiting appended put_slot
waiting_appended q p h hc =
    ap (packets_from (put_slot q ((q.place + q.count) % slots) p q.place (q.count + 1)) q.place) (add-one q.count)
    ∙ packets_put q p q.place (q.count + 1) q.place q.count h hc

packets_take : (q : Queue) (place count k n : ℕ) → n < slots → place ≡ suc k % slots → k < slots → packets_from q k (suc n) ≡ slot q k ∷ packets_from (put_slot q k zero_packet place count) place n
unfolding packets_from
packets_take q place count k n l e hk =
    ap₂ (λ (m : ℕ) (ps : List Packet). slot q m ∷ ps) (omega arith)
    (packets_turn q (suc k) place n (omega arith) ∙ sym (packets_other q k zero_packet place count place n (λ r m d. omega arith)))

pub waiting_taken : (q : Queue) (n : ℕ) → q.place < slots → q.count ≤ slots → q.count ≡ suc n → waiting q ≡ slot q q.place ∷ waiting (taken q)
unfolding waiting taken put_slot
waiting_taken q n hp hc e =
    ap (packets_from q q.place) e
    ∙ packets_take q ((q.place + 1) % slots) (q.count - 1) q.place n (omega arith) (omega arith) hp
    ∙ ap (λ (m : ℕ). slot q q.place ∷ packets_from (put_slot q q.place zero_packet ((q.place + 1) % slots) (q.count - 1)) ((q.place + 1) % slots) m) (omega arith)

-- as many packets wait as the count says
pub length_packets : (q : Queue) (k n : ℕ) → length (packets_from q k n) ≡ n
unfolding packets_from
length_packets q k zero = refl
length_packets q k (suc n) = ap suc (length_packets q (suc k) n)

pub length_waiting : (q : Queue) → length (waiting q) ≡ q.count
unfolding waiting
length_waiting q = length_packets q q.place q.count
