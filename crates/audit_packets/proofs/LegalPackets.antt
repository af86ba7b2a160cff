-- S3: slots and packets by the tests that the code makes.
use mathlib.Core.Path.{◌≡◌, refl, ap, ◌∙◌}
use mathlib.Core.Bool.{Bool, true, false, ◌&&◌}
use mathlib.Core.List.{List, [], ◌∷◌, ◌++◌}
use Prim.Native.Nat.{ℕ, zero, suc, ◌+◌, ◌%◌}
use native.Mathlib.Omega.{arith}
use Rattle.machine.specs.declared.Queue.{Queue}
use Rattle.machine.specs.Audit.{is_zero_packet, packet_legal, names_in_use, packets_legal}
use Rattle.machine.specs.Queue.{Packet, slots, slot, packets_from, waiting}
use Rattle.machine.specs.Range.{every}
use Rattle.machine.proofs.Lists.{and-true}
use Rattle.machine.proofs.Ring.{packets_snoc}
use Rattle.audit_packets.specs.Packets.{packet_on, rest_zero, packet_sound}

-- the slots behind the waiting ones
pub rest_slot : (q : Queue) (j : ℕ) → is_zero_packet (packet_on q (q.count + j)) ≡ rest_zero q j
unfolding packet_on rest_zero
rest_slot q j = ap (λ (n : ℕ). is_zero_packet (slot q (n % slots))) (omega arith)

-- packets one by one, oldest first
legal_snoc : (t : List ℕ) (ps : List Packet) (p : Packet) → packets_legal t (ps ++ (p ∷ [])) ≡ packets_legal t ps && packet_sound t p
unfolding packets_legal packet_sound
legal_snoc t [] p = and-true _
legal_snoc t (r ∷ ps) p = rw (legal_snoc t ps p) (assoc (packet_legal t r && names_in_use t r) (packets_legal t ps) (packet_legal t p && names_in_use t p))
  where
    assoc : (a b c : Bool) → a && (b && c) ≡ a && b && c
    assoc true b c = refl
    assoc false b c = refl

legal_from : (t : List ℕ) (q : Queue) (k n : ℕ) → packets_legal t (packets_from q k n) ≡ every n (λ i. packet_sound t (slot q ((k + i) % slots)))
unfolding every
legal_from t q k zero = unfold packets_from packets_legal in refl
legal_from t q k (suc n) =
    ap (packets_legal t) (packets_snoc q k n)
    ∙ legal_snoc t (packets_from q k n) (slot q ((k + n) % slots))
    ∙ ap (λ (b : Bool). b && packet_sound t (slot q ((k + n) % slots))) (legal_from t q k n)

pub legal_every : (t : List ℕ) (q : Queue) → packets_legal t (waiting q) ≡ every q.count (λ i. packet_sound t (packet_on q i))
unfolding waiting packet_on
legal_every t q = legal_from t q q.place q.count
