-- "The queue": 64 slots, the first slot's place, the count. A slot has a kind and words a, b, c.
use Rattle.std.specs.Prelude.{◌≡◌, List, [], ◌∷◌, ℕ, zero, suc, ◌+◌, ◌-◌, ◌%◌, length, get_or, set, replicate}
use Rattle.machine.specs.declared.Queue.{Queue}

abbrev pub slots : ℕ
slots = 64

-- the arrays of a queue have 64 words each, as the code's type says
pub record Arrays (q : Queue) : Type 0 where
  pub kinds : length q.kinds ≡ slots
  pub a : length q.a ≡ slots
  pub b : length q.b ≡ slots
  pub c : length q.c ≡ slots

-- what a slot holds
pub record Packet : Type 0 where
  pub kind : ℕ
  pub a : ℕ
  pub b : ℕ
  pub c : ℕ

abbrev pub packet : ℕ → ℕ → ℕ → ℕ → Packet
packet k a b c = record { kind = k; a = a; b = b; c = c }

abbrev pub zero_packet : Packet
zero_packet = packet 0 0 0 0

-- the queue of these arrays at this place and count, and the queue q at another place and count
abbrev pub queue_of : List ℕ → List ℕ → List ℕ → List ℕ → ℕ → ℕ → Queue
queue_of kinds a b c place count = record { kinds = kinds; a = a; b = b; c = c; place = place; count = count }

abbrev pub placed : Queue → ℕ → ℕ → Queue
placed q place count = queue_of q.kinds q.a q.b q.c place count

abbrev pub empty_queue : Queue
empty_queue = record {
  kinds = replicate slots 0;
  a = replicate slots 0;
  b = replicate slots 0;
  c = replicate slots 0;
  place = 0;
  count = 0;
}

unfoldable pub slot : Queue → ℕ → Packet
slot q j = packet (get_or q.kinds j 0) (get_or q.a j 0) (get_or q.b j 0) (get_or q.c j 0)

-- the queue with the packet p in slot j, at another place and count
unfoldable pub put_slot : Queue → ℕ → Packet → ℕ → ℕ → Queue
put_slot q j p place count = record {
  kinds = set q.kinds j p.kind;
  a = set q.a j p.a;
  b = set q.b j p.b;
  c = set q.c j p.c;
  place = place;
  count = count;
}

-- a new packet takes the slot that lies count places after the first, 63 followed by 0
unfoldable pub appended : Queue → Packet → Queue
appended q p = put_slot q ((q.place + q.count) % slots) p q.place (q.count + 1)

-- packets appended in their order
abbrev pub appended_all : Queue → List Packet → Queue
appended_all q [] = q
appended_all q (p ∷ ps) = appended_all (appended q p) ps

-- a taken slot becomes zero and the place moves on by one, 63 to 0
unfoldable pub taken : Queue → Queue
taken q = put_slot q q.place zero_packet ((q.place + 1) % slots) (q.count - 1)

-- n packets from place j on
unfoldable pub packets_from : Queue → ℕ → ℕ → List Packet
packets_from q j zero = []
packets_from q j (suc n) = slot q (j % slots) ∷ packets_from q (suc j) n

-- the waiting packets, oldest first
unfoldable pub waiting : Queue → List Packet
waiting q = packets_from q q.place q.count
