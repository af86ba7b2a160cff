-- S3 as the code asks it, packet by packet from the oldest: its words, then the words' root counts at its stage of the replay.
use Rattle.std.specs.Prelude.{◌≡◌, Bool, not, ◌&&◌, ◌||◌, List, [], ◌∷◌, ◌++◌, ℕ, suc, pred, ◌+◌, ◌%◌, leb}
use Rattle.machine.specs.declared.Queue.{Queue}
use Rattle.machine.specs.Audit.{packet_legal, names_in_use, is_zero_packet, replays}
use Rattle.machine.specs.Packets.{root, plus, minus, uses, waiting_change}
use Rattle.machine.specs.Queue.{Packet, slots, placed, slot, packets_from, waiting}
use Rattle.machine.specs.Range.{every}
use Rattle.machine.specs.Table.{root_count, capacity, word_at}
use Rattle.machine.specs.Words.{is_cell, ceiling}
use Rattle.queue.specs.Held.{HeldSums}
use Rattle.queue.specs.Sums.{AtMost}

-- the packet that j older ones wait before, and those
unfoldable pub packet_on : Queue → ℕ → Packet
packet_on q j = slot q ((q.place + j) % slots)

unfoldable pub oldest : Queue → ℕ → List Packet
oldest q j = packets_from q q.place j

-- the queue with these alone waiting
abbrev pub cut_to : Queue → ℕ → Queue
cut_to q j = placed q q.place j

-- the slot j places behind the waiting ones
unfoldable pub rest_zero : Queue → ℕ → Bool
rest_zero q j = is_zero_packet (slot q ((q.place + q.count + j) % slots))

unfoldable pub packet_sound : List ℕ → Packet → Bool
packet_sound t p = packet_legal t p && names_in_use t p

-- the held count of the cell x with root count n after the packets ps, as two sums
pub record HeldAfter (ps : List Packet) (x n : ℕ) (s : HeldSums) : Type 0 where
  pub raised : s.raised ≡ n + waiting_change root plus x ps
  pub lowered : s.lowered ≡ waiting_change root minus x ps
  pub few : AtMost (suc slots) s.raised s.lowered

-- questions 6 and 9 of the cell x with root count n, at the packet p behind ps: two sums, nothing floored
unfoldable pub stage_sound : ℕ → ℕ → List Packet → Packet → Bool
stage_sound x n ps p =
    leb (waiting_change root minus x ps + uses p x) (n + waiting_change root plus x ps)
    && leb (n + waiting_change root plus x (ps ++ (p ∷ []))) (ceiling + waiting_change root minus x (ps ++ (p ∷ [])))

-- a word that is no cell has no counts
unfoldable pub word_replays : List ℕ → Queue → ℕ → ℕ → Bool
word_replays t q j x = not (is_cell (capacity t) x) || stage_sound x (word_at t (pred x) root_count) (oldest q j) (packet_on q j)

-- only the words of a packet can fail at its stage
unfoldable pub packet_replays : List ℕ → Queue → ℕ → Bool
packet_replays t q j = word_replays t q j (packet_on q j).a && word_replays t q j (packet_on q j).b && word_replays t q j (packet_on q j).c

-- the replay of all cells, as the rule has it
unfoldable pub replays_all : List ℕ → Queue → Bool
replays_all t q = every (capacity t) (λ i. replays (suc i) (word_at t i root_count) (waiting q))
