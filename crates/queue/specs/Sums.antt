-- What a packet is as the machine has it, and what the sums of waiting changes hold: each statement once, over the counter.
use Rattle.std.specs.Prelude.{◌≡◌, Bool, List, ℕ, suc, ◌+◌, ◌*◌, ◌≤◌, leb}
use Rattle.machine.specs.Words.{largest_word, ceiling}
use Rattle.machine.specs.Queue.{Packet, packet, slots}
use Rattle.machine.specs.Packets.{Counter, root, cell, plus, minus, kind_of, changes_of, moved_by, waiting_change}
use Rattle.queue.specs.declared.Packet
use Rattle.queue.specs.declared.Sums.{Sums}

-- the machine's packet
abbrev pub packet_of : Rattle.queue.specs.declared.Packet.Packet → Packet
packet_of p = packet p.kind p.a p.b p.c

-- r and l: by how much the packets ps raise and lower the counter k of the cell x
pub record CounterSums (k : Counter) (ps : List Packet) (x r l : ℕ) : Type 0 where
  pub raised : r ≡ waiting_change k plus x ps
  pub lowered : l ≡ waiting_change k minus x ps

pub record SumsOf (ps : List Packet) (x : ℕ) (s : Sums) : Type 0 where
  pub held : CounterSums root ps x s.held.raised s.held.lowered
  pub pointers : CounterSums cell ps x s.pointers.raised s.pointers.lowered

-- no packet changes a count by more than the largest word; n packets by n times that
pub record AtMost (n r l : ℕ) : Type 0 where
  pub raised : r ≤ n * largest_word
  pub lowered : l ≤ n * largest_word

pub record Bounded (n : ℕ) (s : Sums) : Type 0 where
  pub held : AtMost n s.held.raised s.held.lowered
  pub pointers : AtMost n s.pointers.raised s.pointers.lowered

-- one packet's changes of the counter k added
pub record CounterAdded (k : Counter) (kind a b x r l r' l' : ℕ) : Type 0 where
  pub raised : r' ≡ r + moved_by k plus x (changes_of (kind_of kind) a b)
  pub lowered : l' ≡ l + moved_by k minus x (changes_of (kind_of kind) a b)

-- each at most the largest word
pub record Added (s : Sums) (kind a b x : ℕ) (s' : Sums) : Type 0 where
  pub held : CounterAdded root kind a b x s.held.raised s.held.lowered s'.held.raised s'.held.lowered
  pub pointers : CounterAdded cell kind a b x s.pointers.raised s.pointers.lowered s'.pointers.raised s'.pointers.lowered
  pub few : ((n : ℕ) → Bounded n s → Bounded (n + 1) s')

-- the counter's own n counts as raised
pub record WithCount (n r l r' l' : ℕ) : Type 0 where
  pub raised : r' ≡ n + r
  pub lowered : l' ≡ l
  pub few : AtMost (suc slots) r' l'

-- what is left of the raises is n or more
abbrev pub at_least : ℕ → ℕ → ℕ → Bool
at_least r l n = leb (l + n) r

-- what is left of the raises is at most 4,095
abbrev pub at_most_ceiling : ℕ → ℕ → Bool
at_most_ceiling r l = leb r (ceiling + l)
