-- S3's name counts as the code asks them: the names counted in the scratch, packet by packet from the oldest, then each cell's name count against them.
use Rattle.std.specs.Prelude.{◌≡◌, List, ℕ, suc, ◌+◌, ◌*◌, ◌<◌, get_or, drop}
use Rattle.machine.specs.Packets.{names, times_named}
use Rattle.machine.specs.Queue.{Packet, slots}
use Rattle.machine.specs.Range.{occurrences}
use Rattle.machine.specs.Table.{scratch_words}

-- three places in each of the most packets
abbrev pub most_names : ℕ
most_names = 3 * slots

-- the scratch s' is s with the names of the packet p counted too; words past those that c cells need stand
pub record CountPacket (c : ℕ) (p : Packet) (s s' : List ℕ) : Type 0 where
  pub each : ((i : ℕ) → i < c → get_or s' i 0 ≡ get_or s i 0 + occurrences (suc i) (names p))
  pub past : drop (scratch_words c) s' ≡ drop (scratch_words c) s

-- s' counts the names of the packets ps
pub record NamesCount (c : ℕ) (ps : List Packet) (s s' : List ℕ) : Type 0 where
  pub each : ((i : ℕ) → i < c → get_or s' i 0 ≡ times_named ps (suc i))
  pub past : drop (scratch_words c) s' ≡ drop (scratch_words c) s
