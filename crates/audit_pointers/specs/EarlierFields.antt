-- A field as it was before some of the waiting packets, found through them.
use Rattle.std.specs.Prelude.{cond, ◌&&◌, List, [], ◌∷◌, ℕ, suc, ◌+◌, ◌-◌, eqb}
use Rattle.machine.specs.declared.Queue.{Queue}
use Rattle.machine.specs.Packets.{Kind, reads, makes, replaces, raises, lowers, unknown, kind_of}
use Rattle.machine.specs.Queue.{Packet, packets_from}
use Rattle.machine.specs.Table.{word_at}

-- the waiting packets that j older ones wait before
unfoldable pub newer : Queue → ℕ → List Packet
newer q j = packets_from q (q.place + j) (q.count - j)

-- field k of the cell at index i before a packet, where it holds w after it
unfoldable pub field_before_of : Kind → ℕ → ℕ → ℕ → ℕ → ℕ → ℕ
field_before_of reads b c i k w = w
field_before_of makes b c i k w = cond (eqb c (suc i)) 0 w
field_before_of (replaces f) b c i k w = cond (eqb f k && eqb c (suc i)) b w
field_before_of raises b c i k w = w
field_before_of lowers b c i k w = w
field_before_of unknown b c i k w = w

unfoldable pub field_before : Packet → ℕ → ℕ → ℕ → ℕ
field_before p i k w = field_before_of (kind_of p.kind) p.b p.c i k w

-- the field before the packets ps
unfoldable pub stage_field : List ℕ → List Packet → ℕ → ℕ → ℕ
stage_field t [] i k = word_at t i k
stage_field t (p ∷ ps) i k = field_before p i k (stage_field t ps i k)
