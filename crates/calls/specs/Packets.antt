-- What the code takes of a call from its packet, by the packet's kind.
use Rattle.std.specs.Prelude.{◌≡◌, true, List, ℕ, ◌≤◌}
use Rattle.machine.specs.Words.{is_cell}
use Rattle.machine.specs.Table.{capacity}
use Rattle.machine.specs.Queue.{Packet}
use Rattle.machine.specs.Packets.{Kind, reads, makes, replaces, raises, lowers, unknown, kind_of}

-- what questions 3 and 5 ask of the call: that x is a cell, and of down that n is not 0
abbrev pub operands_of : Kind → List ℕ → ℕ → ℕ → ℕ → Type 0
operands_of reads t a b c = is_cell (capacity t) a ≡ true
operands_of makes t a b c = Unit {0}
operands_of (replaces k) t a b c = is_cell (capacity t) c ≡ true
operands_of raises t a b c = is_cell (capacity t) a ≡ true
operands_of lowers t a b c = (is_cell (capacity t) a ≡ true) × (1 ≤ b)
operands_of unknown t a b c = ⊥

abbrev pub Operands : List ℕ → Packet → Type 0
Operands t p = operands_of (kind_of p.kind) t p.a p.b p.c

-- the value that the call replies: the word read, the new cell, the word detached, else 0
abbrev pub value_by : Kind → ℕ → ℕ → ℕ
value_by reads b c = b
value_by makes b c = c
value_by (replaces k) b c = b
value_by raises b c = 0
value_by lowers b c = 0
value_by unknown b c = 0
