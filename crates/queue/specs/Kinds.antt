-- The kinds of packets as the code has them.
use Rattle.std.specs.Prelude.{ℕ, Option, Some, None}
use Rattle.machine.specs.Table.{left, right}
use Rattle.machine.specs.Packets.{reads, makes, replaces, raises, lowers, unknown}
use Rattle.machine.specs.Packets
use Rattle.queue.specs.declared.Kind.{Kind}
use Rattle.queue.specs.declared.Kind.TheVariants.{Read, Cons, ReplaceLeft, Up, Down, ReplaceRight}

-- the machine's kind
abbrev pub kind_as : Kind → Rattle.machine.specs.Packets.Kind
kind_as Read = reads
kind_as Cons = makes
kind_as ReplaceLeft = replaces left
kind_as Up = raises
kind_as Down = lowers
kind_as ReplaceRight = replaces right

-- and the kind that a slot's word has, where it need not be a kind's number
abbrev pub known_as : Option Kind → Rattle.machine.specs.Packets.Kind
known_as None = unknown
known_as (Some k) = kind_as k

-- its number, as a slot has it
abbrev pub kind_number : Kind → ℕ
kind_number Read = 1
kind_number Cons = 2
kind_number ReplaceLeft = 3
kind_number Up = 4
kind_number Down = 5
kind_number ReplaceRight = 6
