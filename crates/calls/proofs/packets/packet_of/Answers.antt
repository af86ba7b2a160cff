use native.Mathlib.Omega.{arith}
use Rattle.machine.specs.Packets.{kind_of}
use Rattle.machine.specs.Calls.{packet_of}
use Rattle.calls.proofs.PacketLaws.{operand}
use Rattle.calls.proofs.packets.packet_of.Goals as goal

pub field_of-requires : goal.field_of-requires
unfolding packet_of kind_of
field_of-requires c =
    (c.requires.0, operand c.args.table.now _ _ c.in-Car.is c.requires.1, omega arith)

pub field_of-requires-in-Cdr : goal.field_of-requires-in-Cdr
unfolding packet_of kind_of
field_of-requires-in-Cdr c =
    (c.requires.0, operand c.args.table.now _ _ c.in-Cdr.is c.requires.1, omega arith)

pub field_of-requires-in-SetLeft : goal.field_of-requires-in-SetLeft
unfolding packet_of kind_of
field_of-requires-in-SetLeft c =
    (c.requires.0, operand c.args.table.now _ _ c.in-SetLeft.is c.requires.1, omega arith)

pub field_of-requires-in-SetRight : goal.field_of-requires-in-SetRight
unfolding packet_of kind_of
field_of-requires-in-SetRight c =
    (c.requires.0, operand c.args.table.now _ _ c.in-SetRight.is c.requires.1, omega arith)

pub returns-in-Car : goal.returns-in-Car
unfolding packet_of
returns-in-Car c = rw (c.in-Car.is, c.packet.ensures, c.field_of.ensures)

pub returns-in-Cdr : goal.returns-in-Cdr
unfolding packet_of
returns-in-Cdr c = rw (c.in-Cdr.is, c.packet-in-Cdr.ensures, c.field_of-in-Cdr.ensures)

pub returns-in-Cons : goal.returns-in-Cons
unfolding packet_of
returns-in-Cons c = rw (c.in-Cons.is, c.packet-in-Cons.ensures, c.first_free.ensures)

pub returns-in-SetLeft : goal.returns-in-SetLeft
unfolding packet_of
returns-in-SetLeft c = rw (c.in-SetLeft.is, c.packet-in-SetLeft.ensures, c.field_of-in-SetLeft.ensures)

pub returns-in-SetRight : goal.returns-in-SetRight
unfolding packet_of
returns-in-SetRight c = rw (c.in-SetRight.is, c.packet-in-SetRight.ensures, c.field_of-in-SetRight.ensures)

pub returns-in-Up : goal.returns-in-Up
unfolding packet_of
returns-in-Up c = rw (c.in-Up.is, c.packet-in-Up.ensures)

pub returns-in-Down : goal.returns-in-Down
unfolding packet_of
returns-in-Down c = rw (c.in-Down.is, c.packet-in-Down.ensures)
