use native.Mathlib.Omega.{arith}
use Rattle.machine.specs.Calls.{written}
use Rattle.machine.specs.Table.{left, right}
use Rattle.calls.proofs.PacketLaws.{inside_field}
use Rattle.calls.proofs.WriteLaws.{put_field, unwritten}
use Rattle.calls.proofs.writes.write.Goals as goal

pub take_first-requires : goal.take_first-requires
take_first-requires c = rw c.in-Cons.is at c.requires

pub overflow_sub-x : goal.overflow_sub-x
overflow_sub-x c = (rw c.in-SetLeft.is at c.requires).some

pub set_field-requires : goal.set_field-requires
set_field-requires c = (inside_field (rw c.in-SetLeft.is at c.requires), omega arith)

pub overflow_sub-x-in-SetRight : goal.overflow_sub-x-in-SetRight
overflow_sub-x-in-SetRight c = (rw c.in-SetRight.is at c.requires).some

pub set_field-requires-in-SetRight : goal.set_field-requires-in-SetRight
set_field-requires-in-SetRight c = (inside_field (rw c.in-SetRight.is at c.requires), omega arith)

pub returns-in-Cons : goal.returns-in-Cons
returns-in-Cons c = rw c.in-Cons.is c.take_first.ensures

pub returns-in-SetLeft : goal.returns-in-SetLeft
unfolding written
returns-in-SetLeft c =
    rw c.in-SetLeft.is (put_field c.args.table.now _ c.in-SetLeft.x left c.in-SetLeft.y c.set_field.ensures)

pub returns-in-SetRight : goal.returns-in-SetRight
unfolding written
returns-in-SetRight c =
    rw c.in-SetRight.is (put_field c.args.table.now _ c.in-SetRight.x right c.in-SetRight.y c.set_field-in-SetRight.ensures)

pub returns-in_default : goal.returns-in_default
returns-in_default c = unwritten c.args.table.now c.args.call c.in_default.not-Cons c.in_default.not-SetLeft c.in_default.not-SetRight
