use Rattle.calls.proofs.PacketLaws.{cell_inside, inside_field, read_back}
use Rattle.calls.proofs.packets.field_of.Goals as goal

pub overflow_sub-x : goal.overflow_sub-x
overflow_sub-x c = (cell_inside c.args.table.now c.args.x c.requires.0 c.requires.1).some

pub field-requires : goal.field-requires
field-requires c = (inside_field (cell_inside c.args.table.now c.args.x c.requires.0 c.requires.1), c.requires.2)

pub returns : goal.returns
returns c = let i = c.args in read_back i.table.now i.x i.k _ c.field.ensures
