use Rattle.collector.proofs.FreedCells.{lowered_cell, free_is}
use Rattle.collector.proofs.freeing.free.Goals as goal

pub prepend-requires : goal.prepend-requires
prepend-requires c =
    lowered_cell c.args.table.now c.args.index _ c.lower_pointers.ensures c.requires.0 c.requires.1

pub returns : goal.returns
returns c =
    let i = c.args in
    free_is i.table.now i.index _ c.lower_pointers.ensures _ c.prepend.ensures
