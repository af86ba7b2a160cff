use native.Mathlib.Omega.{arith}
use Rattle.cells.proofs.Words.{read_part}
use Rattle.cells.proofs.field.Goals as goal

pub returns : goal.returns
returns c =
    read_part c.args.table.now c.args.index c.args.k _ (omega arith) (omega arith) c.field.ensures
