use native.Mathlib.Omega.{arith}
use Rattle.cells.proofs.Words.{written_part}
use Rattle.cells.proofs.set_field.Goals as goal

pub returns : goal.returns
returns c =
    written_part c.args.table.now c.args.index c.args.k c.args.v _ (omega arith) (omega arith) c.set_field.ensures
