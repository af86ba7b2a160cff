use native.Mathlib.Omega.{arith}
use Rattle.machine.specs.Table.{state}
use Rattle.cells.proofs.Words.{written_part}
use Rattle.cells.proofs.set_state.Goals as goal

pub returns : goal.returns
returns c =
    written_part c.args.table.now c.args.index state c.args.v _ (omega arith) (omega arith) c.set_state.ensures
