use native.Mathlib.Omega.{arith}
use Rattle.machine.specs.Table.{state}
use Rattle.cells.proofs.Words.{read_part}
use Rattle.cells.proofs.state_word.Goals as goal

pub returns : goal.returns
returns c =
    read_part c.args.table.now c.args.index state _ (omega arith) (omega arith) c.state_word.ensures
