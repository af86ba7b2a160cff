use native.Mathlib.Omega.{arith}
use Rattle.machine.specs.Step.{counter_word}
use Rattle.cells.proofs.Words.{written_part, counter_in_cell}
use Rattle.cells.proofs.set_count.Goals as goal

pub returns : goal.returns
returns g c =
    let k = g.K.Counter.sort in
    written_part c.args.table.now c.args.index (counter_word k) _ _ (omega arith) (counter_in_cell k) c.set_count.ensures
