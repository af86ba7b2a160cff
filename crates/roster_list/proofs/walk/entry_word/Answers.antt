use mathlib.Core.Path.{◌∙◌}
use Rattle.roster_list.proofs.Turning.{looks}
use Rattle.roster_list.proofs.walk.entry_word.Goals as goal

pub shape_of-table : goal.shape_of-table
shape_of-table c = c.settle-2.auto.table ∙ c.settle-pair.auto.table ∙ c.settle.auto.table

pub returns : goal.returns
returns c = looks _ c.settle.ensures c.settle-pair.ensures (rw c.read_of.ensures at c.settle-2.ensures)
