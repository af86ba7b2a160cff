use mathlib.Core.Path.{◌∙◌}
use Rattle.roster_changes.proofs.Changing.{replaces}
use Rattle.roster_changes.proofs.replace.Goals as goal

pub shape_of-table : goal.shape_of-table
shape_of-table c = c.settle-2.auto.table ∙ c.settle.auto.table ∙ c.settle-entry.auto.table

pub returns : goal.returns
returns c = replaces c.settle-entry.ensures c.atom.ensures c.settle.ensures c.settle-2.ensures
