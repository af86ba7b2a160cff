use mathlib.Core.Path.{◌∙◌}
use Rattle.roster_changes.proofs.Changing.{links_past}
use Rattle.roster_changes.proofs.link_past.Goals as goal

pub shape_of-table : goal.shape_of-table
shape_of-table c = c.relink.auto.table ∙ c.pass-before.auto.table ∙ c.settle.auto.table ∙ c.settle-next.auto.table

pub shape_of-scratch : goal.shape_of-scratch
shape_of-scratch c = c.relink.auto.scratch ∙ c.pass-before.auto.scratch ∙ c.settle.auto.scratch ∙ c.settle-next.auto.scratch

pub returns : goal.returns
returns c = links_past c.settle-next.ensures c.settle.ensures c.pass-before.ensures c.relink.ensures
