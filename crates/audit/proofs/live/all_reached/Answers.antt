use mathlib.Core.Path.{◌∙◌}
use Rattle.audit.proofs.Reached.{marked_reached}
use Rattle.audit.proofs.live.all_reached.Goals as goal

pub returns : goal.returns
returns c =
    let i = c.args in
    let m = c.mark.ensures in
    record { answer = c.used_marked.ensures ∙ marked_reached i.table.now _ m.marks; past = m.past }
