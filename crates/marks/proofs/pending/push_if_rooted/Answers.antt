use mathlib.Core.Path.{sym, ◌∙◌}
use native.Mathlib.Omega.{arith}
use Rattle.marks.proofs.Loops.{if_rooted, unrooted}
use Rattle.marks.proofs.pending.push_if_rooted.Goals as goal

pub returns-then-rooted : goal.returns-then-rooted
returns-then-rooted c =
    let rooted = rw c.from.ensures at (sym c.rooted.ensures ∙ c.if-rooted.true) in
    if_rooted c.args.table.now _ _ _ rooted _ c.push.ensures

pub returns-else-rooted : goal.returns-else-rooted
returns-else-rooted c =
    let rooted = rw c.from.ensures at (sym c.rooted.ensures ∙ c.if-rooted.false) in
    unrooted c.args.table.now _ _ _ rooted (omega arith)
