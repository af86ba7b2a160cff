use mathlib.Core.Path.{ap, ◌∙◌}
use Prim.Native.Nat.{ℕ}
use Rattle.machine.specs.Table.{free_cell, put_cell}
use Rattle.calls.proofs.chain.chain_cell.Goals as goal

pub returns : goal.returns
returns c =
    let i = c.args in
    c.set_free.ensures ∙ ap (λ (n : ℕ). put_cell i.table.now i.i (free_cell n)) c.next_cell.ensures
