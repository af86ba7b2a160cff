use mathlib.Core.Path.{refl, ◌∙◌}
use native.Mathlib.Omega.{arith}
use Rattle.machine.specs.Calls.{chained}
use Rattle.calls.proofs.FreshLaws.{chain_more, chain_all}
use Rattle.calls.proofs.chain.make_chain.Goals as goal

pub loop-i-init : goal.loop-i-init
unfolding chained
loop-i-init c = (refl, refl)

pub loop-i-preserved : goal.loop-i-preserved
loop-i-preserved c =
    let l = c.loop-i in
    (chain_more _ l.i _ _ _ l.invariant.0 c.chain_cell.ensures, c.chain_cell.auto.table ∙ l.invariant.1)

pub shape_of-table : goal.shape_of-table
shape_of-table c =
    c.loop-i.invariant.1 ∙ c.set_ends.auto.table ∙ c.set_capacity.auto.table

pub returns : goal.returns
returns c =
    let l = c.loop-i in
    chain_all _ l.i _ _ _ _ c.set_capacity.ensures c.set_ends.ensures (omega arith) l.invariant.0
