use mathlib.Core.Path.{ap, ◌∙◌}
use mathlib.Core.Logic.{inr}
use Rattle.machine.specs.Step.{swept}
use Rattle.collector.proofs.Collected.{listed, frees_found}
use Rattle.collector.proofs.collect_from.Goals as goal

pub free_all-requires : goal.free_all-requires
free_all-requires c =
    (c.requires.0, listed c.args.table.now c.args.watched _ (c.as_slice.ensures.value ∙ c.in-Some.ensures))

pub returns : goal.returns
returns c =
    let i = c.args in
    inr (frees_found i.table.now i.watched _ c.in-Some.ensures _ c.capacity_of-capacity.ensures i.scratch.now _ _
    (c.free_all.ensures ∙ ap (swept i.table.now) c.as_slice.ensures.value) c.clear.ensures _ c.len.ensures.value)
