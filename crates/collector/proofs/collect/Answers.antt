use mathlib.Core.Path.{ap}
use native.Mathlib.Omega.{arith}
use Rattle.machine.specs.Table.{scratch_words}
use Rattle.collector.proofs.Collected.{collects}
use Rattle.collector.proofs.collect.Goals as goal

pub clear-requires : goal.clear-requires
clear-requires c =
    omega (arith, ap scratch_words c.capacity_of-capacity.ensures, c.requires.1, c.mark.auto)

pub returns : goal.returns
returns c =
    collects c.args.table.now c.args.scratch.now _ _ _ _ _ c.capacity_of-capacity.ensures c.mark.ensures
    c.sweep-freed.ensures c.clear.ensures
