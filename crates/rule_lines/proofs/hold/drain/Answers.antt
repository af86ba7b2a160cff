use Rattle.std.proofs.Common.{arith, ◌∙◌}
use Rattle.rule_lines.proofs.HoldLaws.{one_step}
use Rattle.rule_lines.proofs.hold.drain.Goals as goal

pub loop-preserved : goal.loop-preserved
loop-preserved c =
    let i = c.loop.invariant in
    record {
      table_size = c.step.auto.table ∙ i.table_size;
      scratch_size = c.step.auto.scratch ∙ i.scratch_size;
      told = one_step i c.step.ensures;
    }

pub returns : goal.returns
returns c w h = let k = c.loop.invariant.told w h in (k.0, omega (arith, k.1))
