use Rattle.std.proofs.Common.{◌∙◌, ap, refl, rules, tests}
use Rattle.machine.specs.Range.{every}
use Rattle.machine.proofs.Below.{all_numbers}
use Rattle.audit_cells.specs.FreeChain.{free_or_used, free_laid_out}
use Rattle.audit_cells.proofs.chain.free_laid_out.Goals as goal

pub returns : goal.returns
unfolding free_laid_out
returns c =
    let p = free_or_used c.args.table.now in
    all_numbers p c.capacity_of.result _ _ _ c.all.ensures.ran refl (λ x b q k. search (rules, tests))
    ∙ ap (λ n. every n p) c.capacity_of.ensures
