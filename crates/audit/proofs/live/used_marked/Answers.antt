use Rattle.std.proofs.Common.{◌∙◌, ap, refl, rules, tests}
use Rattle.machine.specs.Range.{every}
use Rattle.machine.proofs.Below.{all_numbers}
use Rattle.audit.specs.Live.{free_or_marked}
use Rattle.audit.proofs.live.used_marked.Goals as goal

pub returns : goal.returns
returns c =
    let p = free_or_marked c.args.table.now c.args.scratch.now in
    all_numbers p c.capacity_of.result _ _ _ c.all.ensures.ran refl (λ x b q k. search (rules, tests)) ∙ ap (λ n. every n p) c.capacity_of.ensures
