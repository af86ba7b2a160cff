use Rattle.std.proofs.Common.{◌∙◌, ap, refl, rules, tests}
use Rattle.machine.specs.Range.{every}
use Rattle.machine.specs.Step.{counter_word}
use Rattle.machine.proofs.Below.{all_numbers}
use Rattle.scratch_counts.specs.Counts.{count_matches}
use Rattle.scratch_counts.proofs.counts_match.Goals as goal

pub returns : goal.returns
unfolding count_matches
returns g c =
    let p = count_matches (counter_word g.K.Counter.sort) c.args.table.now c.args.scratch.now in
    all_numbers p c.capacity_of.result _ _ _ c.all.ensures.ran refl (λ x b q k. search (rules, tests)) ∙ ap (λ n. every n p) c.capacity_of.ensures
