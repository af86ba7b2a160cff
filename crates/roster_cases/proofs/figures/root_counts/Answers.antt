use Rattle.std.proofs.Common.{rules, arith, ℕ, sym, ap, ◌∙◌}
use Rattle.machine.specs.Range.{total}
use Rattle.machine.specs.Table.{root_count, word_at}
use Rattle.roster_cases.specs.Figures.{root_counts}
use Rattle.roster_cases.proofs.FigureLaws.{cell_there, total_none, total_more}
use Rattle.roster_cases.proofs.figures.root_counts.Goals as goal

pub loop-i-init : goal.loop-i-init
loop-i-init c = (search rules, sym (total_none _))

pub root_count_at-sum-requires : goal.root_count_at-sum-requires
root_count_at-sum-requires c = cell_there c.args.table.now c.loop-i.i (omega (arith, c.cells_of-c.ensures))

pub loop-i-preserved : goal.loop-i-preserved
loop-i-preserved c = (
  search rules,
  omega (arith, c.root_count_at-sum.ensures.0, c.loop-i.invariant.1, total_more c.loop-i.i (λ (j : ℕ). word_at c.args.table.now j root_count)),
)

pub returns : goal.returns
unfolding root_counts
returns c =
    c.loop-i.invariant.1
    ∙ ap (λ (k : ℕ). total k (λ (j : ℕ). word_at c.args.table.now j root_count)) (omega (arith, c.cells_of-c.ensures))
