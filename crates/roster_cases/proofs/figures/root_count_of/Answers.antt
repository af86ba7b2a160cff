use Rattle.std.proofs.Common.{arith, ◌≡◌, ℕ, ◌-◌, sym, ap, ◌∙◌}
use Rattle.machine.specs.Table.{root_count, word_at}
use Rattle.roster_cases.proofs.FigureLaws.{cell_there, no_root_count, root_count_there}
use Rattle.roster_cases.proofs.figures.root_count_of.Goals.{else-word-gt0-via-then-word-gt0+else-word-cells_of, else-word-gt0-via-else-word-gt0}
use Rattle.roster_cases.proofs.figures.root_count_of.Goals as goal

pub root_count_at-requires : goal.root_count_at-requires
root_count_at-requires c = cell_there c.args.table.now c.from.result (omega (arith, c.cells_of.ensures, c.from.ensures))

pub returns-then-word-cells_of : goal.returns-then-word-cells_of
returns-then-word-cells_of c =
    let index : c.from.result ≡ c.args.word - 1 = omega (arith, c.from.ensures) in
    c.root_count_at.ensures.0
    ∙ ap (λ (i : ℕ). word_at c.args.table.now i root_count) index
    ∙ root_count_there c.args.table.now c.args.word (omega arith) (omega (arith, c.cells_of.ensures))

pub returns-else-word-gt0 : goal.returns-else-word-gt0
returns-else-word-gt0 c =
    elim c.else-word-gt0.branch [
      | else-word-gt0-via-then-word-gt0+else-word-cells_of w ↦ sym (no_root_count _ _ (λ h l. omega (arith, w.cells_of.ensures)))
      | else-word-gt0-via-else-word-gt0 w ↦ sym (no_root_count _ _ (λ h l. omega arith))
    ]
