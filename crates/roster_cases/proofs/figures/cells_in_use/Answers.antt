use Rattle.std.proofs.Common.{rules, arith, ℕ, Bool, cond, sym, ap, ◌∙◌}
use Rattle.machine.specs.Range.{total}
use Rattle.machine.specs.Table.{in_use}
use Rattle.roster_cases.specs.Figures.{used_cells}
use Rattle.roster_cases.proofs.FigureLaws.{cell_there, total_none, total_more}
use Rattle.roster_cases.proofs.figures.cells_in_use.Goals.{then-in_use, else-in_use}
use Rattle.roster_cases.proofs.figures.cells_in_use.Goals as goal

pub loop-i-init : goal.loop-i-init
loop-i-init c = (search rules, sym (total_none _))

pub in_use-requires : goal.in_use-requires
in_use-requires c = cell_there c.args.table.now c.loop-i.i (omega (arith, c.cells_of-c.ensures))

pub loop-i-preserved : goal.loop-i-preserved
loop-i-preserved c =
    let same = c.in_use.ensures in
    let one : Bool → ℕ = λ b. cond b 1 0 in
    let more = total_more c.loop-i.i (λ (j : ℕ). cond (in_use c.args.table.now j) 1 0) in
    elim c.if-in_use.branch [
      | then-in_use w ↦ (omega arith, omega (arith, w.n-is, c.loop-i.invariant.1, more, ap one (sym same ∙ w.if-in_use.true)))
      | else-in_use w ↦ (omega arith, omega (arith, w.n-is, c.loop-i.invariant.1, more, ap one (sym same ∙ w.if-in_use.false)))
    ]

pub returns : goal.returns
unfolding used_cells
returns c =
    c.loop-i.invariant.1
    ∙ ap (λ (k : ℕ). total k (λ (j : ℕ). cond (in_use c.args.table.now j) 1 0)) (omega (arith, c.cells_of-c.ensures))
