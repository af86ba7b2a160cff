use mathlib.Core.Bool.{not}
use mathlib.Core.Path.{sym, ap, ◌∙◌}
use native.Mathlib.Omega.{arith}
use borrow.Author.Tests.{not-true, not-false}
use Rattle.machine.proofs.Questions.{shape_is, step_asked_1, step_asked_2, step_asked}
use Rattle.questions.proofs.lent.Goals as goal

pub returns-then-not-in_range : goal.returns-then-not-in_range
returns-then-not-in_range c = sym (step_asked_1 _ _ _ (sym c.in_range.ensures ∙ not-true _ (ap not c.if-not-in_range.true)))

pub scratch_enough-requires : goal.scratch_enough-requires
scratch_enough-requires c =
    let shape = shape_is _ _ (sym c.in_range.ensures ∙ not-false _ (ap not c.if-not-in_range.false)) in
    let table = shape.table in omega arith

pub returns-then-not-scratch_enough : goal.returns-then-not-scratch_enough
returns-then-not-scratch_enough c =
    sym (step_asked_2 _ _ _ (sym c.in_range.ensures ∙ not-false _ (ap not c.if-not-in_range.false))
    (sym c.scratch_enough.ensures ∙ not-true _ (ap not c.if-not-scratch_enough.true)))

pub returns : goal.returns
returns c =
    sym (step_asked _ _ _ (sym c.in_range.ensures ∙ not-false _ (ap not c.if-not-in_range.false))
    (sym c.scratch_enough.ensures ∙ not-false _ (ap not c.if-not-scratch_enough.false)))
