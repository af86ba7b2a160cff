use borrow.Author.Rules.{rules}
use mathlib.Core.Path.{sym, ◌∙◌}
use Rattle.printer.proofs.StepLaws.{gap, dotted, closing}
use Rattle.printer.proofs.walk.at_rest.Goals as goal

pub returns-in-Pair : goal.returns-in-Pair
returns-in-Pair c =
    let i = c.args in
    gap i.table.now i.rests.now i.depth (search rules) (search rules) _ _ (sym c.kind_of-kind.ensures ∙ c.in-Pair.is) (search rules)

pub returns-in-Atom : goal.returns-in-Atom
returns-in-Atom c =
    let i = c.args in
    dotted i.table.now i.rests.now i.depth (search rules) (search rules) _ (sym c.kind_of-kind.ensures ∙ c.in-Atom.is)

pub returns-in-Nil : goal.returns-in-Nil
returns-in-Nil c =
    let i = c.args in
    closing i.table.now i.rests.now i.depth (search rules) (search rules) (sym c.kind_of-kind.ensures ∙ c.in-Nil.is)
