use borrow.Author.Rules.{rules}
use mathlib.Core.Path.{sym, ◌∙◌}
use Rattle.printer.proofs.StepLaws.{opening, number, empty, no_opening, no_empty}
use Rattle.printer.proofs.walk.at_element.Goals as goal

pub returns-then-depth-eq-MOST_OPEN : goal.returns-then-depth-eq-MOST_OPEN
returns-then-depth-eq-MOST_OPEN c =
    let i = c.args in
    no_opening i.table.now i.rests.now i.depth i.word _ _ _ (sym c.kind_of-kind.ensures ∙ c.in-Pair.is) c.if-depth-eq-MOST_OPEN.true

pub returns-then-depth-eq-MOST_OPEN-2 : goal.returns-then-depth-eq-MOST_OPEN-2
returns-then-depth-eq-MOST_OPEN-2 c =
    let i = c.args in
    no_empty i.table.now i.rests.now i.depth i.word _ (sym c.kind_of-kind.ensures ∙ c.in-Nil.is) c.if-depth-eq-MOST_OPEN-2.true

pub returns-else-depth-eq-MOST_OPEN : goal.returns-else-depth-eq-MOST_OPEN
returns-else-depth-eq-MOST_OPEN c =
    let i = c.args in
    opening i.table.now i.rests.now i.depth i.word _ _ (sym c.kind_of-kind.ensures ∙ c.in-Pair.is) (search rules) (search rules)

pub returns-in-Atom : goal.returns-in-Atom
returns-in-Atom c =
    let i = c.args in
    number i.table.now i.rests.now i.depth i.word _ (sym c.kind_of-kind.ensures ∙ c.in-Atom.is) (search rules)

pub returns-else-depth-eq-MOST_OPEN-2 : goal.returns-else-depth-eq-MOST_OPEN-2
returns-else-depth-eq-MOST_OPEN-2 c =
    let i = c.args in
    empty i.table.now i.rests.now i.depth i.word (sym c.kind_of-kind.ensures ∙ c.in-Nil.is) (search rules)
