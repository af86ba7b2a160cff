use borrow.Author.Rules.{rules}
use Rattle.printer.proofs.StepLaws.{zero_kind, cell_kind, low_kind, atom_kind}
use Rattle.printer.proofs.walk.kind_of.Goals as goal

pub returns-then-word-eq0 : goal.returns-then-word-eq0
returns-then-word-eq0 c = zero_kind _ _ c.if-word-eq0.true

pub returns-then-word-capacity_of : goal.returns-then-word-capacity_of
returns-then-word-capacity_of c =
    let i = c.args in
    cell_kind i.table.now i.word _ _ (search rules) (search rules) c.field-left.ensures c.field-right.ensures

pub returns-then-word-lt-FIRST_ATOM : goal.returns-then-word-lt-FIRST_ATOM
returns-then-word-lt-FIRST_ATOM c =
    let i = c.args in
    low_kind i.table.now i.word (search rules) (search rules) (search rules)

pub returns : goal.returns
returns c =
    let i = c.args in
    atom_kind i.table.now i.word (search rules) (search rules) (search rules) (search rules)
