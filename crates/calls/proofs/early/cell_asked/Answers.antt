use mathlib.Core.Bool.{not}
use mathlib.Core.Path.{◌≡◌, ap, ◌∙◌}
use borrow.Author.Rules.{rules}
use Rattle.machine.specs.Answers.{asked_number}
use native.Mathlib.Omega.{arith}
use borrow.Author.Tests.{not-true, not-false}
use Rattle.calls.proofs.EarlyLaws.{cellular, words_ready, words_first, cell_yes, cell_5}
use Rattle.calls.proofs.early.cell_asked.Goals as goal

pub returns-in_err-words_asked : goal.returns-in_err-words_asked
returns-in_err-words_asked c =
    let i = c.args in
    let words = c.words_asked in
    let first = words_first i.table.now i.queue.now i.n i.x i.y words.result c.in_err-words_asked.field-0.0 words.ensures c.in_err-words_asked.was in
    let same : c.from_residual.result ≡ words.result = search rules in
    ap asked_number same ∙ first

pub capacity_of-requires : goal.capacity_of-requires
capacity_of-requires c =
    let i = c.args in
    let words = c.words_asked in
    let shape = words_ready i.table.now i.queue.now i.n i.x i.y words.result c.in_ok-words_asked.was words.ensures in
    let table = shape.table in omega arith

pub returns-then-not-is_cell : goal.returns-then-not-is_cell
returns-then-not-is_cell c =
    let i = c.args in
    let words = c.words_asked in
    cell_5 i.table.now i.queue.now i.n i.x i.y words.result c.in_ok-words_asked.was words.ensures
    (cellular i.table.now _ i.x c.capacity_of.ensures c.is_cell.ensures (not-true _ (ap not c.if-not-is_cell.true)))

pub returns : goal.returns
returns c =
    let i = c.args in
    let words = c.words_asked in
    cell_yes i.table.now i.queue.now i.n i.x i.y words.result c.in_ok-words_asked.was words.ensures
    (cellular i.table.now _ i.x c.capacity_of.ensures c.is_cell.ensures (not-false _ (ap not c.if-not-is_cell.false)))
