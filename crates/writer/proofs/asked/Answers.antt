use mathlib.Core.Bool.{not}
use mathlib.Core.Path.{ap}
use borrow.Author.Rules.{rules}
use borrow.Author.Tests.{not-true, not-false}
use Rattle.machine.proofs.Questions.{shape_is}
use Rattle.calls.proofs.EarlyLaws.{yes, no, legal}
use Rattle.writer.proofs.FrontLaws.{front_1, front_4, front_6, front_0}
use Rattle.writer.proofs.asked.Goals as goal

pub returns-then-not-in_range : goal.returns-then-not-in_range
returns-then-not-in_range c =
    let i = c.args in
    front_1 i.table.now i.queue.now i.word (no c.in_range.ensures (ap not c.if-not-in_range.true))

pub capacity_of-requires : goal.capacity_of-requires
capacity_of-requires c =
    let i = c.args in
    let shape = shape_is i.table.now i.queue.now (yes c.in_range.ensures (ap not c.if-not-in_range.false)) in
    search rules

pub returns-then-not-is_legal : goal.returns-then-not-is_legal
returns-then-not-is_legal c =
    let i = c.args in
    front_4 i.table.now i.queue.now i.word (yes c.in_range.ensures (ap not c.if-not-in_range.false))
    (legal i.table.now _ i.word c.capacity_of.ensures c.is_legal.ensures (not-true _ (ap not c.if-not-is_legal.true)))

pub word_held-requires : goal.word_held-requires
word_held-requires c =
    let i = c.args in
    shape_is i.table.now i.queue.now (yes c.in_range.ensures (ap not c.if-not-in_range.false))

pub returns-then-not-word_held : goal.returns-then-not-word_held
returns-then-not-word_held c =
    let i = c.args in
    front_6 i.table.now i.queue.now i.word (yes c.in_range.ensures (ap not c.if-not-in_range.false))
    (legal i.table.now _ i.word c.capacity_of.ensures c.is_legal.ensures (not-false _ (ap not c.if-not-is_legal.false)))
    (no c.word_held.ensures (ap not c.if-not-word_held.true))

pub returns : goal.returns
returns c =
    let i = c.args in
    front_0 i.table.now i.queue.now i.word (yes c.in_range.ensures (ap not c.if-not-in_range.false))
    (legal i.table.now _ i.word c.capacity_of.ensures c.is_legal.ensures (not-false _ (ap not c.if-not-is_legal.false)))
    (yes c.word_held.ensures (ap not c.if-not-word_held.false))
