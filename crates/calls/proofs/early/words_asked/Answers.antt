use mathlib.Core.Bool.{not}
use mathlib.Core.Path.{ap}
use mathlib.Core.Path.{sym}
use native.Mathlib.Omega.{arith}
use borrow.Author.Tests.{not-true, not-false}
use Rattle.machine.proofs.Questions.{shape_is}
use Rattle.calls.proofs.EarlyLaws.{yes, no, legal, words_1, words_3, words_x, words_y, words_0}
use Rattle.calls.proofs.early.words_asked.Goals as goal

pub returns-then-not-in_range : goal.returns-then-not-in_range
returns-then-not-in_range c =
    let i = c.args in
    sym (words_1 i.table.now i.queue.now i.n i.x i.y (no c.in_range.ensures (ap not c.if-not-in_range.true)))

pub returns-then-not-number_in_range : goal.returns-then-not-number_in_range
returns-then-not-number_in_range c =
    let i = c.args in
    sym (words_3 i.table.now i.queue.now i.n i.x i.y (yes c.in_range.ensures (ap not c.if-not-in_range.false)) (no c.number_in_range.ensures (ap not c.if-not-number_in_range.true)))

pub capacity_of-c-requires : goal.capacity_of-c-requires
capacity_of-c-requires c =
    let shape = shape_is _ _ (yes c.in_range.ensures (ap not c.if-not-in_range.false)) in
    let table = shape.table in omega arith

pub returns-then-not-is_legal : goal.returns-then-not-is_legal
returns-then-not-is_legal c =
    let i = c.args in
    let t = i.table.now in
    sym (words_x t i.queue.now i.n i.x i.y (yes c.in_range.ensures (ap not c.if-not-in_range.false)) (yes c.number_in_range.ensures (ap not c.if-not-number_in_range.false))
    (legal t _ i.x c.capacity_of-c.ensures c.is_legal.ensures (not-true _ (ap not c.if-not-is_legal.true))))

pub returns-then-not-is_legal-2 : goal.returns-then-not-is_legal-2
returns-then-not-is_legal-2 c =
    let i = c.args in
    let t = i.table.now in
    sym (words_y t i.queue.now i.n i.x i.y (yes c.in_range.ensures (ap not c.if-not-in_range.false)) (yes c.number_in_range.ensures (ap not c.if-not-number_in_range.false))
    (legal t _ i.x c.capacity_of-c.ensures c.is_legal.ensures (not-false _ (ap not c.if-not-is_legal.false)))
    (legal t _ i.y c.capacity_of-c.ensures c.is_legal-2.ensures (not-true _ (ap not c.if-not-is_legal-2.true))))

pub returns : goal.returns
returns c =
    let i = c.args in
    let t = i.table.now in
    sym (words_0 t i.queue.now i.n i.x i.y (yes c.in_range.ensures (ap not c.if-not-in_range.false)) (yes c.number_in_range.ensures (ap not c.if-not-number_in_range.false))
    (legal t _ i.x c.capacity_of-c.ensures c.is_legal.ensures (not-false _ (ap not c.if-not-is_legal.false)))
    (legal t _ i.y c.capacity_of-c.ensures c.is_legal-2.ensures (not-false _ (ap not c.if-not-is_legal-2.false))))
