use mathlib.Core.Bool.{not}
use mathlib.Core.Path.{ap}
use Rattle.calls.proofs.EarlyLaws.{yes, no}
use Rattle.calls.proofs.FreshLaws.{cells_are, words_are, fresh_number, fresh_short, fresh_done}
use Rattle.calls.proofs.fresh.Goals as goal

pub returns-then-not-cells_in_range : goal.returns-then-not-cells_in_range
returns-then-not-cells_in_range c =
    let i = c.args in
    fresh_number i.table.now i.queue i.c (no c.cells_in_range.ensures (ap not c.if-not-cells_in_range.true))

pub returns-then-not-long_enough : goal.returns-then-not-long_enough
returns-then-not-long_enough c =
    let i = c.args in
    fresh_short i.table.now i.queue i.c (yes c.cells_in_range.ensures (ap not c.if-not-cells_in_range.false))
    (no c.long_enough.ensures (ap not c.if-not-long_enough.true))

pub make_chain-requires : goal.make_chain-requires
make_chain-requires c =
    let i = c.args in
    let range = cells_are i.c (yes c.cells_in_range.ensures (ap not c.if-not-cells_in_range.false)) in
    (range.0, range.1, words_are i.c i.table.now (yes c.long_enough.ensures (ap not c.if-not-long_enough.false)))

pub returns : goal.returns
returns c =
    let i = c.args in
    fresh_done i.table.now i.queue i.c _ c.empty.result (yes c.cells_in_range.ensures (ap not c.if-not-cells_in_range.false))
    (yes c.long_enough.ensures (ap not c.if-not-long_enough.false)) c.make_chain.ensures c.empty.ensures
