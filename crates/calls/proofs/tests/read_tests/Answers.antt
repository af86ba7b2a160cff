use mathlib.Core.Bool.{not}
use mathlib.Core.Path.{ap}
use Rattle.calls.proofs.EarlyLaws.{yes, no}
use Rattle.calls.proofs.tests.read_tests.Goals as goal

pub returns-then-not-at_least : goal.returns-then-not-at_least
returns-then-not-at_least c =
    rw (no c.at_least.ensures (ap not c.if-not-at_least.true))

pub returns-then-not-slot_empty : goal.returns-then-not-slot_empty
returns-then-not-slot_empty c =
    let held = yes c.at_least.ensures (ap not c.if-not-at_least.false) in
    rw (held, no c.slot_empty.ensures (ap not c.if-not-slot_empty.true))

pub returns-then-not-within : goal.returns-then-not-within
returns-then-not-within c =
    let held = yes c.at_least.ensures (ap not c.if-not-at_least.false) in
    let slot = yes c.slot_empty.ensures (ap not c.if-not-slot_empty.false) in
    rw (held, slot, no c.within.ensures (ap not c.if-not-within.true))

pub returns : goal.returns
returns c =
    let held = yes c.at_least.ensures (ap not c.if-not-at_least.false) in
    let slot = yes c.slot_empty.ensures (ap not c.if-not-slot_empty.false) in
    let after = yes c.within.ensures (ap not c.if-not-within.false) in
    rw (held, slot, after)
