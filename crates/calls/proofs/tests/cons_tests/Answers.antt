use mathlib.Core.Bool.{not}
use mathlib.Core.Path.{ap}
use borrow.Author.Tests.{eq-eqb, ne_eqb}
use Rattle.calls.proofs.EarlyLaws.{yes, no}
use Rattle.calls.proofs.tests.cons_tests.Goals as goal

pub returns-then-not-at_least : goal.returns-then-not-at_least
returns-then-not-at_least c =
    rw (no c.at_least.ensures (ap not c.if-not-at_least.true))

pub returns-then-not-at_least-2 : goal.returns-then-not-at_least-2
returns-then-not-at_least-2 c =
    let held_x = yes c.at_least.ensures (ap not c.if-not-at_least.false) in
    rw (held_x, no c.at_least-2.ensures (ap not c.if-not-at_least-2.true))

pub returns-then-not-slot_empty : goal.returns-then-not-slot_empty
returns-then-not-slot_empty c =
    let held_x = yes c.at_least.ensures (ap not c.if-not-at_least.false) in
    let held-y = yes c.at_least-2.ensures (ap not c.if-not-at_least-2.false) in
    rw (held_x, held-y, no c.slot_empty.ensures (ap not c.if-not-slot_empty.true))

pub returns-then-first-eq0 : goal.returns-then-first-eq0
returns-then-first-eq0 c =
    let held_x = yes c.at_least.ensures (ap not c.if-not-at_least.false) in
    let held-y = yes c.at_least-2.ensures (ap not c.if-not-at_least-2.false) in
    let slot = yes c.slot_empty.ensures (ap not c.if-not-slot_empty.false) in
    rw (held_x, held-y, slot, eq-eqb _ 0 c.if-first-eq0.true)

pub returns-then-not-within : goal.returns-then-not-within
returns-then-not-within c =
    let held_x = yes c.at_least.ensures (ap not c.if-not-at_least.false) in
    let held-y = yes c.at_least-2.ensures (ap not c.if-not-at_least-2.false) in
    let slot = yes c.slot_empty.ensures (ap not c.if-not-slot_empty.false) in
    let free = ne_eqb _ 0 c.if-first-eq0.false in
    rw (held_x, held-y, slot, free, no c.within.ensures (ap not c.if-not-within.true))

pub returns-then-not-within-2 : goal.returns-then-not-within-2
returns-then-not-within-2 c =
    let held_x = yes c.at_least.ensures (ap not c.if-not-at_least.false) in
    let held-y = yes c.at_least-2.ensures (ap not c.if-not-at_least-2.false) in
    let slot = yes c.slot_empty.ensures (ap not c.if-not-slot_empty.false) in
    let free = ne_eqb _ 0 c.if-first-eq0.false in
    let after-x = yes c.within.ensures (ap not c.if-not-within.false) in
    rw (held_x, held-y, slot, free, after-x, no c.within-2.ensures (ap not c.if-not-within-2.true))

pub returns : goal.returns
returns c =
    let held_x = yes c.at_least.ensures (ap not c.if-not-at_least.false) in
    let held-y = yes c.at_least-2.ensures (ap not c.if-not-at_least-2.false) in
    let slot = yes c.slot_empty.ensures (ap not c.if-not-slot_empty.false) in
    let free = ne_eqb _ 0 c.if-first-eq0.false in
    let after-x = yes c.within.ensures (ap not c.if-not-within.false) in
    let after-y = yes c.within-2.ensures (ap not c.if-not-within-2.false) in
    rw (held_x, held-y, slot, free, after-x, after-y)
