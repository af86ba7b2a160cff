use native.Mathlib.Omega.{arith}
use Rattle.reader.proofs.HeldLaws.{opening_room, step_opening, closing_some, closing_room, step_closing, dot_some, step_dot, number_room, step_number, step_other}
use Rattle.reader.proofs.build.step.Goals as goal

pub bounds-starts-opened : goal.bounds-starts-opened
bounds-starts-opened c =
    opening_room _ _ _ _ _ c.requires.0 c.args.table.now c.args.queue c.args.token c.requires.1 c.in-Opening.is

pub bounds-dots-opened : goal.bounds-dots-opened
bounds-dots-opened c =
    opening_room _ _ _ _ _ c.requires.0 c.args.table.now c.args.queue c.args.token c.requires.1 c.in-Opening.is

pub overflow_sub-i : goal.overflow_sub-i
overflow_sub-i c =
    closing_some _ _ _ _ _ c.requires.0 c.args.table.now c.args.queue c.args.token c.requires.1 c.in-Closing.is

pub close-rest-requires : goal.close-rest-requires
close-rest-requires c =
    let room = closing_room _ _ _ _ _ c.requires.0 c.args.table.now c.args.queue c.args.token c.requires.1 c.in-Closing.is in
    (c.requires.0.words, c.requires.0.count, room.0, room.1)

pub overflow_add-start : goal.overflow_add-start
overflow_add-start c =
    let room = closing_room _ _ _ _ _ c.requires.0 c.args.table.now c.args.queue c.args.token c.requires.1 c.in-Closing.is in
    omega arith

pub overflow_sub-dots : goal.overflow_sub-dots
overflow_sub-dots c =
    dot_some _ _ _ _ _ c.requires.0 c.args.table.now c.args.queue c.args.token c.requires.1 c.in-Dot.is

pub overflow_add-words : goal.overflow_add-words
overflow_add-words c =
    omega (arith, (number_room _ _ _ _ _ c.requires.0 c.args.table.now c.args.queue c.args.token c.requires.1 c.in-Number.v c.in-Number.is).1)

pub bounds-words-count : goal.bounds-words-count
bounds-words-count c =
    (number_room _ _ _ _ _ c.requires.0 c.args.table.now c.args.queue c.args.token c.requires.1 c.in-Number.v c.in-Number.is).0

pub returns-in-Opening : goal.returns-in-Opening
returns-in-Opening c =
    let e = c.standing.ensures in
    rw (e.0, e.1, e.2) (step_opening _ _ _ _ _ c.requires.0 c.args.table.now c.args.queue c.args.token c.requires.1 c.in-Opening.is)

pub returns-in-Closing : goal.returns-in-Closing
returns-in-Closing c =
    let e = c.standing-in-Closing.ensures in
    rw (e.0, e.1, e.2)
    (step_closing _ _ _ _ _ c.requires.0 c.args.table.now c.args.queue c.args.token c.requires.1 c.in-Closing.is _ _ _ c.close-rest.ensures.0 c.close-rest.ensures.1)

pub returns-in-Dot : goal.returns-in-Dot
returns-in-Dot c =
    let e = c.standing-in-Dot.ensures in
    rw (e.0, e.1, e.2) (step_dot _ _ _ _ _ c.requires.0 c.args.table.now c.args.queue c.args.token c.requires.1 c.in-Dot.is)

pub returns-in-Number : goal.returns-in-Number
returns-in-Number c =
    let e = c.standing-in-Number.ensures in
    rw (e.0, e.1, e.2) (step_number _ _ _ _ _ c.requires.0 c.args.table.now c.args.queue c.args.token c.requires.1 c.in-Number.v c.in-Number.is)

pub returns-in_default : goal.returns-in_default
returns-in_default c =
    let e = c.standing-in_default.ensures in
    rw (e.0, e.1, e.2) (step_other _ _ _ _ _ c.requires.0 c.args.table.now c.args.queue c.args.token c.requires.1 c.in_default.not-Opening c.in_default.not-Closing c.in_default.not-Dot c.in_default.not-Number)
