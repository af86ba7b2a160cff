use mathlib.Core.Path.{ap}
use native.Mathlib.Omega.{arith}
use Rattle.marks.specs.Stack.{stack}
use Rattle.marks.proofs.Loops.{fits, made_ready, ready_followable, marked}
use Rattle.marks.proofs.mark.Goals as goal

pub clear-requires : goal.clear-requires
clear-requires c =
    (fits c.args.table.now c.args.scratch.now c.requires.0 c.requires.1 _ c.capacity_of-capacity.ensures).1

pub push_rooted-top-requires : goal.push_rooted-top-requires
push_rooted-top-requires c =
    let f = fits c.args.table.now c.args.scratch.now c.requires.0 c.requires.1 _ c.capacity_of-capacity.ensures in
    omega arith

pub follow-requires : goal.follow-requires
follow-requires c =
    let e = c.capacity_of-capacity.ensures in
    ready_followable c.args.table.now c.args.scratch.now c.requires.0 c.requires.1 _ e _
    (made_ready c.args.table.now c.args.scratch.now c.requires.0 c.requires.1 _ e _ _ (ap (λ u. stack u 0) c.clear.ensures)
    c.push_rooted-top.ensures)

pub returns : goal.returns
returns c =
    let e = c.capacity_of-capacity.ensures in
    marked c.args.table.now c.args.scratch.now c.requires.0 c.requires.1 _ e _
    (made_ready c.args.table.now c.args.scratch.now c.requires.0 c.requires.1 _ e _ _ (ap (λ u. stack u 0) c.clear.ensures)
    c.push_rooted-top.ensures)
    _ c.follow.ensures
