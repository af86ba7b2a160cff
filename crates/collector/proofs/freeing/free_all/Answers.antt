use mathlib.Core.List.{◌∷◌, []}
use Prim.Native.Nat.{◌+◌, ◌-◌}
use native.Mathlib.Omega.{arith}
use lib.ListN.{length, length-append}
use Rattle.std.proofs.lemmas.Iterator.Adapters.{YieldsList-from_rev_slice}
use Rattle.std.proofs.lemmas.Iterator.Consumers.{YieldsList-turn, YieldsList-end}
use Rattle.std.proofs.lemmas.List.{length-reverse}
use Rattle.collector.proofs.FreedCells.{left_over, turned, all_remain, at_cell, one_less, none_remain}
use Rattle.collector.proofs.freeing.free_all.Goals as goal

pub loop-index-init : goal.loop-index-init
loop-index-init c = all_remain c.args.table.now c.args.dead.now _ (omega arith) c.requires.0

pub free-requires : goal.free-requires
free-requires c =
    let d = c.args.dead.now in
    let k = length c.loop-index.yielded in
    let e = YieldsList-from_rev_slice d cc in
    let t = YieldsList-turn e c.loop-index.yielded _ c.loop-index.yielded_by _ _ c.in-Some.field-0 c.in-Some.is c.next.ensures.steps in
    let l = left_over d k _ t in
    at_cell _ c.args.table.now d c.requires.1 _ (length d - k) (length d - (k + 1)) (omega arith) (omega arith) c.loop-index.invariant
    _ (turned d k _ t _ (omega arith))

pub loop-index-preserved : goal.loop-index-preserved
loop-index-preserved c =
    let d = c.args.dead.now in
    let ys = c.loop-index.yielded in
    let k = length ys in
    let e = YieldsList-from_rev_slice d cc in
    let t = YieldsList-turn e ys _ c.loop-index.yielded_by _ _ c.in-Some.field-0 c.in-Some.is c.next.ensures.steps in
    let l = left_over d k _ t in
    let m = length-append ys (c.in-Some.field-0 ∷ []) in
    one_less _ c.args.table.now d c.requires.1 _ (length d - k) _ (omega arith) (omega arith) c.loop-index.invariant
    _ (turned d k _ t _ (omega arith)) _ c.free.ensures

pub returns : goal.returns
returns c =
    let d = c.args.dead.now in
    let e = YieldsList-from_rev_slice d cc in
    let t = YieldsList-end e c.loop-index.yielded _ c.loop-index.yielded_by _ _ c.in-None.is c.next.ensures.steps in
    none_remain _ c.args.table.now d _ _ c.loop-index.invariant (omega (arith, t.1, length-reverse d))
