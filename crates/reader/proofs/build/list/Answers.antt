use mathlib.Core.Path.{◌≡◌, refl}
use mathlib.Core.List.{[]}
use Prim.Native.Nat.{suc, ◌-◌}
use native.Mathlib.Omega.{arith}
use Rattle.machine.specs.Calls.{store}
use Rattle.reader.proofs.HeldLaws.{pairs_none, pairs_more}
use Rattle.reader.proofs.build.list.Goals as goal

pub loop-i-init : goal.loop-i-init
loop-i-init c =
    (c.requires.1, omega arith, c.requires.2, refl, pairs_none (store c.args.table.now c.args.queue []) c.args.words.now c.args.end _)

pub loop-i-preserved : goal.loop-i-preserved
loop-i-preserved c =
    let l = c.loop-i in
    let e : suc (l.i - 1) ≡ l.i = omega arith in
    (omega arith, omega arith, l.invariant.2, omega (arith, c.pair-made.auto.table), pairs_more (store c.args.table.now c.args.queue []) c.args.words.now c.args.end _ (l.i - 1) l.word _ l.table _ l.rest _ (omega arith) (omega (arith, c.requires.0)) (rw e l.invariant.4) c.pair-made.ensures)

pub returns : goal.returns
returns c =
    let l = c.loop-i in
    let e : l.i ≡ c.args.start = omega arith in
    rw e at l.invariant.4
