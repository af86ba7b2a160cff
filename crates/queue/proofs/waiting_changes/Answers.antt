use mathlib.Core.Path.{◌≡◌}
use native.Mathlib.Omega.{arith}
use Rattle.machine.specs.Queue.{slot, waiting}
use Rattle.queue.proofs.Totals.{sums_none, sums_more}
use Rattle.queue.proofs.waiting_changes.Goals as goal

pub loop-i-init : goal.loop-i-init
loop-i-init c =
    let h = c.new.ensures in
    let p = c.new-2.ensures in
    record { sums = sums_none _ _ _ _ h.0 h.1 p.0 p.1; bounded = record { held = omega arith; pointers = omega arith } }

pub loop-i-preserved : goal.loop-i-preserved
unfolding slot
loop-i-preserved c =
    let l = c.loop-i in
    let added = rw c.slot_after-j.ensures.0 at c.with_changes-s.ensures in record {
      sums = sums_more _ _ _ _ l.s _ l.invariant.sums added;
      bounded = added.few l.i l.invariant.bounded;
    }

pub returns-clause-sums : goal.returns-clause-sums
unfolding waiting
returns-clause-sums c =
    let l = c.loop-i in
    let e : l.i ≡ c.args.count = omega arith in
    rw e at l.invariant.sums
