use mathlib.Core.Path.{refl, ap, ◌∙◌}
use Prim.Native.Nat.{ℕ, ◌<◌}
use native.Mathlib.Omega.{arith}
use lib.ListN.{length}
use Rattle.machine.specs.Table.{cell_count, word_at}
use Rattle.walks.proofs.Places.{contains_at}
use Rattle.walks.proofs.Counting.{cell_at, pointers_at, within_tally}
use Rattle.suspects.proofs.Supported.{supports_none, supports_push, supports_pass}
use Rattle.suspects.proofs.support.supported.Goals as goal
use Rattle.suspects.proofs.support.supported.Goals.{then-met-count, else-met-count}

pub loop-met-init : goal.loop-met-init
loop-met-init c = supports_none _ _ _ c.new-kept.ensures

pub count-count-requires : goal.count-count-requires
count-count-requires c =
    let k = c.loop-met.met-index in
    let v = c.list-met-items.ensures in
    let l : k < length c.args.suspects.now.cells = within_tally _ _ v k c.loop-met-test.true in
    let b = c.requires.below _ (contains_at c.args.suspects.now.cells k _ l refl) in
    let e = cell_at _ _ v _ k refl in
    omega (arith, c.from.ensures, c.requires.shape.room)

pub loop-met-preserved : goal.loop-met-preserved
loop-met-preserved c =
    let k = c.loop-met.met-index in
    let v = c.list-met-items.ensures in
    let e = cell_at _ _ v _ k refl in
    let d = pointers_at _ _ v _ k refl in
    let n = c.count-count.ensures ∙ ap (λ (x : ℕ). word_at c.args.table.now x cell_count) (c.from.ensures ∙ e) in
    elim c.if-met-count.branch [
      | then-met-count w ↦ supports_push _ _ _ _ c.loop-met.invariant _ (omega (arith, w.if-met-count.true)) (w.kept-is ∙ (rw e at w.start.ensures))
      | else-met-count w ↦ rw w.kept-is (supports_pass _ _ _ _ c.loop-met.invariant (omega (arith, w.if-met-count.false)))
    ]
