use mathlib.Core.Path.{ap, ◌∙◌}
use Prim.Native.Nat.{ℕ}
use Rattle.machine.specs.Table.{left, right, word_at}
use Rattle.walks.proofs.Counting.{cell_at, gave_up_lem, between, both}
use Rattle.walks.proofs.Walk.follow.Goals as goal

pub returns-in_err-meet : goal.returns-in_err-meet
returns-in_err-meet c =
    let f = c.requires.1 in
    let e = c.from-index.ensures ∙ cell_at _ _ c.self.view_is _ c.args.i c.as_slice.ensures.value in
    rw c.from_residual.ensures
    (gave_up_lem c.args.table.now _ _ _ f.ready _ (c.field.ensures ∙ ap (λ (x : ℕ). word_at c.args.table.now x left) e) _ c.in_err-meet.ensures)

pub meet-requires-2 : goal.meet-requires-2
meet-requires-2 c =
    let f = c.requires.1 in
    let e = c.from-index.ensures ∙ cell_at _ _ c.self.view_is _ c.args.i c.as_slice.ensures.value in
    (c.requires.0, between c.args.table.now _ _ _ f.ready _ (c.field.ensures ∙ ap (λ (x : ℕ). word_at c.args.table.now x left) e) _ c.in_ok-meet.ensures)

pub returns : goal.returns
returns c =
    let f = c.requires.1 in
    let e = c.from-index.ensures ∙ cell_at _ _ c.self.view_is _ c.args.i c.as_slice.ensures.value in
    both c.args.table.now _ _ _ f.ready _ (c.field.ensures ∙ ap (λ (x : ℕ). word_at c.args.table.now x left) e) _ c.in_ok-meet.ensures
    _ (c.field-2.ensures ∙ ap (λ (x : ℕ). word_at c.args.table.now x right) e) _ _ c.meet-2.ensures
