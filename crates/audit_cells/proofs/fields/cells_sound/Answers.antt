use Rattle.std.proofs.Common.{◌≡◌, refl, sym, ◌∙◌, [], ◌∷◌, ℕ, zero, suc, ◌<◌, get_or, arith}
use Rattle.machine.specs.Audit.{cells_sound}
use Rattle.machine.specs.Table.{left, right, capacity}
use Rattle.machine.proofs.Range.{every_at}
use Rattle.audit_cells.specs.Cells.{field_holds}
use Rattle.audit_cells.proofs.Cells.{cell_parts, counts_break, field_break}
use Rattle.audit_cells.proofs.Tests.{every_none, every_more}
use Rattle.audit_cells.proofs.fields.cells_sound.Goals as goal

-- the field's number is its place in the list of both
place : (i : ℕ) → i < 2 → get_or (left ∷ right ∷ []) i 0 ≡ i
place zero h = refl
place (suc zero) h = refl
place (suc (suc i)) h = absurd (omega arith)

pub cells-init : goal.cells-init
cells-init c = record { sound = refl; cells = every_none _ }

pub loop-k-init : goal.loop-k-init
loop-k-init c = record { sound = c.if-not-sound.false; counts = sym c.counts_sound-sound.ensures ∙ c.if-not-sound.false; fields = every_none _ }

pub loop-k-preserved : goal.loop-k-preserved
loop-k-preserved c =
    let e = place c.loop-k.k-index c.loop-k-test.true in record {
      sound = c.if-not-sound-2.false;
      counts = c.loop-k.invariant.counts;
      fields = every_more _ _ c.loop-k.invariant.fields (rw e at (sym c.field_holds-sound.ensures ∙ c.if-not-sound-2.false));
    }

pub cells-preserved : goal.cells-preserved
cells-preserved c =
    let t = c.args.table.now in
    let i = c.cells.index in
    let f = λ (k : ℕ) (l : k < 2). every_at c.loop-k.k-index (field_holds t i) c.loop-k.invariant.fields k (omega arith) in record {
      sound = c.loop-k.invariant.sound;
      cells = every_more _ _ c.cells.invariant.cells (cell_parts t i c.loop-k.invariant.counts (f left (omega arith)) (f right (omega arith)));
    }

pub returns-after-cells : goal.returns-after-cells
unfolding cells_sound
returns-after-cells c =
    let e : c.cells.index ≡ capacity c.args.table.now = omega arith in
    c.cells.invariant.sound ∙ sym (rw e at c.cells.invariant.cells)

pub returns-then-not-sound : goal.returns-then-not-sound
returns-then-not-sound c =
    c.if-not-sound.true ∙ sym (counts_break _ _ (omega arith) (sym c.counts_sound-sound.ensures ∙ c.if-not-sound.true))

pub returns-then-not-sound-2 : goal.returns-then-not-sound-2
returns-then-not-sound-2 c =
    let e = place c.loop-k.k-index c.loop-k-test.true in
    c.if-not-sound-2.true
    ∙ sym (field_break _ _ (omega arith) c.loop-k.k-index (omega arith) (rw e at (sym c.field_holds-sound.ensures ∙ c.if-not-sound-2.true)))
