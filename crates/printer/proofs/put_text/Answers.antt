use borrow.Author.Rules.{rules}
use mathlib.Core.Path.{◌≡◌, refl, sym, ◌∙◌}
use Rattle.std.specs.Prelude.{Err}
use Rattle.printer.proofs.FrontLaws.{part_within, part_size, part_exact, part_filled}
use Rattle.printer.proofs.put_text.Goals as goal

pub returns-in_err-n : goal.returns-in_err-n
returns-in_err-n c =
    let unfit = c.in_err-n.field-0.0 in
    let same : c.from_residual.result ≡ Err unfit = search rules in
    rw same (record { exact = sym c.in_err-n.was ∙ c.measure.ensures; put = refl })

pub slice_bounds-fill-end : goal.slice_bounds-fill-end
slice_bounds-fill-end c =
    let i = c.args in
    part_within i.table.now i.word i.buffer.now _ (sym c.in_ok-n.was ∙ c.measure.ensures)

pub slice_bounds-fill-end-2 : goal.slice_bounds-fill-end-2
slice_bounds-fill-end-2 c =
    let i = c.args in
    sym (part_size i.table.now i.word i.buffer.now _ (sym c.in_ok-n.was ∙ c.measure.ensures))

pub fill-requires : goal.fill-requires
fill-requires c =
    let i = c.args in
    (c.requires, part_exact i.table.now i.word i.buffer.now _ (sym c.in_ok-n.was ∙ c.measure.ensures))

pub returns : goal.returns
returns c =
    let i = c.args in
    part_filled i.table.now i.word i.buffer.now _ (sym c.in_ok-n.was ∙ c.measure.ensures) _ c.fill.ensures
