use mathlib.Core.Bool.{not}
use mathlib.Core.Path.{◌≡◌, sym, ap, ◌∙◌}
use mathlib.Core.Bool.{true}
use Prim.Native.Nat.{◌+◌, ◌-◌, ◌≤◌}
use lib.ListN.{length}
use native.Mathlib.Omega.{arith}
use borrow.Author.Tests.{not-true, not-false}
use Rattle.machine.specs.Words.{is_cell, most_cells}
use Rattle.machine.specs.Table.{capacity, table_length}
use Rattle.machine.proofs.Words.{cell_index, cell_number_lem}
use Rattle.reader.specs.Called.{chain_has}
use Rattle.reader.proofs.CalledLaws.{chain_ends, chain_goes, chain_none}
use Rattle.reader.proofs.asked.chain_has.Goals as goal

is-a-cell : (c : goal.Else-not-is_cell) → is_cell (capacity c.args.table.now) c.loop.w ≡ true
is-a-cell c =
    sym (ap (λ n. is_cell n c.loop.w) c.capacity_of-c.ensures) ∙ sym c.is_cell.ensures ∙ not-false c.is_cell.result (ap not c.if-not-is_cell.false)

-- and the table has its words
cell_within : (c : goal.Else-not-is_cell) →
    (1 ≤ c.loop.w) × (c.loop.w ≤ most_cells)
    × (table_length c.loop.w ≤ length c.args.table.now)
cell_within c =
    let w = c.loop.w in
    let i = cell_index (capacity c.args.table.now) w (is-a-cell c) in
    let n = cell_number_lem (capacity c.args.table.now) w (is-a-cell c) in
    (omega arith, omega (arith, c.requires.most), omega (arith, c.requires.room))

pub loop-init : goal.loop-init
loop-init c =
    let e : c.args.n - 0 ≡ c.args.n = omega arith in
    rw e (ap (chain_has c.args.n c.args.table.now) c.first_free-w.ensures)

pub returns-then-not-is_cell : goal.returns-then-not-is_cell
returns-then-not-is_cell c =
    let l = c.loop in
    let no_cell = sym (ap (λ n. is_cell n l.w) c.capacity_of-c.ensures) ∙ sym c.is_cell.ensures ∙ not-true c.is_cell.result (ap not c.if-not-is_cell.true) in
    chain_ends (c.args.n - l.counter) c.args.table.now l.w (omega arith) no_cell ∙ l.invariant

pub overflow_cast-w : goal.overflow_cast-w
overflow_cast-w c = let h = cell_within c in omega arith

pub overflow_sub-w : goal.overflow_sub-w
overflow_sub-w c = (cell_within c).0

pub field-w-requires : goal.field-w-requires
field-w-requires c =
    let h = cell_within c in
    (omega arith, omega arith)

pub loop-preserved : goal.loop-preserved
loop-preserved c =
    let l = c.loop in
    let less : c.args.n - (l.counter + 1) ≡ c.args.n - l.counter - 1 = omega arith in
    rw less (ap (chain_has (c.args.n - l.counter - 1) c.args.table.now) c.field-w.ensures ∙ chain_goes (c.args.n - l.counter) c.args.table.now l.w (omega arith)
    (sym (ap (λ n. is_cell n l.w) c.capacity_of-c.ensures) ∙ sym c.is_cell.ensures ∙ not-false c.is_cell.result (ap not c.if-not-is_cell.false)) ∙ l.invariant)

pub returns : goal.returns
returns c =
    let l = c.loop in
    let e : c.args.n - l.counter ≡ 0 = omega arith in
    chain_none c.args.table.now l.w ∙ rw e at l.invariant
