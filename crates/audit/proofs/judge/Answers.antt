use mathlib.Core.Path.{refl, sym, ◌∙◌}
use native.Mathlib.Omega.{arith}
use Rattle.audit.proofs.Verdict.{packets_legal_lem, cells_broken, chain_broken, packets_broken, pointers_broken, reached_broken, none_broken}
use Rattle.audit.proofs.judge.Goals as goal

pub returns-then-not-cells_sound : goal.returns-then-not-cells_sound
returns-then-not-cells_sound c =
    let i = c.args in
    cells_broken i.table.now i.queue.now i.scratch.now i.scratch.now refl (sym c.cells_sound.ensures ∙ c.if-not-cells_sound.true)

pub returns-then-not-chain_sound : goal.returns-then-not-chain_sound
returns-then-not-chain_sound c =
    let i = c.args in
    let cells = sym c.cells_sound.ensures ∙ c.if-not-cells_sound.false in
    chain_broken i.table.now i.queue.now i.scratch.now i.scratch.now refl cells (sym c.chain_sound.ensures ∙ c.if-not-chain_sound.true)

pub packets_sound-requires : goal.packets_sound-requires
packets_sound-requires c =
    (c.requires, sym c.cells_sound.ensures ∙ c.if-not-cells_sound.false)

pub returns-then-not-packets_sound : goal.returns-then-not-packets_sound
returns-then-not-packets_sound c =
    let i = c.args in
    let cells = sym c.cells_sound.ensures ∙ c.if-not-cells_sound.false in
    let chain = sym c.chain_sound.ensures ∙ c.if-not-chain_sound.false in
    let no = sym c.packets_sound.ensures.answer ∙ c.if-not-packets_sound.true in
    packets_broken i.table.now i.queue.now i.scratch.now _ c.packets_sound.ensures.past cells chain no

pub pointers_sound-requires : goal.pointers_sound-requires
pointers_sound-requires c =
    let packets = sym c.packets_sound.ensures.answer ∙ c.if-not-packets_sound.false in
    record {
      lent = record { shape = c.requires.shape; scratch = omega (arith, c.requires.scratch, c.packets_sound.auto.scratch) };
      legal = packets_legal_lem c.args.table.now c.args.queue.now packets;
    }

pub returns-then-not-pointers_sound : goal.returns-then-not-pointers_sound
returns-then-not-pointers_sound c =
    let i = c.args in
    let cells = sym c.cells_sound.ensures ∙ c.if-not-cells_sound.false in
    let chain = sym c.chain_sound.ensures ∙ c.if-not-chain_sound.false in
    let packets = sym c.packets_sound.ensures.answer ∙ c.if-not-packets_sound.false in
    let no = sym c.pointers_sound.ensures.answer ∙ c.if-not-pointers_sound.true in
    let past = c.pointers_sound.ensures.past ∙ c.packets_sound.ensures.past in
    pointers_broken i.table.now i.queue.now i.scratch.now _ past cells chain packets no

pub returns-then-not-all_reached : goal.returns-then-not-all_reached
returns-then-not-all_reached c =
    let i = c.args in
    let cells = sym c.cells_sound.ensures ∙ c.if-not-cells_sound.false in
    let chain = sym c.chain_sound.ensures ∙ c.if-not-chain_sound.false in
    let packets = sym c.packets_sound.ensures.answer ∙ c.if-not-packets_sound.false in
    let pointers = sym c.pointers_sound.ensures.answer ∙ c.if-not-pointers_sound.false in
    let past = c.all_reached.ensures.past ∙ c.pointers_sound.ensures.past ∙ c.packets_sound.ensures.past in
    let no = sym c.all_reached.ensures.answer ∙ c.if-not-all_reached.true in
    reached_broken i.table.now i.queue.now i.scratch.now _ past cells chain packets pointers no

pub returns-else-not-all_reached : goal.returns-else-not-all_reached
returns-else-not-all_reached c =
    let i = c.args in
    let cells = sym c.cells_sound.ensures ∙ c.if-not-cells_sound.false in
    let chain = sym c.chain_sound.ensures ∙ c.if-not-chain_sound.false in
    let packets = sym c.packets_sound.ensures.answer ∙ c.if-not-packets_sound.false in
    let pointers = sym c.pointers_sound.ensures.answer ∙ c.if-not-pointers_sound.false in
    let reached = sym c.all_reached.ensures.answer ∙ c.if-not-all_reached.false in
    let past = c.all_reached.ensures.past ∙ c.pointers_sound.ensures.past ∙ c.packets_sound.ensures.past in
    none_broken i.table.now i.queue.now i.scratch.now _ past cells chain packets pointers reached
