use Rattle.std.proofs.Common.{◌∙◌, ap, cond, rules, tests, arith}
use Rattle.std.specs.List.{range_with_len}
use Rattle.std.proofs.lemmas.Iterator.{YieldsList-from_range}
use Rattle.std.proofs.lemmas.Iterator.Consumers.{YieldsList-from_filter, count_from_yields_List}
use Rattle.std.proofs.lemmas.List.Sums.{length-filter}
use Rattle.machine.specs.Range.{total}
use Rattle.machine.specs.Table.{is_free}
use Rattle.machine.proofs.Below.{count_below}
use Rattle.audit_cells.specs.FreeChain.{free_bit, free_cells}
use Rattle.audit_cells.proofs.chain.free_cells.Goals as goal

pub returns : goal.returns
unfolding free_cells free_bit is_free
returns c =
    let p = is_free c.args.table.now in
    let n = c.capacity_of.result in
    count_from_yields_List c.filter.result _ c.count.ensures.ran
    (YieldsList-from_filter _ p (YieldsList-from_range 0 n n c.filter.ensures.source (omega arith)) c.filter.ensures.closure (λ x b q k. search (rules, tests)))
    ∙ length-filter p (range_with_len 0 n) ∙ count_below n p ∙ ap (λ m. total m (λ i. cond (p i) 1 0)) c.capacity_of.ensures
