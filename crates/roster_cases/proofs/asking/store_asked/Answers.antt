use Rattle.std.proofs.Common.{arith, sym, ◌∙◌}
use Rattle.machine.proofs.Questions.{shape_is}
use Rattle.roster_cases.proofs.asking.store_asked.Goals as goal

pub scratch_enough-requires : goal.scratch_enough-requires
scratch_enough-requires c =
    let shape = shape_is _ _ (sym c.in_range.ensures ∙ c.if-not-in_range.false) in
    let table = shape.table in omega arith
