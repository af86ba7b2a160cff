use Rattle.std.proofs.Common.{rules, ◌∙◌, ◌++◌, List, ℕ, ◌+◌, length, take, ap, arith}
use Rattle.std.proofs.lemmas.Slice.{take-put_mid}
use Rattle.base_ten.specs.Decimal.{most_digits}
use Rattle.line_text.proofs.PutLaws.{shows_some, number_put}
use Rattle.line_text.proofs.texts.Count.put.Goals as goal

pub overflow_sub-out : goal.overflow_sub-out
overflow_sub-out c = omega (arith, shows_some c.self.invariant)

pub returns : goal.returns
returns c =
    let out = c.args.out.now in
    let at = c.args.at in
    let after = c.copy_from_slice.ensures.after in
    rw (← c.self.view_is)
    (number_put c.self.invariant out _ at c.requires (search rules)
    (take-put_mid at _ out _ (at + most_digits) (omega (arith, ap length after, c.self.invariant.whole)) (omega arith)
    ∙ ap (λ (x : List ℕ). take at out ++ x) after))
