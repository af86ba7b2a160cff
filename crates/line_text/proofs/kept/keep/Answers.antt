use Rattle.std.proofs.Common.{rules, ◌∙◌, ◌++◌, ◌+◌, List, ℕ, length, take, ap, arith, length-take-le}
use Rattle.std.proofs.lemmas.Slice.{take-put_mid}
use Rattle.line_text.proofs.KeepLaws.{keeps}
use Rattle.line_text.proofs.kept.keep.Goals as goal

pub returns : goal.returns
returns c =
    let line = c.args.line.now in
    let part = c.args.part.now in
    let from = c.min-from.result in
    let size = c.min-size.result in
    let after = c.copy_from_slice.ensures.after in
    let long = length-take-le size part (omega (arith, c.min-size.ensures)) in
    keeps line part c.args.held c.min-from.ensures c.min-size.ensures (search rules)
    (take-put_mid from _ line _ (from + size) (omega (arith, ap length after, long)) (omega (arith, c.min-from.ensures))
    ∙ ap (λ (x : List ℕ). take from line ++ x) after)
