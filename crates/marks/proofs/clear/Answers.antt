use mathlib.Core.Path.{◌≡◌, ap, ◌∙◌}
use mathlib.Core.List.{List, ◌++◌}
use Prim.Native.Nat.{ℕ}
use native.Mathlib.Omega.{arith}
use borrow.Author.Rules.{rules}
use lib.ListN.{drop, replicate}
use lib.Seq.{length-take-le}
use Rattle.machine.specs.Step.{cleared}
use Rattle.marks.proofs.clear.Goals as goal

pub returns : goal.returns
unfolding cleared
returns c =
    let s = c.args.scratch.now in
    let e = c.scratch_for.ensures in
    let filled : c.fill.new.self ≡ replicate c.scratch_for.result 0 =
    c.fill.ensures.after (λ y h. search rules) ∙ ap (λ (n : ℕ). replicate n 0) (length-take-le c.scratch_for.result s (omega arith)) in
    ap (λ (front : List ℕ). front ++ drop c.scratch_for.result s) filled ∙ ap (λ (n : ℕ). replicate n 0 ++ drop n s) e
