use mathlib.Core.Path.{◌≡◌, ap, ◌∙◌}
use mathlib.Core.Logic.{⊎_elim}
use mathlib.Core.Bool.{true, false, cond}
use Prim.Native.Nat.{ℕ, min, ◌+◌, ◌/◌}
use native.Mathlib.Omega.{arith}
use lib.Dec.{ltb}
use borrow.Author.Tests.{ltb-true, ltb-false}
use Rattle.machine.proofs.Range.{tested}
use Rattle.suspects.specs.Dead.{most_suspects}
use Rattle.suspects.proofs.most_of.Goals as goal

least : (m n : ℕ) → min m n ≡ cond (ltb m n) m n
least m n =
    ⊎_elim (λ (e : ltb m n ≡ true). rw e (omega (arith, ltb-true m n e))) (λ (e : ltb m n ≡ false). rw e (omega (arith, ltb-false m n e))) (tested (ltb m n))

pub returns : goal.returns
unfolding most_suspects
returns c = c.min.ensures ∙ ap (λ (n : ℕ). min (4 + n / 16) 64) c.from.ensures ∙ least (4 + c.args.c / 16) 64
