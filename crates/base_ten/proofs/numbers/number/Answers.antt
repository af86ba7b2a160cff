use Rattle.std.proofs.Common.{sym, ◌∙◌}
use Rattle.base_ten.proofs.NumberLaws.{number_empty, number_leading, number_alone, number_digits}
use Rattle.base_ten.proofs.numbers.number.Goals as goal
use Rattle.base_ten.proofs.numbers.number.Goals.{else-first-eq48-via-then-first-eq48+else-s-gt1, else-first-eq48-via-else-first-eq48}

pub returns-in_err-first : goal.returns-in_err-first
returns-in_err-first c = rw c.from_residual.ensures (number_empty _ _ c.in_err-first.ensures.value, tt)

pub returns-then-s-gt1 : goal.returns-then-s-gt1
returns-then-s-gt1 c = (number_leading _ _ (sym (c.in_ok-first.ensures.item.3.1 0) ∙ c.if-first-eq48.true) c.if-s-gt1.true, tt)

pub returns : goal.returns
returns c =
    let e = c.from_digits.ensures in
    let item = c.in_ok-first.ensures.item.3 in
    elim c.else-first-eq48.branch [
      | else-first-eq48-via-then-first-eq48+else-s-gt1 w ↦
          (e.0 ∙ number_alone _ _ (sym (item.1 0) ∙ w.if-first-eq48.true) w.if-s-gt1.false, e.1)
      | else-first-eq48-via-else-first-eq48 w ↦ (e.0 ∙ number_digits _ _ item.0 (λ z. w.if-first-eq48.false (item.1 0 ∙ z)), e.1)
    ]
