-- Numbers as they are read: in base ten without leading zeros, up to a largest one.
use Rattle.std.specs.Prelude.{Bool, cond, ◌&&◌, List, [], ◌∷◌, Option, Some, None, ℕ, ◌+◌, ◌-◌, ◌*◌, ◌≤◌, leb, eqb}
use Rattle.base_ten.specs.Bytes.{digit_zero, digit_nine}

-- 0 to 9
abbrev pub is_digit : ℕ → Bool
is_digit b = leb digit_zero b && leb b digit_nine

-- the number that v and then these digits give, if all are digits and it is at most `most`
unfoldable pub number_from : ℕ → ℕ → List ℕ → Option ℕ
number_from most v [] = cond (leb v most) (Some v) None
number_from most v (d ∷ ds) = cond (is_digit d) (number_from most (10 * v + (d - digit_zero)) ds) None

-- after a leading 0 nothing follows
abbrev pub zero_alone : List ℕ → Option ℕ
zero_alone [] = Some 0
zero_alone (d ∷ ds) = None

-- 0 to `most` in base ten without leading zeros
unfoldable pub number_of : ℕ → List ℕ → Option ℕ
number_of most [] = None
number_of most (d ∷ ds) = cond (eqb d digit_zero) (zero_alone ds) (number_from most 0 (d ∷ ds))

-- a number that was read is not too large
abbrev pub AtMost : ℕ → Option ℕ → Type 0
AtMost most (Some v) = v ≤ most
AtMost most None = Unit {0}
