-- Numbers as they are written: in base ten without leading zeros.
use Rattle.std.specs.Prelude.{cond, List, [], ◌∷◌, ◌++◌, ℕ, zero, suc, ◌+◌, ◌/◌, ◌%◌, ltb}
use Rattle.base_ten.specs.Bytes.{digit_zero}

-- a number in base ten, of at most so many digits
unfoldable pub digits : ℕ → ℕ → List ℕ
digits zero n = []
digits (suc most) n = cond (ltb n 10) ((digit_zero + n) ∷ []) (digits most (n / 10) ++ ((digit_zero + n % 10) ∷ []))

-- every number here is below 2^64, so 20 digits are enough
abbrev pub most_digits : ℕ
most_digits = 20

abbrev pub decimal : ℕ → List ℕ
decimal n = digits most_digits n
