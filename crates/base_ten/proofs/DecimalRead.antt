-- What is written in base ten is read as that number.
use mathlib.Core.Path.{◌≡◌, refl, sym, ap, ◌∙◌}
use mathlib.Core.Bool.{Bool, true, false, cond}
use mathlib.Core.List.{List, [], ◌∷◌, ◌++◌, append_assoc}
use Prim.Native.Nat.{ℕ, zero, suc, ◌+◌, ◌-◌, ◌*◌, ◌/◌, ◌%◌, ◌^◌, ◌≤◌, ◌<◌}
use native.Mathlib.Nat.{pow-suc, zero-add}
use native.Mathlib.Omega.{arith}
use lib.Dec.{ltb}
use borrow.Author.Tests.{ne_eqb, ltb-true, ltb-false, le-leb}
use Rattle.std.specs.Prelude.{Some}
use Rattle.base_ten.specs.Bytes.{digit_zero, digit_nine}
use Rattle.base_ten.specs.Numbers.{number_from, number_of}
use Rattle.base_ten.specs.Decimal.{digits, most_digits, decimal}
use Rattle.base_ten.proofs.WordLaws.{append_none}

-- one digit more
number_digit : (most v d : ℕ) (rest : List ℕ) → d < 10 → number_from most v ((digit_zero + d) ∷ rest) ≡ number_from most (10 * v + d) rest
unfolding number_from
number_digit most v d rest h =
    let value : 10 * v + (digit_zero + d - digit_zero) ≡ 10 * v + d = omega arith in
    rw (le-leb digit_zero (digit_zero + d) (omega arith), le-leb (digit_zero + d) digit_nine (omega arith), value)

-- a number's digits are read as the number
digits_read : (most k n : ℕ) (rest : List ℕ) → n < 10 ^ k → number_from most 0 (digits k n ++ rest) ≡ number_from most n rest
unfolding digits
digits_read most zero n rest h = let none : n ≡ 0 = omega arith in rw none
digits_read most (suc k) n rest h = go (ltb n 10) refl (digits_read most k (n / 10) ((digit_zero + n % 10) ∷ rest))
  where
    go : (t : Bool) → ltb n 10 ≡ t
        → (n / 10 < 10 ^ k → number_from most 0 (digits k (n / 10) ++ ((digit_zero + n % 10) ∷ rest)) ≡ number_from most (n / 10) ((digit_zero + n % 10) ∷ rest))
        → number_from most 0 (cond t ((digit_zero + n) ∷ []) (digits k (n / 10) ++ ((digit_zero + n % 10) ∷ [])) ++ rest) ≡ number_from most n rest
    go true e ih = number_digit most 0 n rest (ltb-true n 10 e) ∙ ap (λ (v : ℕ). number_from most v rest) (zero-add n)
    go false e ih =
        let less : n / 10 < 10 ^ k = omega (arith, rw (pow-suc 10 k) at h) in
        let whole : 10 * (n / 10) + n % 10 ≡ n = omega arith in
        ap (number_from most 0) (append_assoc (digits k (n / 10)) ((digit_zero + n % 10) ∷ []) rest)
        ∙ ih less
        ∙ number_digit most (n / 10) (n % 10) rest (omega arith)
        ∙ ap (λ (v : ℕ). number_from most v rest) whole

-- no leading zero: a number above 0 begins with another digit
pub record Leads (s : List ℕ) : Type 0 where
  pub first : ℕ
  pub others : List ℕ
  pub is : s ≡ first ∷ others
  pub above : first ≡ digit_zero → ⊥

leads_append : {s : List ℕ} (t : List ℕ) → Leads s → Leads (s ++ t)
leads_append t l = record { first = l.first; others = l.others ++ t; is = ap (λ (x : List ℕ). x ++ t) l.is; above = l.above }

digits_lead : (k n : ℕ) → 0 < n → n < 10 ^ k → Leads (digits k n)
unfolding digits
digits_lead zero n h l = absurd (never h l)
  where
    never : 0 < n → n < 1 → ⊥
    never p q = omega arith
digits_lead (suc k) n h l = go (ltb n 10) refl (digits_lead k (n / 10))
  where
    go : (t : Bool) → ltb n 10 ≡ t → (0 < n / 10 → n / 10 < 10 ^ k → Leads (digits k (n / 10)))
        → Leads (cond t ((digit_zero + n) ∷ []) (digits k (n / 10) ++ ((digit_zero + n % 10) ∷ [])))
    go true e ih = record { first = digit_zero + n; others = []; is = refl; above = λ z. omega arith }
    go false e ih =
        let more : 10 ≤ n = ltb-false n 10 e in
        let less : n / 10 < 10 ^ k = omega (arith, rw (pow-suc 10 k) at l) in
        leads_append ((digit_zero + n % 10) ∷ []) (ih (omega arith) less)

number_leads : (most : ℕ) (s : List ℕ) → Leads s → number_of most s ≡ number_from most 0 s
unfolding number_of
number_leads most s l = rw (l.is, ne_eqb l.first digit_zero l.above)

-- what is written in base ten is read as that number
pub decimal_read : (most n : ℕ) → n ≤ most → n < 2 ^ 64 → number_of most (decimal n) ≡ Some n
unfolding number_from number_of digits
decimal_read most zero h l = refl
decimal_read most (suc n) h l =
    let fits : suc n < 10 ^ most_digits = omega arith in
    number_leads most (decimal (suc n)) (digits_lead most_digits (suc n) (omega arith) fits)
    ∙ ap (number_from most 0) (sym (append_none (decimal (suc n))))
    ∙ digits_read most most_digits (suc n) [] fits
    ∙ rw (le-leb (suc n) most h)
