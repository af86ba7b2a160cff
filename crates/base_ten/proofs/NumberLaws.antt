-- Numbers read digit by digit, as a loop goes.
use Rattle.std.proofs.Common.{◌≡◌, ℕ, zero, suc, ◌+◌, ◌-◌, ◌*◌, ◌<◌, ◌≤◌, zero-le, Bool, true, false, cond, leb, List, [], ◌∷◌, Option, Some, None, length, get_or, slice_get, drop, refl, arith, le-leb, drop_of_length-le, eq-eqb, ne_eqb}
use borrow.Author.Tests.{lt-leb}
use Rattle.base_ten.specs.Bytes.{digit_zero}
use Rattle.base_ten.specs.Numbers.{is_digit, number_from, number_of}
use Rattle.base_ten.proofs.ByteLaws.{drop_at}

-- v with so many zeros behind it
abbrev pub grown : ℕ → ℕ → ℕ
grown zero v = v
grown (suc k) v = grown k (10 * v)

pub grown_larger : (k v w : ℕ) → v ≤ w → grown k v ≤ grown k w
grown_larger zero v w h = h
grown_larger (suc k) v w h = grown_larger k (10 * v) (10 * w) (omega arith)

pub grown_longer : (k m v : ℕ) → k ≤ m → grown k v ≤ grown m v
grown_longer zero zero v h = omega arith
grown_longer zero (suc m) v h = omega (arith, grown_longer zero m (10 * v) zero-le)
grown_longer (suc k) zero v h = absurd (never h)
  where
    never : suc k ≤ 0 → ⊥
    never p = omega arith
grown_longer (suc k) (suc m) v h = grown_longer k m (10 * v) (omega arith)

module _ (most : ℕ) where
  -- more digits make a number no smaller
  pub number_high : (v : ℕ) (s : List ℕ) → most < grown (length s) v → number_from most v s ≡ None
  unfolding number_from
  number_high v [] h = rw (lt-leb v most h)
  number_high v (d ∷ ds) h =
      rw (number_high (10 * v + (d - digit_zero)) ds (omega (arith, grown_larger (length ds) (10 * v) (10 * v + (d - digit_zero)) (omega arith))))
      (either (is_digit d))
    where
      either : (b : Bool) → cond {A = Option ℕ} b None None ≡ None
      either true = refl
      either false = refl

  -- a number that is too large stays so
  pub number_large : (v : ℕ) (s : List ℕ) → most < v → number_from most v s ≡ None
  number_large v s h = number_high v s (omega (arith, grown_longer zero (length s) v zero-le))

  module _ (v : ℕ) (s : List ℕ) (i : ℕ) where
    pub number_step : i < length s → is_digit (get_or s i 0) ≡ true
        → number_from most v (drop i s) ≡ number_from most (10 * v + (get_or s i 0 - digit_zero)) (drop (i + 1) s)
    unfolding number_from
    number_step h digit = rw (drop_at s i h, digit)

    pub number_no_digit : i < length s → is_digit (get_or s i 0) ≡ false → number_from most v (drop i s) ≡ None
    unfolding number_from
    number_no_digit h other = rw (drop_at s i h, other)

    pub number_end : length s ≤ i → number_from most v (drop i s) ≡ cond (leb v most) (Some v) None
    unfolding number_from
    number_end h = rw (drop_of_length-le s h)

  -- by its first byte
  pub number_empty : (s : List ℕ) → None ≡ slice_get s 0 → None ≡ number_of most s
  unfolding number_of
  number_empty [] h = refl
  number_empty (d ∷ ds) h = cc

  pub number_leading : (s : List ℕ) → get_or s 0 0 ≡ digit_zero → 1 < length s → None ≡ number_of most s
  unfolding number_of
  number_leading [] e h = refl
  number_leading (d ∷ []) e h = absurd (never h)
    where
      never : 1 < 1 → ⊥
      never p = omega arith
  number_leading (d ∷ b ∷ ds) e h = rw (eq-eqb d digit_zero e)

  -- a zero alone has no digit behind it
  pub number_alone : (s : List ℕ) → get_or s 0 0 ≡ digit_zero → length s ≤ 1 → number_from most 0 s ≡ number_of most s
  unfolding number_from number_of
  number_alone [] e h = absurd (never e)
    where
      never : 0 ≡ digit_zero → ⊥
      never p = omega arith
  number_alone (d ∷ []) e h = rw (e, le-leb 0 most zero-le)
  number_alone (d ∷ b ∷ ds) e h = absurd (never h)
    where
      never : suc (suc (length ds)) ≤ 1 → ⊥
      never p = omega arith

  pub number_digits : (s : List ℕ) → 0 < length s → (get_or s 0 0 ≡ digit_zero → ⊥) → number_from most 0 s ≡ number_of most s
  unfolding number_of
  number_digits [] l e = absurd (never l)
    where
      never : 0 < 0 → ⊥
      never p = omega arith
  number_digits (d ∷ ds) l e = rw (ne_eqb d digit_zero e)
