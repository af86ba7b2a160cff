-- The number of a line, counted up, and its text in a buffer.
use Rattle.std.specs.Prelude.{◌≡◌, List, ℕ, ◌+◌, ◌/◌, ◌^◌, ◌≤◌, ◌<◌, length, take}
use Rattle.base_ten.specs.Decimal.{most_digits, decimal}

-- a text of 20 bytes, of which the first, so many, are in base ten a number that differs from this one in its last digit at most
pub record ShowsTens (text : List ℕ) (size number : ℕ) : Type 0 where
  pub whole : length text ≡ most_digits
  pub shown : ℕ
  pub tens : shown / 10 ≡ number / 10
  pub front : take size text ≡ decimal shown
  pub ends : size ≡ length (decimal shown)

-- one more, unless the number stops: line numbers are below 2^64
pub record Next (lines number : ℕ) : Type 0 where
  pub least : lines ≤ number
  pub most : number ≤ lines + 1
  pub one : lines + 1 < 2 ^ 64 → number ≡ lines + 1
