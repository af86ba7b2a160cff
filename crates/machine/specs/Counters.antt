-- What raising a counter of 16 bits gives, for any count and number.
use Rattle.std.specs.Prelude.{◌≡◌, ℕ, ◌+◌, ◌<◌, ◌≤◌}

-- the sum where it fits a word, else the count as it was: on a sound store it always fits
pub record Raised (count n after : ℕ) : Type 0 where
  pub fits : count + n < 65536 → after ≡ count + n
  pub stays : 65536 ≤ count + n → after ≡ count
