-- Counts of cells in the scratch: word i counts the cell at index i.
use Rattle.std.specs.Prelude.{◌≡◌, Bool, eqb, List, ℕ, suc, ◌+◌, ◌-◌, ◌≤◌, ◌<◌, get_or, drop}
use Rattle.machine.specs.Range.{matching}
use Rattle.machine.specs.Table.{scratch_words, word_at}
use Rattle.machine.specs.Words.{largest_word}

-- the scratch s' is s with the count of the word w one up or one down; words past those that c cells need stand
pub record CountUp (c w : ℕ) (s s' : List ℕ) : Type 0 where
  pub each : ((i : ℕ) → i < c → get_or s' i 0 ≡ get_or s i 0 + matching w (suc i) 1)
  pub past : drop (scratch_words c) s' ≡ drop (scratch_words c) s

pub record CountDown (c w : ℕ) (s s' : List ℕ) : Type 0 where
  pub each : ((i : ℕ) → i < c → get_or s' i 0 ≡ get_or s i 0 - matching w (suc i) 1)
  pub past : drop (scratch_words c) s' ≡ drop (scratch_words c) s

-- no count is above n
abbrev pub Below : ℕ → ℕ → List ℕ → Type 0
Below c n s = (i : ℕ) → i < c → get_or s i 0 ≤ n

-- no count is the largest word
abbrev pub RoomForOne : ℕ → List ℕ → Type 0
RoomForOne c s = (i : ℕ) → i < c → get_or s i 0 < largest_word

-- word k of the cell at index i, where its counter stands, is its count in the scratch
unfoldable pub count_matches : ℕ → List ℕ → List ℕ → ℕ → Bool
count_matches k t s i = eqb (word_at t i k) (get_or s i 0)
