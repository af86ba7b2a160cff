-- What a writer into a lent buffer does.
use Rattle.std.specs.Prelude.{◌≡◌, List, ◌++◌, ℕ, ◌+◌, length, take}

-- the buffer's front up to `at` stands, the text follows it, and `end` is past the text
pub record Put (old : List ℕ) (at : ℕ) (text new : List ℕ) (end : ℕ) : Type 0 where
  pub front : take end new ≡ take at old ++ text
  pub ends : end ≡ at + length text
