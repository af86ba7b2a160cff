-- How lines follow each other.
use Rattle.std.specs.Prelude.{◌≡◌, ℕ, ◌<◌, ◌≤◌, List, length, drop}

-- what is behind the first line, which is some bytes of the input
pub record Behind (input rest : List ℕ) : Type 0 where
  pub next : ℕ
  pub some : 0 < next
  pub within : next ≤ length input
  pub behind : rest ≡ drop next input
