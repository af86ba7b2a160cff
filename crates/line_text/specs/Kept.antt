-- The bytes of the present line.
use Rattle.std.specs.Prelude.{◌≡◌, List, ◌++◌, ℕ, suc, ◌≤◌, length, take}
use Rattle.line_text.specs.Requests.{most_bytes}

-- the bytes of a line that are kept: more than 80 tell that it is too long
abbrev pub kept_bytes : ℕ
kept_bytes = suc most_bytes

-- What is kept of a line is the front of all its bytes, as many as there is room for.
pub record Keeps (line : List ℕ) (held : ℕ) (part new : List ℕ) (held' : ℕ) : Type 0 where
  pub most : held' ≤ length line
  pub size : length new ≡ length line
  pub front : take held' new ≡ take (length line) (take held line ++ part)
