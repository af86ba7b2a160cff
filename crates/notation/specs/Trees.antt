-- What a text of the notation means: nil, an atom by its value, or a pair.
use Rattle.std.specs.Prelude.{ℕ, suc, ◌+◌, ◌≤◌, max}

pub data Tree : Type 0 where
  nil : Tree
  atom : ℕ → Tree
  pair : Tree → Tree → Tree

-- the largest value of an atom; values over it are outside the notation
abbrev pub largest_value : ℕ
largest_value = 32767

-- every atom's value is in the notation
abbrev pub Values : Tree → Type 0
Values nil = Unit {0}
Values (atom v) = v ≤ largest_value
Values (pair a d) = Values a × Values d

-- how many pairs a tree has
unfoldable pub pairs : Tree → ℕ
pairs nil = 0
pairs (atom v) = 0
pairs (pair a d) = suc (pairs a + pairs d)

-- the largest value of its atoms, 0 where it has none
unfoldable pub largest : Tree → ℕ
largest nil = 0
largest (atom v) = v
largest (pair a d) = max (largest a) (largest d)
