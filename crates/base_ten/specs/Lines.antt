-- Lines that come in parts: the bytes of a line that has begun, before the rest of the input.
use Rattle.std.specs.Prelude.{List, [], ◌∷◌, ◌++◌, ℕ}

-- a last line without its line feed, if it has a byte
abbrev pub last_line : List ℕ → List (List ℕ)
last_line [] = []
last_line (b ∷ bs) = (b ∷ bs) ∷ []

-- the bytes of a line that has begun, in front of the lines that the rest gives
abbrev pub onto : List ℕ → List (List ℕ) → List (List ℕ)
onto begun [] = last_line begun
onto begun (l ∷ ls) = (begun ++ l) ∷ ls
