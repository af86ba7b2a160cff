-- "A plain list of seat and reading."
use Rattle.std.specs.Prelude.{Bool, true, false, cond, List, [], ◌∷◌, ℕ, ◌+◌, leb, eqb}

pub record Entry : Type 0 where
  pub seat : ℕ
  pub reading : ℕ

abbrev pub entry : ℕ → ℕ → Entry
entry s r = record { seat = s; reading = r }

-- "Look up": what is found of a seat
pub data Found : Type 0 where
  missing : Found
  found : ℕ → Found

unfoldable pub looked_up : List Entry → ℕ → Found
looked_up [] s = missing
looked_up (e ∷ es) s = cond (eqb e.seat s) (found e.reading) (looked_up es s)

abbrev pub is_found : Found → Bool
is_found missing = false
is_found (found r) = true

-- "Set": a seat that is present gets another reading, a new one comes first
unfoldable pub replaced : List Entry → ℕ → ℕ → List Entry
replaced [] s r = []
replaced (e ∷ es) s r = cond (eqb e.seat s) (entry s r ∷ es) (e ∷ replaced es s r)

unfoldable pub with_seat : List Entry → ℕ → ℕ → List Entry
with_seat es s r = cond (is_found (looked_up es s)) (replaced es s r) (entry s r ∷ es)

-- "Remove"
unfoldable pub without : List Entry → ℕ → List Entry
without [] s = []
without (e ∷ es) s = cond (eqb e.seat s) es (e ∷ without es s)

-- "Count": the number of seats at or above a threshold
unfoldable pub counted : List Entry → ℕ → ℕ
counted [] n = 0
counted (e ∷ es) n = cond (leb n e.reading) 1 0 + counted es n
