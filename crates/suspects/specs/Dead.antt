-- The dead cells that the local way finds.
use Rattle.std.specs.Prelude.{◌≡◌, cond, List, ℕ, ◌+◌, ◌/◌, ◌<◌, ltb, length, Option, MatchOption}
use Rattle.arrayvec.specs.ArrayVec.{ArrayVec}
use Rattle.machine.specs.Table.{capacity}
use Rattle.machine.specs.Suspects.{suspects, local_dead}
use Rattle.walks.specs.Walk.{most_walked}

-- the most suspects of a store of c cells that are looked at one by one: in a small store going over the whole table is soon cheaper
unfoldable pub most_suspects : ℕ → ℕ
most_suspects c = cond (ltb (4 + c / 16) most_walked) (4 + c / 16) most_walked

-- the list has the dead cells' indices; None only where there are too many suspects
abbrev pub Finds : List ℕ → ℕ → Option (ArrayVec ℕ) → Type 0
Finds t w r = MatchOption r (most_suspects (capacity t) < length (suspects t w)) (λ dead. dead.items ≡ local_dead t w)
