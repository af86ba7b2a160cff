-- How many brackets are open together, going through a text byte by byte.
use Rattle.std.specs.Prelude.{Bool, true, false, cond, ◌&&◌, ◌||◌, List, [], ◌∷◌, ℕ, suc, pred, eqb}
use Rattle.notation.specs.Grammar.{open_byte, close_byte}

-- at most so many brackets are open together
abbrev pub most_open : ℕ
most_open = 32

-- the brackets open behind a byte, where so many are open before it
unfoldable pub open_after : ℕ → ℕ → ℕ
open_after n b = cond (eqb b open_byte) (suc n) (cond (eqb b close_byte) (pred n) n)

-- a byte that opens one bracket too many
unfoldable pub opens_too_many : ℕ → ℕ → Bool
opens_too_many n b = eqb b open_byte && eqb n most_open

-- somewhere in the text
unfoldable pub too_deep : ℕ → List ℕ → Bool
too_deep n [] = false
too_deep n (b ∷ bs) = opens_too_many n b || too_deep (open_after n b) bs

-- What is met first when a text goes byte by byte into so much room: nothing, a bracket too many, or a byte without room.
pub data Met : Type 0 where
  nothing : Met
  too_many : Met
  no_room : Met

abbrev pub is_too_many : Met → Bool
is_too_many nothing = false
is_too_many too_many = true
is_too_many no_room = false

abbrev pub is_no_room : Met → Bool
is_no_room nothing = false
is_no_room too_many = false
is_no_room no_room = true

-- Where both meet at one bracket it is the bracket.
unfoldable pub first_met : ℕ → ℕ → List ℕ → Met
first_met room n [] = nothing
first_met room n (b ∷ bs) = cond (opens_too_many n b) too_many (cond (eqb room 0) no_room (first_met (pred room) (open_after n b) bs))
