-- The cells met so far, each with the pointers to it counted so far, and what the functions that walk do to them.
use Rattle.std.specs.Prelude.{◌≡◌, Bool, cond, not, ◌&&◌, List, [], ◌∷◌, ◌++◌, ℕ, suc, pred, ◌+◌, ◌<◌, ◌≤◌, eqb, map, length, get_or, Option, OnSome, IfNone}
use Rattle.machine.specs.Words.{is_cell, largest_word}
use Rattle.machine.specs.Table.{left, right, capacity, word_at}
use Rattle.machine.specs.Packets.{contains}
use Rattle.machine.specs.Reached.{is_root}
use Rattle.walks.specs.Walk.{most_walked}
use Rattle.walks.specs.declared.Met.{Met}

pub record Tally : Type 0 where
  pub cells : List ℕ
  pub counts : List ℕ

-- the cell at index x put behind the others, unless it is there
unfoldable pub added : ℕ → List ℕ → List ℕ
added x ys = cond (contains ys x) ys (ys ++ (x ∷ []))

-- its count raised by one, or begun
unfoldable pub raised : ℕ → List ℕ → List ℕ → List ℕ
raised x [] ns = 1 ∷ []
raised x (y ∷ ys) [] = []
raised x (y ∷ ys) (n ∷ ns) = cond (eqb y x) (suc n ∷ ns) (n ∷ raised x ys ns)

abbrev pub tally_of : List ℕ → List ℕ → Tally
tally_of cells counts = record { cells = cells; counts = counts }

-- one pointer more to the cell at index x
abbrev pub counted : ℕ → Tally → Tally
counted x y = tally_of (added x y.cells) (raised x y.cells y.counts)

-- a word that a walk goes into: a cell that is no root
unfoldable pub is_entered : List ℕ → ℕ → Bool
is_entered t w = is_cell (capacity t) w && not (is_root t (pred w))

-- the word w met
unfoldable pub met : List ℕ → ℕ → Tally → Tally
met t w y = cond (is_entered t w) (counted (pred w) y) y

-- both fields of the cell at place i met
unfoldable pub followed : List ℕ → ℕ → Tally → Tally
followed t i y = met t (word_at t (get_or y.cells i 0) right) (met t (word_at t (get_or y.cells i 0) left) y)

-- the tally of a list of met cells
abbrev pub tally : List Met → Tally
tally list = tally_of (map (λ m. m.cell) list) (map (λ m. m.pointers) list)

-- a tally whose counts have room for so many pointers more
pub record Ready (most spare : ℕ) (y : Tally) : Type 0 where
  pub few : length y.cells ≤ most
  pub within : most ≤ most_walked
  pub small : (k : ℕ) → get_or y.counts k 0 + spare ≤ largest_word

-- What the code leaves is y. It gives up, with None, only where y has more than most cells.
pub record Holds (most : ℕ) (y left : Tally) (r : Option (Unit {0})) : Type 0 where
  pub same : OnSome r (left ≡ y)
  pub few : OnSome r (length y.cells ≤ most)
  pub gave_up : IfNone r (most < length y.cells)

-- the cell at place i can be followed
pub record Followable (t : List ℕ) (most i : ℕ) (y : Tally) : Type 0 where
  pub ready : Ready most 2 y
  pub inside : i < length y.cells
  pub below : get_or y.cells i 0 < capacity t
