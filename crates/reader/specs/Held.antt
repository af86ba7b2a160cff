-- How arrays hold what stands between two tokens, and the room that a token needs.
use Rattle.std.specs.Prelude.{◌≡◌, Bool, false, List, [], ◌∷◌, ℕ, zero, suc, ◌≤◌, ◌<◌, length, get_or, take}
use Rattle.scanner.specs.declared.tokens.Token.{Token}
use Rattle.notation.specs.Trees.{largest_value}
use Rattle.notation.specs.Brackets.{most_open}
use Rattle.machine.specs.declared.Queue.{Queue}
use Rattle.machine.specs.Calls.{store}
use Rattle.reader.specs.Reading.{OpenList, open_list, Reading, reading, ended}

-- A tree of 64 pairs has no more elements before dots, and only the innermost open list can have its part behind a dot.
abbrev pub most_words : ℕ
most_words = 65

-- n open lists, by where the words of each one's elements begin and whether its dot has come
unfoldable pub lists_in : ℕ → List ℕ → List Bool → List OpenList
lists_in zero starts dots = []
lists_in (suc n) starts dots = open_list (get_or starts n 0) (get_or dots n false) ∷ lists_in n starts dots

-- the first count words, the open lists, the table and the queue
abbrev pub reading_in : List ℕ → ℕ → List ℕ → List Bool → ℕ → List ℕ → Queue → Reading
reading_in words count starts dots opened t q = reading (take count words) (lists_in opened starts dots) (store t q [])

-- the arrays have their lengths, and hold so many words and open lists
pub record Fits (ws : List ℕ) (n : ℕ) (ss : List ℕ) (ds : List Bool) (m : ℕ) : Type 0 where
  pub words : length ws ≡ most_words
  pub starts : length ss ≡ most_open
  pub dots : length ds ≡ most_open
  pub count : n ≤ most_words
  pub opened : m ≤ most_open

-- the innermost list has its part behind its elements, and the words have room for it
abbrev pub Closable : List ℕ → List OpenList → Type 0
Closable ws [] = ⊥
Closable ws (l ∷ ls) = (l.before < length (ended l.dotted ws)) × (length (ended l.dotted ws) ≤ most_words)

-- A token of a text in the notation always finds this room, where the tree has at most 64 pairs and no more than 32 brackets are open together.
abbrev pub Room : Token → Reading → Type 0
Room Token.Blank r = Unit {0}
Room Token.Opening r = length r.lists < most_open
Room Token.Closing r = Closable r.words r.lists
Room Token.Dot r = 1 ≤ length r.lists
Room (Token.Number v) r = (length r.words < most_words) × (v ≤ largest_value)
Room Token.Foreign r = Unit {0}
