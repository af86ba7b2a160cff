-- The grammar of rule text, on the list of its bytes: a text spells tokens, and the tokens are one datum.
--
--   datum ::= number | ( ) | ( datum rest
--   rest  ::= ) | . datum ) | datum rest
--
-- So a list's brackets hold nothing, or at least one element, and behind a dot exactly one part.
use Rattle.std.specs.Prelude.{◌≡◌, false, List, [], ◌∷◌, ◌++◌, ℕ, Option, Some, None}
use Rattle.base_ten.specs.Bytes.{space}
use Rattle.base_ten.specs.Numbers.{is_digit, number_of}
use Rattle.notation.specs.Trees.{Tree, nil, atom, pair, largest_value}

-- the bytes ( ) and .
abbrev pub open_byte : ℕ
open_byte = 40

abbrev pub close_byte : ℕ
close_byte = 41

abbrev pub dot_byte : ℕ
dot_byte = 46

-- the most bytes of a text
abbrev pub most_text : ℕ
most_text = 4096

-- brackets, dots, and an atom by its value
pub data Token : Type 0 where
  opening : Token
  closing : Token
  dot : Token
  number : ℕ → Token

-- the text does not begin with a digit
abbrev pub no_digit : List ℕ → Type 0
no_digit [] = Unit {0}
no_digit (b ∷ text) = is_digit b ≡ false

-- Spaces may stand beside any token, and at either end. Digits that stand together are one number, so spaces are needed between two atoms, and nowhere
-- else. No other byte has a meaning.
pub data Spells : List ℕ → List Token → Type 0 where
  ends : Spells [] []
  spaced : {text : List ℕ} {ts : List Token} → Spells text ts → Spells (space ∷ text) ts
  opens : {text : List ℕ} {ts : List Token} → Spells text ts → Spells (open_byte ∷ text) (opening ∷ ts)
  closes : {text : List ℕ} {ts : List Token} → Spells text ts → Spells (close_byte ∷ text) (closing ∷ ts)
  dots : {text : List ℕ} {ts : List Token} → Spells text ts → Spells (dot_byte ∷ text) (dot ∷ ts)
  -- an atom's value in base ten without leading zeros
  numbers : {text : List ℕ} {ts : List Token} (digits : List ℕ) (v : ℕ) → number_of largest_value digits ≡ Some v → no_digit text → Spells text ts
      → Spells (digits ++ text) (number v ∷ ts)

-- what tokens mean, as a datum and as the rest of a list whose first elements stand before them
mutual
  pub data Datum : List Token → Tree → Type 0 where
    valued : (v : ℕ) → Datum (number v ∷ []) (atom v)
    empty : Datum (opening ∷ closing ∷ []) nil
    listed : {ts us : List Token} {a d : Tree} → Datum ts a → Rest us d → Datum (opening ∷ (ts ++ us)) (pair a d)

  pub data Rest : List Token → Tree → Type 0 where
    closed : Rest (closing ∷ []) nil
    dotted : {ts : List Token} {d : Tree} → Datum ts d → Rest (dot ∷ (ts ++ (closing ∷ []))) d
    further : {ts us : List Token} {a d : Tree} → Datum ts a → Rest us d → Rest (ts ++ us) (pair a d)

-- the text is in the notation and means the tree
pub record InNotation (text : List ℕ) (tree : Tree) : Type 0 where
  pub tokens : List Token
  pub spells : Spells text tokens
  pub datum : Datum tokens tree
