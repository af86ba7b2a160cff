-- Worked texts: what each parses to, what is printed of a tree, and what is met first on the way into a buffer. Each is proved by computation.
use Rattle.std.specs.Prelude.{◌≡◌, Bool, true, false, List, [], ◌∷◌, ◌++◌, map, ℕ, replicate}
use Prim.Native.String.{String}
use Rattle.base_ten.specs.Bytes.{ascii}
use Rattle.notation.specs.Trees.{Tree, nil, atom, pair}
use Rattle.notation.specs.Grammar.{open_byte, close_byte}
use Rattle.notation.specs.Parse.{tree, none, parse}
use Rattle.notation.specs.Print.{print}
use Rattle.notation.specs.Brackets.{too_deep, Met, nothing, too_many, no_room, first_met}

-- (1 2 3), (1 2 . 3) and ((1) 2)
abbrev one_two_three : Tree
one_two_three = pair (atom 1) (pair (atom 2) (pair (atom 3) nil))

abbrev ends_in_three : Tree
ends_in_three = pair (atom 1) (pair (atom 2) (atom 3))

abbrev one_inside : Tree
one_inside = pair (pair (atom 1) nil) (pair (atom 2) nil)

-- texts in the notation, each with its tree
abbrev pub inside : List (String × Tree)
inside =
    ("()", nil)
    ∷ ("( )", nil)
    ∷ (" 7 ", atom 7)
    ∷ ("0", atom 0)
    ∷ ("10", atom 10)
    ∷ ("32767", atom 32767)
    ∷ ("(1.2)", pair (atom 1) (atom 2))
    ∷ ("( 1 . 2 )", pair (atom 1) (atom 2))
    ∷ ("((1)2)", one_inside)
    ∷ ("(1 2 3)", one_two_three)
    ∷ ("(1 . (2 . (3 . ())))", one_two_three)
    ∷ ("(1 . (2 3))", one_two_three)
    ∷ ("(1 2 . 3)", ends_in_three)
    ∷ ("(1 . (2 . 3))", ends_in_three)
    ∷ ("(()())", pair nil (pair nil nil))
    ∷ ("(1())", pair (atom 1) (pair nil nil))
    ∷ ("(().5)", pair nil (atom 5))
    ∷ []

-- texts outside it
abbrev pub outsiders : List String
outsiders =
    ""
    ∷ " "
    -- not one datum
    ∷ "1 2" ∷ "()()" ∷ "(1)2" ∷ "1 . 2" ∷ "."
    -- bytes without a meaning
    ∷ "\t7" ∷ "7\n" ∷ "(1\t2)" ∷ "(1,2)" ∷ "a" ∷ "-1" ∷ "+1" ∷ "1e3"
    -- brackets
    ∷ "(" ∷ ")" ∷ "(1" ∷ "1)" ∷ ")(" ∷ "(()" ∷ "())"
    -- dots
    ∷ "(.)" ∷ "(. 1)" ∷ "(1 . )" ∷ "(1 . 2 3)" ∷ "(1 . 2 . 3)" ∷ "(1 . . 2)"
    -- values
    ∷ "01" ∷ "00" ∷ "(1 02)" ∷ "32768" ∷ "65536" ∷ "99999999999999999999"
    ∷ []

-- trees, each with the text written of it
abbrev pub written : List (Tree × String)
written =
    (nil, "()")
    ∷ (atom 0, "0")
    ∷ (atom 32767, "32767")
    ∷ (one_two_three, "(1 2 3)")
    ∷ (pair (atom 1) (atom 2), "(1 . 2)")
    ∷ (ends_in_three, "(1 2 . 3)")
    ∷ (one_inside, "((1) 2)")
    ∷ (pair nil nil, "(())")
    ∷ (pair nil (atom 5), "(() . 5)")
    ∷ (pair (atom 1) (pair nil nil), "(1 ())")
    ∷ []

-- so many lists, each in the one before
abbrev pub nested : ℕ → List ℕ
nested n = replicate n open_byte ++ replicate n close_byte

-- 32 brackets open together are not too many, 33 are; brackets that are closed again do not count
abbrev pub depths : List (List ℕ × Bool)
depths = (nested 32, false) ∷ (nested 33, true) ∷ (nested 32 ++ nested 32, false) ∷ (nested 32 ++ nested 33, true) ∷ []

-- room, a text, and what is met first: at the 33rd bracket that bracket, where it has room and where it has none; and no room where the room ends earlier
abbrev pub met : List (ℕ × List ℕ × Met)
met =
    (3, ascii "(1)", nothing)
    ∷ (2, ascii "(1)", no_room)
    ∷ (0, ascii "1", no_room)
    ∷ (64, nested 32, nothing)
    ∷ (63, nested 32, no_room)
    ∷ (33, nested 33, too_many)
    ∷ (32, nested 33, too_many)
    ∷ (31, nested 33, no_room)
    ∷ []

pub record NotationCases : Type 0 where
  pub parsed : map (λ (c : String × Tree). parse (ascii c.0)) inside ≡ map (λ (c : String × Tree). tree c.1) inside
  pub refused : map (λ (s : String). parse (ascii s)) outsiders ≡ map (λ (s : String). none) outsiders
  pub printed : map (λ (c : Tree × String). print c.0) written ≡ map (λ (c : Tree × String). ascii c.1) written
  pub deep : map (λ (c : List ℕ × Bool). too_deep 0 c.0) depths ≡ map (λ (c : List ℕ × Bool). c.1) depths
  pub first : map (λ (c : ℕ × List ℕ × Met). first_met c.0 0 c.1) met ≡ map (λ (c : ℕ × List ℕ × Met). c.2) met
