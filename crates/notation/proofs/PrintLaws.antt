-- What is printed of a tree spells tokens that mean the tree.
use mathlib.Core.Path.{refl}
use mathlib.Core.List.{List, [], ◌∷◌, ◌++◌, append_assoc}
use Prim.Native.Nat.{ℕ, ◌≤◌}
use native.Mathlib.Omega.{arith}
use Rattle.base_ten.specs.Decimal.{decimal}
use Rattle.base_ten.proofs.DecimalRead.{decimal_read}
use Rattle.notation.specs.Trees.{Tree, nil, atom, pair, largest_value, Values}
use Rattle.notation.specs.Grammar.{Token, opening, closing, dot, number, no_digit, Spells, spaced, opens, closes, dots, numbers}
use Rattle.notation.specs.Grammar.{Datum, valued, empty, listed, Rest, closed, dotted, further}
use Rattle.notation.specs.Print.{print, print_rest}

abbrev mutual
  pub printed : Tree → List Token
  printed nil = opening ∷ closing ∷ []
  printed (atom v) = number v ∷ []
  printed (pair a d) = opening ∷ (printed a ++ printed_rest d)

  pub printed_rest : Tree → List Token
  printed_rest nil = closing ∷ []
  printed_rest (atom v) = dot ∷ number v ∷ closing ∷ []
  printed_rest (pair a d) = printed a ++ printed_rest d

mutual
  pub printed_datum : (t : Tree) → Datum (printed t) t
  printed_datum nil = empty
  printed_datum (atom v) = valued v
  printed_datum (pair a d) = listed (printed_datum a) (printed_rest_lem d)

  pub printed_rest_lem : (d : Tree) → Rest (printed_rest d) d
  printed_rest_lem nil = closed
  printed_rest_lem (atom v) = dotted (valued v)
  printed_rest_lem (pair a d) = further (printed_datum a) (printed_rest_lem d)

-- a printed value before a text
spells_value : {text : List ℕ} {ts : List Token} (v : ℕ) → v ≤ largest_value → no_digit text → Spells text ts
    → Spells (decimal v ++ text) (number v ∷ ts)
spells_value v h n s = numbers (decimal v) v (decimal_read largest_value v h (omega arith)) n s

-- an element's end is no digit's
rest_apart : (d : Tree) (text : List ℕ) → no_digit (print_rest d ++ text)
unfolding print_rest
rest_apart nil text = refl
rest_apart (atom v) text = refl
rest_apart (pair a d) text = refl

mutual
  unfolding print print_rest

  pub print_spells : (t : Tree) {text : List ℕ} {ts : List Token} → Values t → no_digit text → Spells text ts → Spells (print t ++ text) (printed t ++ ts)
  print_spells nil h n s = opens (closes s)
  print_spells (atom v) h n s = spells_value v h n s
  print_spells (pair a d) {text} {ts} h n s =
      rw (append_assoc (print a) (print_rest d) text, append_assoc (printed a) (printed_rest d) ts)
      (opens (print_spells a h.0 (rest_apart d text) (rest_spells d h.1 s)))

  rest_spells : (d : Tree) {text : List ℕ} {ts : List Token} → Values d → Spells text ts → Spells (print_rest d ++ text) (printed_rest d ++ ts)
  rest_spells nil h s = closes s
  rest_spells (atom v) {text} h s = rw (append_assoc (decimal v)) (spaced (dots (spaced (spells_value v h refl (closes s)))))
  rest_spells (pair a d) {text} {ts} h s =
      rw (append_assoc (print a) (print_rest d) text, append_assoc (printed a) (printed_rest d) ts)
      (spaced (print_spells a h.0 (rest_apart d text) (rest_spells d h.1 s)))
