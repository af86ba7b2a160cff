-- The values of a text's tokens are in the notation, and so are those of what they mean.
use mathlib.Core.List.{List, [], ◌∷◌, ◌++◌}
use Prim.Native.Nat.{ℕ, ◌≤◌}
use Rattle.notation.specs.Trees.{Tree, largest_value, Values}
use Rattle.notation.specs.Grammar.{Token, opening, closing, dot, number, Spells, ends, spaced, opens, closes, dots, numbers}
use Rattle.notation.specs.Grammar.{Datum, valued, empty, listed, closed, dotted, further}
use Rattle.notation.proofs.MarkLaws.{number_is}

abbrev InRange : List Token → Type 0
InRange [] = Unit {0}
InRange (opening ∷ ts) = InRange ts
InRange (closing ∷ ts) = InRange ts
InRange (dot ∷ ts) = InRange ts
InRange (number v ∷ ts) = (v ≤ largest_value) × InRange ts

pub spelled_values : {text : List ℕ} {ts : List Token} → Spells text ts → InRange ts
spelled_values ends = tt
spelled_values (spaced s) = spelled_values s
spelled_values (opens s) = spelled_values s
spelled_values (closes s) = spelled_values s
spelled_values (dots s) = spelled_values s
spelled_values (numbers ds v e h s) = ((number_is largest_value ds v e).within, spelled_values s)

first_values : (ts us : List Token) → InRange (ts ++ us) → InRange ts
first_values [] us h = tt
first_values (opening ∷ ts) us h = first_values ts us h
first_values (closing ∷ ts) us h = first_values ts us h
first_values (dot ∷ ts) us h = first_values ts us h
first_values (number v ∷ ts) us h = (h.0, first_values ts us h.1)

last_values : (ts us : List Token) → InRange (ts ++ us) → InRange us
last_values [] us h = h
last_values (opening ∷ ts) us h = last_values ts us h
last_values (closing ∷ ts) us h = last_values ts us h
last_values (dot ∷ ts) us h = last_values ts us h
last_values (number v ∷ ts) us h = last_values ts us h.1

pub datum_values : {ts : List Token} {a : Tree} → Datum ts a → InRange ts → Values a
datum_values x = elim x as (λ ts a y. InRange ts → Values a) (λ us d y. InRange us → Values d) [
  | valued v ↦ λ h. h.0
  | empty ↦ λ h. tt
  | listed {ts} {us} (y → p) (r → q) ↦ λ h. (p (first_values ts us h), q (last_values ts us h))
  | closed ↦ λ h. tt
  | dotted {ts} (y → p) ↦ λ h. p (first_values ts (closing ∷ []) h)
  | further {ts} {us} (y → p) (r → q) ↦ λ h. (p (first_values ts us h), q (last_values ts us h))
]
