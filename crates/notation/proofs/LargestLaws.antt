-- The largest value of a tree's atoms: it is that of the tokens which mean the tree, and in the notation.
use mathlib.Core.Path.{◌≡◌, refl}
use mathlib.Core.List.{List, [], ◌∷◌, ◌++◌}
use Prim.Native.Nat.{ℕ, ◌≤◌, zero-le, max}
use native.Mathlib.Nat.{max-zero, max-le}
use native.Mathlib.Omega.{arith}
use Rattle.notation.specs.Trees.{Tree, nil, atom, pair, largest_value, Values, largest}
use Rattle.notation.specs.Grammar.{Token, opening, closing, dot, number, Datum, valued, empty, listed, closed, dotted, further}

-- the largest value of the numbers among tokens, 0 where there is none
abbrev pub largest_token : List Token → ℕ
largest_token [] = 0
largest_token (opening ∷ ts) = largest_token ts
largest_token (closing ∷ ts) = largest_token ts
largest_token (dot ∷ ts) = largest_token ts
largest_token (number v ∷ ts) = max v (largest_token ts)

largest_append : (ts us : List Token) → largest_token (ts ++ us) ≡ max (largest_token ts) (largest_token us)
largest_append [] us = omega arith
largest_append (opening ∷ ts) us = largest_append ts us
largest_append (closing ∷ ts) us = largest_append ts us
largest_append (dot ∷ ts) us = largest_append ts us
largest_append (number v ∷ ts) us = omega (arith, largest_append ts us)

pub datum_largest : {ts : List Token} {a : Tree} → Datum ts a → largest_token ts ≡ largest a
unfolding largest
datum_largest x = elim x as (λ ts a y. largest_token ts ≡ largest a) (λ us d y. largest_token us ≡ largest d) [
  | valued v ↦ max-zero v
  | empty ↦ refl
  | listed {ts} {us} (y → p) (r → q) ↦ omega (arith, largest_append ts us, p, q)
  | closed ↦ refl
  | dotted {ts} (y → p) ↦ omega (arith, largest_append ts (closing ∷ []), p)
  | further {ts} {us} (y → p) (r → q) ↦ omega (arith, largest_append ts us, p, q)
]

pub largest_within : (t : Tree) → Values t → largest t ≤ largest_value
unfolding largest
largest_within nil h = zero-le
largest_within (atom v) h = h
largest_within (pair a d) h = max-le (largest_within a h.0) (largest_within d h.1)
