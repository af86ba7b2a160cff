-- No text of a tree has fewer brackets open together than the one that is printed.
use mathlib.Core.Path.{◌≡◌, refl, ap, ◌∙◌}
use mathlib.Core.Bool.{Bool, true, false, ◌&&◌, ◌||◌}
use mathlib.Core.List.{List, [], ◌∷◌, ◌++◌, append_assoc}
use Prim.Native.Nat.{ℕ, suc, pred, ◌+◌, ◌≤◌, ◌<◌, max}
use native.Mathlib.Omega.{arith}
use lib.Dec.{leb, eqb}
use borrow.Author.Tests.{leb-true, eqb-false, ne_eqb}
use Rattle.base_ten.specs.Bytes.{digit_zero, digit_nine}
use Rattle.notation.specs.Trees.{Tree, nil, atom, pair, largest_value}
use Rattle.notation.specs.Grammar.{open_byte, close_byte, Token, opening, closing, dot, number, Spells, ends, spaced, opens, closes, dots, numbers}
use Rattle.notation.specs.Grammar.{Datum, valued, empty, listed, closed, dotted, further}
use Rattle.notation.specs.Brackets.{most_open, open_after, opens_too_many, too_deep}
use Rattle.notation.proofs.MarkLaws.{clash, AllDigits, number_is}
use Rattle.notation.proofs.PrintLaws.{printed, printed_rest}

-- a text is too deep exactly if its tokens are
abbrev pub tokens_too_deep : ℕ → List Token → Bool
tokens_too_deep n [] = false
tokens_too_deep n (opening ∷ ts) = eqb n most_open || tokens_too_deep (suc n) ts
tokens_too_deep n (closing ∷ ts) = tokens_too_deep (pred n) ts
tokens_too_deep n (dot ∷ ts) = tokens_too_deep n ts
tokens_too_deep n (number v ∷ ts) = tokens_too_deep n ts

digits_flat : (n : ℕ) (ds text : List ℕ) → AllDigits ds → too_deep n (ds ++ text) ≡ too_deep n text
unfolding too_deep opens_too_many open_after
digits_flat n [] text h = refl
digits_flat n (d ∷ ds) text h =
    let low : digit_zero ≤ d = leb-true digit_zero d (first (leb digit_zero d) h.0) in
    rw (ne_eqb d open_byte (omega arith), ne_eqb d close_byte (omega arith)) (digits_flat n ds text h.1)
  where
    first : (p : Bool) → (p && leb d digit_nine) ≡ true → p ≡ true
    first true e = refl
    first false e = e

pub spelled_deep : {text : List ℕ} {ts : List Token} → Spells text ts → (n : ℕ) → too_deep n text ≡ tokens_too_deep n ts
unfolding too_deep opens_too_many open_after
spelled_deep ends n = refl
spelled_deep (spaced s) n = spelled_deep s n
spelled_deep (opens s) n = ap (λ (t : Bool). eqb n most_open || t) (spelled_deep s (suc n))
spelled_deep (closes s) n = spelled_deep s (pred n)
spelled_deep (dots s) n = spelled_deep s n
spelled_deep (numbers {text} ds v e h s) n = digits_flat n ds text (number_is largest_value ds v e).all ∙ spelled_deep s n

-- the most brackets open together in what is printed of a tree, and in what follows an element, with the list's own not counted
abbrev mutual
  pub depth : Tree → ℕ
  depth nil = 1
  depth (atom v) = 0
  depth (pair a d) = suc (max (depth a) (depth_rest d))

  pub depth_rest : Tree → ℕ
  depth_rest nil = 0
  depth_rest (atom v) = 0
  depth_rest (pair a d) = max (depth a) (depth_rest d)

rest_less : (d : Tree) → depth_rest d ≤ depth d
rest_less nil = omega arith
rest_less (atom v) = omega arith
rest_less (pair a d) = omega arith

bracket_fits : (n : ℕ) (rest : Bool) → n ≤ most_open → (eqb n most_open || rest) ≡ false → (n < most_open) × (rest ≡ false)
bracket_fits n rest h e = go (eqb n most_open) refl e
  where
    go : (t : Bool) → eqb n most_open ≡ t → (t || rest) ≡ false → (n < most_open) × (rest ≡ false)
    go true l x = clash (cc)
    go false l x = let other = eqb-false n most_open l in (omega arith, x)

-- what is not too deep has room for the tree and is not too deep behind it
pub record Room (n most : ℕ) (rest : Bool) : Type 0 where
  pub enough : n + most ≤ most_open
  pub behind : rest ≡ false

abbrev DatumFits : List Token → Tree → Type 0
DatumFits ts t = (n : ℕ) (us : List Token) → n ≤ most_open → tokens_too_deep n (ts ++ us) ≡ false → Room n (depth t) (tokens_too_deep n us)

abbrev RestFits : List Token → Tree → Type 0
RestFits ts d = (n : ℕ) (us : List Token) → n < most_open → tokens_too_deep (suc n) (ts ++ us) ≡ false → Room (suc n) (depth_rest d) (tokens_too_deep n us)

pub datum_fits : {ts : List Token} {t : Tree} → Datum ts t → DatumFits ts t
datum_fits x = elim x as (λ ts t y. DatumFits ts t) (λ us d y. RestFits us d) [
  | valued v ↦ λ n us h e. record { enough = omega arith; behind = e }
  | empty ↦ λ n us h e. let b = bracket_fits n (tokens_too_deep n us) h e in record { enough = omega arith; behind = b.1 }
  | listed {ts} {us = vs} (y → p) (r → q) ↦ λ n us h e.
      let b = bracket_fits n (tokens_too_deep (suc n) (ts ++ vs ++ us)) h e in
      let first = p (suc n) (vs ++ us) (omega arith) (rw append_assoc at b.1) in
      let others = q n us b.0 first.behind in
      record { enough = omega arith; behind = others.behind }
  | closed ↦ λ n us h e. record { enough = omega arith; behind = e }
  | dotted {ts} {d} (y → p) ↦ λ n us h e.
      let part = p (suc n) (closing ∷ us) (omega arith) (rw append_assoc at e) in
      record { enough = omega (arith, rest_less d); behind = part.behind }
  | further {ts} {us = vs} (y → p) (r → q) ↦ λ n us h e.
      let first = p (suc n) (vs ++ us) (omega arith) (rw append_assoc at e) in
      let others = q n us h first.behind in
      record { enough = omega arith; behind = others.behind }
]

-- what has room is not too deep as it is printed
mutual
  pub printed_fits : (t : Tree) (n : ℕ) (us : List Token) → n + depth t ≤ most_open → tokens_too_deep n us ≡ false
      → tokens_too_deep n (printed t ++ us) ≡ false
  printed_fits nil n us h e = rw (ne_eqb n most_open (omega arith)) e
  printed_fits (atom v) n us h e = e
  printed_fits (pair a d) n us h e =
      rw (ne_eqb n most_open (omega arith), append_assoc (printed a) (printed_rest d) us)
      (printed_fits a (suc n) (printed_rest d ++ us) (omega arith) (rest_fits d n us (omega arith) e))

  rest_fits : (d : Tree) (n : ℕ) (us : List Token) → suc n + depth_rest d ≤ most_open → tokens_too_deep n us ≡ false
      → tokens_too_deep (suc n) (printed_rest d ++ us) ≡ false
  rest_fits nil n us h e = e
  rest_fits (atom v) n us h e = e
  rest_fits (pair a d) n us h e =
      rw (append_assoc (printed a) (printed_rest d) us) (printed_fits a (suc n) (printed_rest d ++ us) (omega arith) (rest_fits d n us (omega arith) e))
