-- Lexing is spelling: a text spells tokens exactly if these are its marks.
use mathlib.Core.Path.{◌≡◌, refl, sym, ap, ◌∙◌}
use mathlib.Core.Bool.{Bool, true, false, cond}
use mathlib.Core.List.{List, [], ◌∷◌, ◌++◌, map, append-nil, append_assoc}
use Prim.Native.Nat.{ℕ, ◌+◌, ◌-◌, ◌*◌, ◌≤◌, zero-le}
use native.Mathlib.Omega.{arith}
use lib.Dec.{leb, eqb}
use borrow.Author.Tests.{leb-true, eqb-true}
use Rattle.std.specs.Prelude.{Option, Some, None}
use Rattle.base_ten.specs.Bytes.{space, digit_zero}
use Rattle.base_ten.specs.Numbers.{is_digit, number_from, zero_alone, number_of}
use Rattle.notation.specs.Trees.{largest_value}
use Rattle.notation.specs.Grammar.{open_byte, close_byte, dot_byte, Token, opening, closing, dot, number, no_digit}
use Rattle.notation.specs.Grammar.{Spells, ends, spaced, opens, closes, dots, numbers}
use Rattle.notation.specs.Parse.{Mark, token, foreign, number_mark, with_digits, with_byte, marks_after, marks_of}

-- what follows from two constructors that are the same
pub clash : {A : Type 0} → ◌≡◌ {A = ℕ} 0 1 → A
clash e = absurd (never e)
  where
    never : ◌≡◌ {A = ℕ} 0 1 → ⊥
    never p = omega arith

abbrev pub AllDigits : List ℕ → Type 0
AllDigits [] = Unit {0}
AllDigits (d ∷ ds) = (is_digit d ≡ true) × AllDigits ds

-- what is read of digits, if it is a number
pub record Digits (most : ℕ) (ds : List ℕ) (v : ℕ) : Type 0 where
  pub all : AllDigits ds
  pub within : v ≤ most

from_digits : (most v : ℕ) (ds : List ℕ) (w : ℕ) → number_from most v ds ≡ Some w → Digits most ds w
unfolding number_from
from_digits most v [] w e = go (leb v most) refl e
  where
    go : (t : Bool) → leb v most ≡ t → cond t (Some v) None ≡ Some w → Digits most [] w
    go true l x = let same : v ≡ w = cc in record { all = tt; within = omega (arith, leb-true v most l) }
    go false l x = clash (cc)
from_digits most v (d ∷ ds) w e = go (is_digit d) refl e (from_digits most (10 * v + (d - digit_zero)) ds w)
  where
    go : (t : Bool) → is_digit d ≡ t → cond t (number_from most (10 * v + (d - digit_zero)) ds) None ≡ Some w
        → (number_from most (10 * v + (d - digit_zero)) ds ≡ Some w → Digits most ds w) → Digits most (d ∷ ds) w
    go true l x ih = let rest = ih x in record { all = (l, rest.all); within = rest.within }
    go false l x ih = clash (cc)

pub number_is : (most : ℕ) (ds : List ℕ) (v : ℕ) → number_of most ds ≡ Some v → Digits most ds v
unfolding number_of
number_is most [] v e = clash (cc)
number_is most (d ∷ ds) v e = go (eqb d digit_zero) refl e
  where
    alone : d ≡ digit_zero → (xs : List ℕ) → zero_alone xs ≡ Some v → Digits most (d ∷ xs) v
    alone z [] x = let same : 0 ≡ v = cc in record { all = (rw z, tt); within = rw (← same) zero-le }
    alone z (y ∷ xs) x = clash (cc)

    go : (t : Bool) → eqb d digit_zero ≡ t → cond t (zero_alone ds) (number_from most 0 (d ∷ ds)) ≡ Some v → Digits most (d ∷ ds) v
    go true l x = alone (eqb-true d digit_zero l) ds x
    go false l x = from_digits most 0 (d ∷ ds) v x

-- a run of digits is one number
marks_end : (es text : List ℕ) → no_digit text → marks_after es text ≡ with_digits es (marks_of text)
unfolding marks_after
marks_end es [] h = refl
marks_end es (b ∷ text) h = rw h

marks_run : (es ds text : List ℕ) → AllDigits ds → no_digit text → marks_after es (ds ++ text) ≡ with_digits (es ++ ds) (marks_of text)
unfolding marks_after
marks_run es [] text all h = marks_end es text h ∙ ap (λ (x : List ℕ). with_digits x (marks_of text)) (sym (append-nil es))
marks_run es (d ∷ ds) text all h =
    rw all.0 (marks_run (es ++ (d ∷ [])) ds text all.1 h ∙ ap (λ (x : List ℕ). with_digits x (marks_of text)) (append_assoc es (d ∷ []) ds))

with_number : (ds : List ℕ) (v : ℕ) (ms : List Mark) → number_of largest_value ds ≡ Some v → with_digits ds ms ≡ token (number v) ∷ ms
unfolding number_of
with_number [] v ms e = clash (cc)
with_number (d ∷ ds) v ms e = ap (λ (n : Option ℕ). number_mark n ∷ ms) e

-- what a text spells are its marks
pub spelled : {text : List ℕ} {ts : List Token} → Spells text ts → marks_of text ≡ map token ts
unfolding marks_after with_byte
spelled ends = refl
spelled (spaced s) = spelled s
spelled (opens s) = ap {B = List Mark} (λ ms. token opening ∷ ms) (spelled s)
spelled (closes s) = ap {B = List Mark} (λ ms. token closing ∷ ms) (spelled s)
spelled (dots s) = ap {B = List Mark} (λ ms. token dot ∷ ms) (spelled s)
spelled (numbers {text} digits v e h s) =
    marks_run [] digits text (number_is largest_value digits v e).all h
    ∙ with_number digits v (marks_of text) e
    ∙ ap {B = List Mark} (λ ms. token (number v) ∷ ms) (spelled s)

-- and a text whose marks are tokens spells them: by what stands first, the digits that came before it
module _ (text : List ℕ) (ms : List Mark) (h : no_digit text) (rest : (ts : List Token) → ms ≡ map token ts → Spells text ts) where
  digits_first : (es : List ℕ) (ts : List Token) → with_digits es ms ≡ map token ts → Spells (es ++ text) ts
  digits_first [] ts e = rest ts e
  digits_first (d ∷ ds) ts e = go (number_of largest_value (d ∷ ds)) refl ts e
    where
      go : (n : Option ℕ) → number_of largest_value (d ∷ ds) ≡ n → (us : List Token) → number_mark n ∷ ms ≡ map token us → Spells ((d ∷ ds) ++ text) us
      go (Some v) l [] x = clash (cc)
      go (Some v) l (u ∷ us) x =
          let same : u ≡ number v = cc in
          let others : ms ≡ map token us = cc in
          rw same (numbers (d ∷ ds) v l h (rest us others))
      go None l [] x = clash (cc)
      go None l (u ∷ us) x = clash (cc)

-- or a byte that is no digit
module _ (b : ℕ) (bs : List ℕ) (rest : (ts : List Token) → marks_of bs ≡ map token ts → Spells bs ts) where
  byte_first : (ts : List Token) → with_byte b (marks_of bs) ≡ map token ts → Spells (b ∷ bs) ts
  unfolding with_byte
  byte_first ts e = go (eqb b space) refl (eqb b open_byte) refl (eqb b close_byte) refl (eqb b dot_byte) refl ts e
    where
      -- the byte of a token
      of : (k : Token) → ((us : List Token) → Spells bs us → Spells (b ∷ bs) (k ∷ us)) → (us : List Token)
          → token k ∷ marks_of bs ≡ map token us → Spells (b ∷ bs) us
      of k put [] x = clash (cc)
      of k put (u ∷ us) x =
          let same : u ≡ k = cc in
          let others : marks_of bs ≡ map token us = cc in
          rw same (put us (rest us others))

      none : (us : List Token) → foreign ∷ marks_of bs ≡ map token us → Spells (b ∷ bs) us
      none [] x = clash (cc)
      none (u ∷ us) x = clash (cc)

      go : (p : Bool) → eqb b space ≡ p → (q : Bool) → eqb b open_byte ≡ q → (r : Bool) → eqb b close_byte ≡ r → (s : Bool) → eqb b dot_byte ≡ s
          → (us : List Token)
          → cond p (marks_of bs)
          (cond q (token opening ∷ marks_of bs) (cond r (token closing ∷ marks_of bs) (cond s (token dot ∷ marks_of bs) (foreign ∷ marks_of bs))))
          ≡ map token us
          → Spells (b ∷ bs) us
      go true l q k r m s n us x = rw (eqb-true b space l) (spaced (rest us x))
      go false l true k r m s n us x = of opening (λ vs y. rw (eqb-true b open_byte k) (opens y)) us x
      go false l false k true m s n us x = of closing (λ vs y. rw (eqb-true b close_byte m) (closes y)) us x
      go false l false k false m true n us x = of dot (λ vs y. rw (eqb-true b dot_byte n) (dots y)) us x
      go false l false k false m false n us x = none us x

marks_spell : (es text : List ℕ) (ts : List Token) → marks_after es text ≡ map token ts → Spells (es ++ text) ts
unfolding marks_after
marks_spell es [] ts e = digits_first [] [] tt none es ts e
  where
    none : (us : List Token) → [] ≡ map token us → Spells [] us
    none [] x = ends
    none (u ∷ us) x = clash (cc)
marks_spell es (b ∷ bs) ts e = go (is_digit b) refl e (marks_spell (es ++ (b ∷ [])) bs ts) (marks_spell [] bs)
  where
    go : (t : Bool) → is_digit b ≡ t
        → cond t (marks_after (es ++ (b ∷ [])) bs) (with_digits es (with_byte b (marks_after [] bs))) ≡ map token ts
        → (marks_after (es ++ (b ∷ [])) bs ≡ map token ts → Spells ((es ++ (b ∷ [])) ++ bs) ts)
        → ((us : List Token) → marks_of bs ≡ map token us → Spells bs us)
        → Spells (es ++ (b ∷ bs)) ts
    go true l x more rest = rw append_assoc at (more x)
    go false l x more rest = digits_first (b ∷ bs) (with_byte b (marks_of bs)) l (byte_first b bs rest) es ts x

pub spells : (text : List ℕ) (ts : List Token) → marks_of text ≡ map token ts → Spells text ts
spells text ts e = marks_spell [] text ts e
