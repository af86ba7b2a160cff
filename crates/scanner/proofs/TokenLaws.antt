-- The marks of a text, token by token.
use mathlib.Core.Path.{◌≡◌, refl, sym, ap, ◌∙◌}
use mathlib.Core.Bool.{false}
use mathlib.Core.List.{List, [], ◌∷◌, ◌++◌}
use Prim.Native.Nat.{ℕ, suc, ◌+◌, ◌-◌, ◌≤◌, ◌<◌}
use native.Mathlib.Omega.{arith}
use lib.ListN.{length, get_or, take, drop, drop_of_length-le, length-drop, length-take}
use lib.Seq.{take-suc, get_or-drop}
use borrow.Author.Tests.{le-leb}
use Rattle.base_ten.specs.Bytes.{digit_zero, digit_nine}
use Rattle.base_ten.specs.Numbers.{is_digit, number_of}
use Rattle.base_ten.proofs.ByteLaws.{drop_at}
use Rattle.notation.specs.Trees.{largest_value}
use Rattle.notation.specs.Parse.{number_mark, with_digits, marks_after, marks_of}
use Rattle.scanner.specs.declared.tokens.Token.{Token}
use Rattle.scanner.specs.Tokens.{IsNumber, IsByte, TokenAt, DigitAt, DigitsEnd}

-- one digit more
pub after_digit : (ds text : List ℕ) (i : ℕ) → DigitAt text i → marks_after ds (drop i text) ≡ marks_after (ds ++ (get_or text i 0 ∷ [])) (drop (i + 1) text)
unfolding marks_after
after_digit ds text i d = rw (drop_at text i d.inside, le-leb digit_zero (get_or text i 0) d.low, le-leb (get_or text i 0) digit_nine d.high)

-- at another byte the digits end
pub after_other : (ds text : List ℕ) (i : ℕ) → i < length text → is_digit (get_or text i 0) ≡ false → marks_after ds (drop i text) ≡ with_digits ds (marks_of (drop i text))
unfolding marks_after
after_other ds text i h e = rw (drop_at text i h, e)

pub after_all : (ds text : List ℕ) (i : ℕ) → length text ≤ i → marks_after ds (drop i text) ≡ with_digits ds (marks_of (drop i text))
unfolding marks_after
after_all ds text i h = rw (drop_of_length-le text h)

-- from `at` up to i all bytes are digits
abbrev pub Digits : List ℕ → ℕ → ℕ → Type 0
Digits text at i = marks_of (drop at text) ≡ marks_after (take (i - at) (drop at text)) (drop i text)

pub digits_none : (text : List ℕ) (at : ℕ) → Digits text at at
digits_none text at = let e : at - at ≡ 0 = omega arith in rw e

pub digits_more : (text : List ℕ) (at i : ℕ) → at ≤ i → DigitAt text i → Digits text at i → Digits text at (i + 1)
digits_more text at i h d run =
    let e : i + 1 - at ≡ suc (i - at) = omega arith in
    let inside : i - at < length (drop at text) = rw (length-drop at text) (omega (arith, d.inside)) in
    let place : at + (i - at) ≡ i = omega arith in
    let byte : get_or (drop at text) (i - at) 0 ≡ get_or text i 0 = get_or-drop at text (i - at) 0 ∙ ap (λ (n : ℕ). get_or text n 0) place in
    run ∙ after_digit (take (i - at) (drop at text)) text i d
    ∙ sym (rw (e, take-suc (drop at text) (i - at) 0 inside, byte))

-- a byte that is no digit is a token by itself
pub byte_token : (text : List ℕ) (at : ℕ) (t : Token) → at < length text → is_digit (get_or text at 0) ≡ false → IsByte (get_or text at 0) t
    → TokenAt text at (record { token = t; next = at + 1 })
unfolding marks_after
byte_token text at t h other is =
    record { further = omega arith; inside = omega arith; marks = rw (drop_at text at h, other) (is.marks (marks_of (drop (at + 1) text))); value = is.value }

-- digits that stand together are one token, by what they say as a number
pub number_token : (text : List ℕ) (at end : ℕ) (t : Token) → DigitsEnd text at end → IsNumber (take (end - at) (drop at text)) t
    → TokenAt text at (record { token = t; next = end })
number_token text at end t d is =
    record { further = d.further; inside = d.inside; marks = d.marks ∙ some (take (end - at) (drop at text)) any ∙ sym (rw is.marks); value = is.value }
  where
    any : 0 < length (take (end - at) (drop at text))
    any = simp (length-take, length-drop) (omega (arith, d.further, d.inside))

    some : (ds : List ℕ) → 0 < length ds
        → with_digits ds (marks_of (drop end text)) ≡ number_mark (number_of largest_value ds) ∷ marks_of (drop end text)
    some [] h = absurd (omega arith)
    some (b ∷ ds) h = refl
