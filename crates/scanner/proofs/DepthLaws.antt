-- Brackets open together, by the marks of a text.
use mathlib.Core.Path.{◌≡◌, refl, sym, ap, ◌∙◌}
use mathlib.Core.Bool.{Bool, true, false, cond, ◌&&◌, ◌||◌}
use mathlib.Core.List.{List, [], ◌∷◌, ◌++◌}
use Prim.Native.Nat.{ℕ, suc, pred, ◌≤◌}
use native.Mathlib.Omega.{arith}
use lib.Dec.{leb, eqb}
use borrow.Author.Tests.{eqb-true, leb-true, ne_eqb}
use Rattle.std.specs.Prelude.{Option, Some, None}
use Rattle.base_ten.specs.Bytes.{space, digit_zero, digit_nine}
use Rattle.base_ten.specs.Numbers.{is_digit, number_of}
use Rattle.notation.specs.Trees.{largest_value}
use Rattle.notation.specs.Grammar.{open_byte, close_byte, dot_byte, opening, closing, dot, number}
use Rattle.notation.specs.Parse.{Mark, token, foreign, number_mark, with_digits, with_byte, marks_after, marks_of}
use Rattle.notation.specs.Brackets.{most_open, open_after, opens_too_many, too_deep}

-- somewhere in the marks a bracket is opened while so many are open, if n are open before
abbrev pub deep_marks : ℕ → List Mark → Bool
deep_marks n [] = false
deep_marks n (token opening ∷ ms) = eqb n most_open || deep_marks (suc n) ms
deep_marks n (token closing ∷ ms) = deep_marks (pred n) ms
deep_marks n (token dot ∷ ms) = deep_marks n ms
deep_marks n (token (number v) ∷ ms) = deep_marks n ms
deep_marks n (foreign ∷ ms) = deep_marks n ms

-- digits are no brackets
deep_digits : (n : ℕ) (ds : List ℕ) (ms : List Mark) → deep_marks n (with_digits ds ms) ≡ deep_marks n ms
deep_digits n [] ms = refl
deep_digits n (d ∷ ds) ms = go (number_of largest_value (d ∷ ds))
  where
    go : (v : Option ℕ) → deep_marks n (number_mark v ∷ ms) ≡ deep_marks n ms
    go (Some v) = refl
    go None = refl

deep_digit : (n b : ℕ) (bs : List ℕ) → is_digit b ≡ true → too_deep n (b ∷ bs) ≡ too_deep n bs
unfolding too_deep opens_too_many open_after
deep_digit n b bs h = go (leb digit_zero b) refl h
  where
    go : (t : Bool) → leb digit_zero b ≡ t → (t && leb b digit_nine) ≡ true → too_deep n (b ∷ bs) ≡ too_deep n bs
    go true e l =
        let low : digit_zero ≤ b = leb-true digit_zero b e in
        rw (ne_eqb b open_byte (λ x. omega arith), ne_eqb b close_byte (λ x. omega arith))
    go false e l = let z : ◌≡◌ {A = ℕ} 0 1 = cc in absurd (omega arith)

-- another byte by its mark
deep_byte : (n b : ℕ) (ms : List Mark) → deep_marks n (with_byte b ms) ≡ (opens_too_many n b || deep_marks (open_after n b) ms)
unfolding with_byte opens_too_many open_after
deep_byte n b ms = go (eqb b space) refl (eqb b open_byte) refl (eqb b close_byte) refl (eqb b dot_byte)
  where
    go : (p : Bool) → eqb b space ≡ p → (q : Bool) → eqb b open_byte ≡ q → (r : Bool) → eqb b close_byte ≡ r → (s : Bool)
        → deep_marks n (cond p ms (cond q (token opening ∷ ms) (cond r (token closing ∷ ms) (cond s (token dot ∷ ms) (foreign ∷ ms)))))
        ≡ ((q && eqb n most_open) || deep_marks (cond q (suc n) (cond r (pred n) n)) ms)
    go true h true k r l s = let same = eqb-true b space h in let other = eqb-true b open_byte k in absurd (omega arith)
    go true h false k true l s = let same = eqb-true b space h in let other = eqb-true b close_byte l in absurd (omega arith)
    go true h false k false l s = refl
    go false h true k r l s = refl
    go false h false k true l s = refl
    go false h false k false l true = refl
    go false h false k false l false = refl

deep_after : (ds text : List ℕ) (n : ℕ) → deep_marks n (marks_after ds text) ≡ too_deep n text
unfolding marks_after too_deep
deep_after ds [] n = deep_digits n ds []
deep_after ds (b ∷ bs) n = go (is_digit b) refl (deep_after (ds ++ (b ∷ [])) bs n) (deep_after [] bs (open_after n b))
  where
    go : (t : Bool) → is_digit b ≡ t
        → deep_marks n (marks_after (ds ++ (b ∷ [])) bs) ≡ too_deep n bs
        → deep_marks (open_after n b) (marks_after [] bs) ≡ too_deep (open_after n b) bs
        → deep_marks n (cond t (marks_after (ds ++ (b ∷ [])) bs) (with_digits ds (with_byte b (marks_after [] bs)))) ≡ (opens_too_many n b || too_deep (open_after n b) bs)
    go true h more rest = more ∙ sym (deep_digit n b bs h)
    go false h more rest = deep_digits n ds _ ∙ deep_byte n b (marks_after [] bs) ∙ ap (λ (d : Bool). opens_too_many n b || d) rest

pub deep_marks_lem : (n : ℕ) (text : List ℕ) → deep_marks n (marks_of text) ≡ too_deep n text
deep_marks_lem n text = deep_after [] text n
