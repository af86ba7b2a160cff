-- Laws of a cleared scratch.
use mathlib.Core.Path.{◌≡◌, refl, ap, ◌∙◌}
use mathlib.Core.List.{List, ◌∷◌, ◌++◌}
use Prim.Native.Nat.{ℕ, zero, suc, ◌+◌, ◌≤◌, ◌<◌}
use native.Mathlib.Omega.{arith}
use native.Mathlib.Numerals.{add-one}
use lib.ListN.{length, get_or, set, drop, replicate, length-append, length-replicate, length-drop, get_or-replicate, get_or-append}
use lib.Seq.{drop_at, drop-cons, set_at}
use Rattle.machine.specs.Step.{cleared}

pub length_cleared : (n : ℕ) (s : List ℕ) → n ≤ length s → length (cleared n s) ≡ length s
unfolding cleared
length_cleared n s h = simp (length-append, length-replicate, length-drop) (omega arith)

pub cleared_zero : (n : ℕ) (s : List ℕ) (i : ℕ) → i < n → get_or (cleared n s) i 0 ≡ 0
unfolding cleared
cleared_zero n s i l = get_or-append (replicate n 0) (drop n s) 0 i (simp length-replicate l) ∙ get_or-replicate n i 0 0 l

pub past_cleared : (n : ℕ) (s : List ℕ) → drop n (cleared n s) ≡ drop n s
unfolding cleared
past_cleared n s = drop_at (replicate n 0) (drop n s) n (length-replicate n 0)

-- what is cleared does not matter
pub cleared_same : (n : ℕ) (s s' : List ℕ) → drop n s' ≡ drop n s → cleared n s' ≡ cleared n s
unfolding cleared
cleared_same n s s' e = ap (λ (r : List ℕ). replicate n 0 ++ r) e

-- word by word
replicate_more : (n : ℕ) (xs : List ℕ) → replicate n 0 ++ (0 ∷ xs) ≡ replicate (suc n) 0 ++ xs
replicate_more zero xs = refl
replicate_more (suc n) xs = ap (λ (ys : List ℕ). 0 ∷ ys) (replicate_more n xs)

pub cleared_none : (s : List ℕ) → s ≡ cleared 0 s
unfolding cleared
cleared_none s = refl

pub cleared_more : (i : ℕ) (s u : List ℕ) → i < length s → u ≡ cleared i s → set u i 0 ≡ cleared (i + 1) s
unfolding cleared
cleared_more i s u l e =
    rw (e, drop-cons s i 0 l, set_at (replicate i 0) (get_or s i 0) (drop (suc i) s) 0 i (length-replicate i 0), add-one i) (replicate_more i (drop (suc i) s))
