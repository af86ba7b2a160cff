-- A stack that is taller than the marks left can't be brought down, and a text has no more marks than bytes.
use mathlib.Core.Path.{◌≡◌, refl}
use mathlib.Core.Bool.{Bool, true, false, cond}
use mathlib.Core.List.{List, [], ◌∷◌, ◌++◌}
use Prim.Native.Nat.{ℕ, suc, ◌+◌, ◌≤◌, ◌<◌}
use native.Mathlib.Omega.{arith}
use lib.Dec.{eqb}
use lib.ListN.{length, length-append}
use Rattle.base_ten.specs.Bytes.{space}
use Rattle.base_ten.specs.Numbers.{is_digit}
use Rattle.notation.specs.Trees.{Tree}
use Rattle.notation.specs.Grammar.{open_byte, close_byte, dot_byte, opening, closing, dot, number}
use Rattle.notation.specs.Parse.{Mark, token, foreign, with_digits, with_byte, marks_after, marks_of}
use Rattle.notation.specs.Parse.{Frame, plain, dotted, full, State, within, outside, deliver, close_list, dot_list, next, parsed_from, none, tree_of}

-- more than n lists are open, the text itself counted
abbrev Tall : ℕ → State → Type 0
Tall n (within fs) = n < length fs
Tall n outside = Unit {0}

tall_deliver : (n : ℕ) (t : Tree) (fs : List Frame) → n < length fs → Tall n (deliver t fs)
tall_deliver n t [] h = tt
tall_deliver n t (plain es ∷ fs) h = h
tall_deliver n t (dotted es ∷ fs) h = h
tall_deliver n t (full es l ∷ fs) h = tt

-- a mark ends at most one list
tall_next : (n : ℕ) (m : Mark) (s : State) → Tall (suc n) s → Tall n (next m s)
tall_next n m outside h = tt
tall_next n foreign (within fs) h = tt
tall_next n (token opening) (within fs) h = omega arith
tall_next n (token closing) (within fs) h = closes fs h
  where
    closes : (fs : List Frame) → suc n < length fs → Tall n (close_list fs)
    closes [] l = tt
    closes (f ∷ []) l = tt
    closes (plain es ∷ f ∷ gs) l = tall_deliver n _ (f ∷ gs) (omega arith)
    closes (dotted es ∷ f ∷ gs) l = tt
    closes (full es u ∷ f ∷ gs) l = tall_deliver n _ (f ∷ gs) (omega arith)
tall_next n (token dot) (within fs) h = dots fs h
  where
    dots : (fs : List Frame) → suc n < length fs → Tall n (dot_list fs)
    dots [] l = tt
    dots (plain [] ∷ gs) l = tt
    dots (plain (e ∷ es) ∷ gs) l = omega arith
    dots (dotted es ∷ gs) l = tt
    dots (full es u ∷ gs) l = tt
tall_next n (token (number v)) (within fs) h = tall_deliver n _ fs (omega arith)

tall_tree : (s : State) → Tall 1 s → tree_of s ≡ none
tall_tree outside h = refl
tall_tree (within []) h = refl
tall_tree (within (plain es ∷ fs)) h = refl
tall_tree (within (dotted es ∷ fs)) h = refl
tall_tree (within (full es t ∷ [])) h = absurd (never h)
  where
    never : 1 < 1 → ⊥
    never p = omega arith
tall_tree (within (full es t ∷ f ∷ fs)) h = refl

tall_parsed : (s : State) (ms : List Mark) → Tall (suc (length ms)) s → tree_of (parsed_from s ms) ≡ none
unfolding parsed_from
tall_parsed s [] h = tall_tree s h
tall_parsed s (m ∷ ms) h = tall_parsed (next m s) ms (tall_next (suc (length ms)) m s h)

pub too_tall : (fs : List Frame) (ms : List Mark) → length ms + 1 < length fs → tree_of (parsed_from (within fs) ms) ≡ none
too_tall fs ms h = tall_parsed (within fs) ms (omega arith)

-- what is outside the notation stays so
pub stays_outside : (ms : List Mark) → tree_of (parsed_from outside ms) ≡ none
stays_outside ms = tall_parsed outside ms tt

digits_short : (ds : List ℕ) (ms : List Mark) → length (with_digits ds ms) ≤ length ds + length ms
digits_short [] ms = omega arith
digits_short (d ∷ ds) ms = omega arith

byte_short : (b : ℕ) (ms : List Mark) → length (with_byte b ms) ≤ suc (length ms)
unfolding with_byte
byte_short b ms = go (eqb b space) (eqb b open_byte) (eqb b close_byte) (eqb b dot_byte)
  where
    go : (p q r s : Bool)
        → length (cond p ms (cond q (token opening ∷ ms) (cond r (token closing ∷ ms) (cond s (token dot ∷ ms) (foreign ∷ ms))))) ≤ suc (length ms)
    go true q r s = omega arith
    go false true r s = omega arith
    go false false true s = omega arith
    go false false false true = omega arith
    go false false false false = omega arith

pub marks_after_short : (ds text : List ℕ) → length (marks_after ds text) ≤ length ds + length text
unfolding marks_after
marks_after_short ds [] = digits_short ds []
marks_after_short ds (b ∷ bs) = go (is_digit b) (marks_after_short (ds ++ (b ∷ [])) bs) (marks_after_short [] bs)
  where
    go : (t : Bool)
        → length (marks_after (ds ++ (b ∷ [])) bs) ≤ length (ds ++ (b ∷ [])) + length bs
        → length (marks_after [] bs) ≤ 0 + length bs
        → length (cond t (marks_after (ds ++ (b ∷ [])) bs) (with_digits ds (with_byte b (marks_after [] bs)))) ≤ length ds + suc (length bs)
    go true h l = omega (arith, length-append ds (b ∷ []))
    go false h l = omega (arith, digits_short ds (with_byte b (marks_after [] bs)), byte_short b (marks_after [] bs))

pub marks_short : (text : List ℕ) → length (marks_of text) ≤ length text
marks_short text = omega (arith, marks_after_short [] text)
