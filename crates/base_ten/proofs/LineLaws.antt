-- Lines that come in parts: a part without a line feed joins the line that has begun, and with its line feed a line is whole.
use mathlib.Core.Path.{◌≡◌, refl, sym, ap, ◌∙◌}
use mathlib.Core.Bool.{Bool, true, false, cond}
use mathlib.Core.List.{List, [], ◌∷◌, ◌++◌, append_assoc}
use Prim.Native.Nat.{ℕ, zero, suc, ◌<◌}
use native.Mathlib.Omega.{arith}
use lib.Dec.{eqb}
use lib.ListN.{length, take}
use Rattle.base_ten.specs.Bytes.{line_feed, before, split, on_first, lines_of}
use Rattle.base_ten.specs.Lines.{last_line, onto}
use Rattle.base_ten.proofs.WordLaws.{append_none}

-- a line's first bytes, one or more, are a last line
pub last_line_lem : (k : ℕ) (l : List ℕ) → (k ≡ 0 → ⊥) → (length l ≡ 0 → ⊥) → last_line (take k l) ≡ take k l ∷ []
last_line_lem zero l h m = absurd (h refl)
last_line_lem (suc k) [] h m = absurd (m refl)
last_line_lem (suc k) (x ∷ xs) h m = refl

pub onto_none : (ls : List (List ℕ)) → onto [] ls ≡ ls
onto_none [] = refl
onto_none (l ∷ ls) = refl

-- a byte of the rest joins the line that has begun
onto_byte : (begun : List ℕ) (b : ℕ) (ls : List (List ℕ)) → onto begun (on_first b ls) ≡ onto (begun ++ (b ∷ [])) ls
onto_byte begun b (l ∷ ls) = ap (λ (x : List ℕ). x ∷ ls) (sym (append_assoc begun (b ∷ []) l))
onto_byte begun b [] = last begun
  where
    last : (u : List ℕ) → (u ++ (b ∷ [])) ∷ [] ≡ last_line (u ++ (b ∷ []))
    last [] = refl
    last (x ∷ xs) = refl

-- a part without a line feed joins it
pub lines_joined : (begun x rest : List ℕ) → before line_feed x ≡ length x → onto begun (lines_of (x ++ rest)) ≡ onto (begun ++ x) (lines_of rest)
unfolding before split
lines_joined begun [] rest h = ap (λ (u : List ℕ). onto u (lines_of rest)) (sym (append_none begun))
lines_joined begun (b ∷ xs) rest h = go (eqb b line_feed) h (lines_joined (begun ++ (b ∷ [])) xs rest)
  where
    go : (t : Bool)
        → cond t 0 (suc (before line_feed xs)) ≡ suc (length xs)
        → (before line_feed xs ≡ length xs → onto (begun ++ (b ∷ [])) (lines_of (xs ++ rest)) ≡ onto ((begun ++ (b ∷ [])) ++ xs) (lines_of rest))
        → onto begun (cond t ([] ∷ lines_of (xs ++ rest)) (on_first b (lines_of (xs ++ rest)))) ≡ onto (begun ++ (b ∷ xs)) (lines_of rest)
    go true l ih = absurd (never l)
      where
        never : 0 ≡ suc (length xs) → ⊥
        never p = omega arith
    go false l ih =
        onto_byte begun b (lines_of (xs ++ rest))
        ∙ ih (omega arith)
        ∙ ap (λ (u : List ℕ). onto u (lines_of rest)) (append_assoc begun (b ∷ []) xs)

-- up to its line feed a line is whole
pub lines_ended : (x rest : List ℕ) → before line_feed x < length x
    → lines_of (take (suc (before line_feed x)) x ++ rest) ≡ take (before line_feed x) x ∷ lines_of rest
unfolding before split
lines_ended [] rest h = absurd (never h)
  where
    never : 0 < 0 → ⊥
    never p = omega arith
lines_ended (b ∷ xs) rest h = go (eqb b line_feed) refl h (lines_ended xs rest)
  where
    go : (t : Bool) → eqb b line_feed ≡ t
        → cond t 0 (suc (before line_feed xs)) < suc (length xs)
        → (before line_feed xs < length xs → lines_of (take (suc (before line_feed xs)) xs ++ rest) ≡ take (before line_feed xs) xs ∷ lines_of rest)
        → lines_of (take (suc (cond t 0 (suc (before line_feed xs)))) (b ∷ xs) ++ rest) ≡ take (cond t 0 (suc (before line_feed xs))) (b ∷ xs) ∷ lines_of rest
    go true e l ih = rw e
    go false e l ih = rw (e, ih (omega arith))
