-- Splitting at the first byte found: what a search tells of the parts.
use Rattle.std.proofs.Common.{◌≡◌, ℕ, suc, ◌+◌, ◌-◌, ◌<◌, ◌≤◌, zero-le, Bool, true, false, cond, eqb, List, [], ◌∷◌, ◌++◌, length, take, drop, refl, ap, ◌∙◌, add-one, arith, take_all, length-drop, eq-eqb, eqb-true}
use Rattle.base_ten.specs.Bytes.{before, SplitsAt, split, on_first}

pub append_none : (l : List ℕ) → l ++ [] ≡ l
append_none [] = refl
append_none (x ∷ xs) = ap {B = List ℕ} (λ r. x ∷ r) (append_none xs)

pub before_most : (b : ℕ) (s : List ℕ) → before b s ≤ length s
unfolding before
before_most b [] = zero-le
before_most b (x ∷ xs) = go (eqb x b) (before_most b xs)
  where
    go : (t : Bool) → before b xs ≤ length xs → cond t 0 (suc (before b xs)) ≤ suc (length xs)
    go true h = zero-le
    go false h = omega arith

-- what stands before the first b, that b, and what stands behind it
parts_whole : (b : ℕ) (s : List ℕ) → before b s < length s → s ≡ take (before b s) s ++ b ∷ drop (suc (before b s)) s
unfolding before
parts_whole b [] h = absurd (never h)
  where
    never : 0 < 0 → ⊥
    never p = omega arith
parts_whole b (x ∷ xs) h = go (eqb x b) refl h (parts_whole b xs)
  where
    go : (t : Bool) → eqb x b ≡ t
        → cond t 0 (suc (before b xs)) < suc (length xs)
        → (before b xs < length xs → xs ≡ take (before b xs) xs ++ b ∷ drop (suc (before b xs)) xs)
        → x ∷ xs ≡ take (cond t 0 (suc (before b xs))) (x ∷ xs) ++ b ∷ drop (suc (cond t 0 (suc (before b xs)))) (x ∷ xs)
    go true e l ih = ap (λ (y : ℕ). y ∷ xs) (eqb-true x b e)
    go false e l ih = ap (λ (ys : List ℕ). x ∷ ys) (ih (omega arith))

parts_first : (b : ℕ) (s : List ℕ) → before b (take (before b s) s) ≡ length (take (before b s) s)
unfolding before
parts_first b [] = refl
parts_first b (x ∷ xs) = go (eqb x b) refl (parts_first b xs)
  where
    go : (t : Bool) → eqb x b ≡ t
        → before b (take (before b xs) xs) ≡ length (take (before b xs) xs)
        → before b (take (cond t 0 (suc (before b xs))) (x ∷ xs)) ≡ length (take (cond t 0 (suc (before b xs))) (x ∷ xs))
    go true e ih = refl
    go false e ih = rw e (ap suc ih)

pub parts : (b : ℕ) (s : List ℕ) (at : ℕ) → at ≡ before b s → at < length s
    → SplitsAt b s (take at s) (take (length s - (at + 1)) (drop (at + 1) s))
parts b s at e l =
    let rest : take (length s - (at + 1)) (drop (at + 1) s) ≡ drop (at + 1) s = take_all _ _ (omega (arith, length-drop (at + 1) s)) in
    rw (rest, add-one at, e) record { whole = parts_whole b s (omega arith); first = parts_first b s }

-- the parts between the bytes that are b begin with what stands before the first
split_first : (b : ℕ) (none : List (List ℕ)) (l r : List ℕ) → before b l ≡ length l → split b none (l ++ b ∷ r) ≡ l ∷ split b none r
unfolding before split
split_first b none [] r h = rw (eq-eqb b b refl)
split_first b none (x ∷ xs) r h = go (eqb x b) h (split_first b none xs r)
  where
    go : (t : Bool)
        → cond t 0 (suc (before b xs)) ≡ suc (length xs)
        → (before b xs ≡ length xs → split b none (xs ++ b ∷ r) ≡ xs ∷ split b none r)
        → cond t ([] ∷ split b none (xs ++ b ∷ r)) (on_first x (split b none (xs ++ b ∷ r))) ≡ (x ∷ xs) ∷ split b none r
    go true l ih = absurd (never l)
      where
        never : 0 ≡ suc (length xs) → ⊥
        never p = omega arith
    go false l ih = rw (ih (omega arith))

pub split_at : {b : ℕ} {s l r : List ℕ} (none : List (List ℕ)) → SplitsAt b s l r → split b none s ≡ l ∷ split b none r
split_at {b} {s} {l} {r} none p = ap (split b none) p.whole ∙ split_first b none l r p.first

-- without b all is one part
pub split_all : (b : ℕ) (s : List ℕ) → before b s ≡ length s → split b ([] ∷ []) s ≡ s ∷ []
unfolding before split
split_all b [] h = refl
split_all b (x ∷ xs) h = go (eqb x b) h (split_all b xs)
  where
    go : (t : Bool)
        → cond t 0 (suc (before b xs)) ≡ suc (length xs)
        → (before b xs ≡ length xs → split b ([] ∷ []) xs ≡ xs ∷ [])
        → cond t ([] ∷ split b ([] ∷ []) xs) (on_first x (split b ([] ∷ []) xs)) ≡ (x ∷ xs) ∷ []
    go true l ih = absurd (never l)
      where
        never : 0 ≡ suc (length xs) → ⊥
        never p = omega arith
    go false l ih = rw (ih (omega arith))
