-- Keeping a line's first bytes, at most so many.
use mathlib.Core.Path.{◌≡◌, refl, sym, ap, ◌∙◌}
use mathlib.Core.List.{List, [], ◌∷◌, ◌++◌}
use Prim.Native.Nat.{ℕ, zero, suc, ◌+◌, ◌-◌, ◌≤◌, ◌<◌, min}
use native.Mathlib.Nat.{zero-min, min-zero, suc-min-suc}
use native.Mathlib.Omega.{arith}
use lib.ListN.{length, take, drop, get_or, set, length-drop}
use lib.Seq.{take_all, take-append-add, length-take-le}
use Rattle.base_ten.proofs.PutLaws.{word_step}

-- what a part from a place to the end holds
pub last_part : (s : List ℕ) (n : ℕ) → take (length s - n) (drop n s) ≡ drop n s
last_part s n = take_all (length s - n) (drop n s) (omega (arith, length-drop n s))

pub last_part_length : (s : List ℕ) (n : ℕ) → length (take (length s - n) (drop n s)) ≡ length s - n
last_part_length s n = ap length (last_part s n) ∙ length-drop n s

-- no more is taken than there is
pub take_cap : (n : ℕ) (l : List ℕ) → take n l ≡ take (min n (length l)) l
take_cap zero l = rw (zero-min (length l))
take_cap (suc n) [] = rw (min-zero (suc n))
take_cap (suc n) (x ∷ xs) = rw (suc-min-suc n (length xs)) (ap {B = List ℕ} (λ r. x ∷ r) (take_cap n xs))

module _ (most : ℕ) (line new part : List ℕ) (held i : ℕ) {m n : ℕ}
    (em : m ≡ min held most) (l : length line ≡ most) (en : n ≡ m + i) (fits : m + i ≤ most)
    (e : take (m + i) new ≡ take m line ++ take i part) where
  -- what is kept is the front of the line that the part makes longer
  from_front : take i part ≡ take (most - m) part → take n new ≡ take most (take held line ++ part)
  from_front h =
      let lm : length (take m line) ≡ m = length-take-le m line (omega arith) in
      let all : length (take m line) + (most - m) ≡ most = omega arith in
      let capped : min held (length line) ≡ m = rw (l, em) refl in
      ap (λ (k : ℕ). take k new) en
      ∙ e
      ∙ ap (λ (x : List ℕ). take m line ++ x) h
      ∙ sym (take-append-add (take m line) part (most - m))
      ∙ ap (λ (k : ℕ). take k (take m line ++ part)) all
      ∙ ap (λ (x : List ℕ). take most (x ++ part)) (sym (take_cap held line ∙ ap (λ (k : ℕ). take k line) capped))

  pub kept_full : most ≤ m + i → take n new ≡ take most (take held line ++ part)
  kept_full h = let k : i ≡ most - m = omega arith in from_front (ap (λ (x : ℕ). take x part) k)

  pub kept_all : length part ≤ i → take n new ≡ take most (take held line ++ part)
  kept_all h = from_front (take_all i part h ∙ sym (take_all (most - m) part (omega arith)))

-- one byte more
pub kept_more : (line new part : List ℕ) (m i : ℕ) {n : ℕ} → n ≡ m + i → i < length part → n < length new
    → take (m + i) new ≡ take m line ++ take i part
    → take (m + (i + 1)) (set new n (get_or part i 0)) ≡ take m line ++ take (i + 1) part
kept_more line new part m i en hp hn e =
    ap (λ (k : ℕ). take (m + (i + 1)) (set new k (get_or part i 0))) en ∙ word_step line new part m i hp (omega arith) e
