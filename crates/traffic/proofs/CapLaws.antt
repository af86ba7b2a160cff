-- An input of more than 80 bytes is no workload: three numbers of that length together would be too large. So its first 81 bytes tell the workload.
use Rattle.std.proofs.Common.{◌≡◌, ℕ, suc, ◌+◌, ◌-◌, ◌*◌, ◌^◌, ◌<◌, ◌≤◌, Bool, true, false, cond, ◌&&◌, eqb, ltb, leb, List, [], ◌∷◌, length, take, sym, refl, ap, ◌∙◌, zero-le, arith, length-take-le, take_all, ltb-false, ltb-true, leb-false, leb-true, Option, Some, None}
use borrow.Author.Tests.{eqb-false}
use Rattle.base_ten.specs.Bytes.{digit_zero, digit_nine, line_feed, space, on_first, split, lines_of, words_of}
use Rattle.base_ten.specs.Numbers.{number_from, zero_alone, number_of}
use Rattle.base_ten.proofs.NumberLaws.{grown, grown_larger, grown_longer, number_high}
use Rattle.line_text.specs.Requests.{most_bytes}
use Rattle.line_text.specs.Kept.{kept_bytes}
use Rattle.traffic.specs.Workload.{most_seed, most_count, if_all, by_words, by_lines, workload_of}

-- more than ten digits without leading zeros are a number of 10,000,000,000 or more
abbrev longest : ℕ
longest = 10

digits_high : (most d : ℕ) (ds : List ℕ) → most < 10 ^ longest → longest ≤ length ds → (d ≡ digit_zero → ⊥) → number_from most 0 (d ∷ ds) ≡ None
unfolding number_from
digits_high most d ds small long other = go (leb digit_zero d) refl (leb d digit_nine)
  where
    high : digit_zero ≤ d → most < grown (length ds) (10 * 0 + (d - digit_zero))
    high low =
        let one = grown_longer longest (length ds) 1 long in
        let more = grown_larger (length ds) 1 (10 * 0 + (d - digit_zero)) (omega arith) in
        omega (arith, one, more)

    go : (t : Bool) → leb digit_zero d ≡ t → (u : Bool) → cond (t && u) (number_from most (10 * 0 + (d - digit_zero)) ds) None ≡ None
    go true e true = number_high most (10 * 0 + (d - digit_zero)) ds (high (leb-true digit_zero d e))
    go true e false = refl
    go false e u = refl

number_long : (most : ℕ) (s : List ℕ) → most < 10 ^ longest → longest < length s → number_of most s ≡ None
unfolding number_of
number_long most [] small long = refl
number_long most (d ∷ ds) small long = go (eqb d digit_zero) refl
  where
    alone : (xs : List ℕ) → longest < suc (length xs) → zero_alone xs ≡ None
    alone [] h = absurd (never h)
      where
        never : longest < 1 → ⊥
        never p = omega arith
    alone (x ∷ xs) h = refl

    go : (t : Bool) → eqb d digit_zero ≡ t → cond t (zero_alone ds) (number_from most 0 (d ∷ ds)) ≡ None
    go true e = alone ds long
    go false e = digits_high most d ds small (omega arith) (eqb-false d digit_zero e)

-- one number that is missing is enough
second_missing : (x z : Option ℕ) → if_all x None z ≡ None
second_missing (Some x) z = refl
second_missing None z = refl

third_missing : (x y : Option ℕ) → if_all x y None ≡ None
third_missing (Some x) (Some y) = refl
third_missing (Some x) None = refl
third_missing None y = refl

three_long : (a b d : List ℕ) → 3 * longest < length a + length b + length d
    → if_all (number_of most_seed a) (number_of most_count b) (number_of most_count d) ≡ None
three_long a b d h = go (ltb longest (length a)) refl (ltb longest (length b)) refl
  where
    go : (t : Bool) → ltb longest (length a) ≡ t → (u : Bool) → ltb longest (length b) ≡ u
        → if_all (number_of most_seed a) (number_of most_count b) (number_of most_count d) ≡ None
    go true e u f = rw (number_long most_seed a (omega arith) (ltb-true longest (length a) e))
    go false e true f = rw (number_long most_count b (omega arith) (ltb-true longest (length b) f)) (second_missing (number_of most_seed a) (number_of most_count d))
    go false e false f =
        let la = ltb-false longest (length a) e in
        let lb = ltb-false longest (length b) f in
        rw (number_long most_count d (omega arith) (omega arith)) (third_missing (number_of most_seed a) (number_of most_count b))

-- no part of an input is lost in its lines or words
abbrev spread : List (List ℕ) → ℕ
spread [] = 0
spread (w ∷ ws) = suc (length w) + spread ws

split_spread : (b : ℕ) (none : List (List ℕ)) (s : List ℕ) → length s ≤ spread (split b none s)
unfolding split
split_spread b none [] = zero-le
split_spread b none (x ∷ xs) = go (eqb x b) (split b none xs) (split_spread b none xs)
  where
    go : (t : Bool) (rest : List (List ℕ)) → length xs ≤ spread rest → suc (length xs) ≤ spread (cond t ([] ∷ rest) (on_first x rest))
    go true rest h = omega arith
    go false [] h = omega arith
    go false (p ∷ ps) h = omega arith

words_long : (ws : List (List ℕ)) → most_bytes ≤ spread ws → by_words ws ≡ None
unfolding by_words
words_long [] h = refl
words_long (a ∷ []) h = refl
words_long (a ∷ b ∷ []) h = refl
words_long (a ∷ b ∷ d ∷ []) h = three_long a b d (omega arith)
words_long (a ∷ b ∷ d ∷ e ∷ ws) h = refl

lines_long : (ls : List (List ℕ)) → most_bytes < spread ls → by_lines ls ≡ None
unfolding by_lines
lines_long [] h = refl
lines_long (l ∷ []) h = words_long (words_of l) (omega (arith, split_spread space ([] ∷ []) l))
lines_long (l ∷ m ∷ ls) h = refl

input_long : (s : List ℕ) → most_bytes < length s → workload_of s ≡ None
unfolding workload_of
input_long s h = lines_long (lines_of s) (omega (arith, split_spread line_feed [] s))

pub workload_capped : (s : List ℕ) → workload_of (take kept_bytes s) ≡ workload_of s
workload_capped s = go (leb (length s) kept_bytes) refl
  where
    go : (t : Bool) → leb (length s) kept_bytes ≡ t → workload_of (take kept_bytes s) ≡ workload_of s
    go true e = ap workload_of (take_all kept_bytes s (leb-true (length s) kept_bytes e))
    go false e =
        let long = leb-false (length s) kept_bytes e in
        let kept : length (take kept_bytes s) ≡ kept_bytes = length-take-le kept_bytes s (omega arith) in
        input_long (take kept_bytes s) (omega arith) ∙ sym (input_long s (omega arith))
