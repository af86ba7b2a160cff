-- What each test of the parser tells of the request.
use Rattle.std.proofs.Common.{◌≡◌, ◌==◌, ◌&&◌, ap, suc, ◌+◌, get_or, drop, drop_of_length-le, eq-eqb, ne_eqb, ℕ, ◌<◌, ◌≤◌, Bool, true, false, cond, eqb, List, [], ◌∷◌, Option, Some, None, length, refl, le-leb}
use borrow.Author.Tests.{lt-leb}
use Rattle.std.specs.Str.{bytes_eq}
use Rattle.std.proofs.lemmas.Slice.Eq.{bytes_eq-Decides}
use Rattle.base_ten.specs.Bytes.{ascii, before, SplitsAt, on_first, split, words_of, space}
use Rattle.base_ten.proofs.ByteLaws.{drop_at}
use Rattle.base_ten.proofs.WordLaws.{split_all, split_at}
use Rattle.line_text.specs.declared.Request.{Request}
use Rattle.line_text.specs.Requests.{operand_of, with_none, if_one, if_both, by_words, request_of, most_bytes}

-- the sameness of two runs, place by place
pub same_lengths : (u v : List ℕ) → (length u ≡ length v → ⊥) → bytes_eq u v ≡ false
same_lengths [] [] h = absurd (h refl)
same_lengths [] (y ∷ v) h = refl
same_lengths (x ∷ u) [] h = refl
same_lengths (x ∷ u) (y ∷ v) h = rw (same_lengths u v (λ e. h (ap suc e))) (and-false (x == y))
  where
    and-false : (b : Bool) → (b && false) ≡ false
    and-false true = refl
    and-false false = refl

module _ (a b : List ℕ) (i : ℕ) where
  pub same_step : i < length a → i < length b → get_or a i 0 ≡ get_or b i 0 → bytes_eq (drop i a) (drop i b) ≡ bytes_eq (drop (i + 1) a) (drop (i + 1) b)
  same_step ha hb e =
      rw (drop_at a i ha, drop_at b i hb) (ap (λ (t : Bool). t && bytes_eq (drop (i + 1) a) (drop (i + 1) b)) (eq-eqb (get_or a i 0) (get_or b i 0) e))

  pub same_differ : i < length a → i < length b → (get_or a i 0 ≡ get_or b i 0 → ⊥) → bytes_eq (drop i a) (drop i b) ≡ false
  same_differ ha hb e =
      rw (drop_at a i ha, drop_at b i hb) (ap (λ (t : Bool). t && bytes_eq (drop (i + 1) a) (drop (i + 1) b)) (ne_eqb (get_or a i 0) (get_or b i 0) e))

  pub same_end : length a ≤ i → length b ≤ i → bytes_eq (drop i a) (drop i b) ≡ true
  same_end ha hb = rw (drop_of_length-le a ha, drop_of_length-le b hb)

-- a split has a part
pub some_word : (s : List ℕ) → (w : List ℕ) × (ws : List (List ℕ)) × (words_of s ≡ w ∷ ws)
unfolding split
some_word [] = ([], [], refl)
some_word (x ∷ xs) = go (eqb x space) (some_word xs)
  where
    go : (t : Bool) → (w : List ℕ) × (ws : List (List ℕ)) × (split space ([] ∷ []) xs ≡ w ∷ ws)
        → (w : List ℕ) × (ws : List (List ℕ)) × (cond t ([] ∷ split space ([] ∷ []) xs) (on_first x (split space ([] ∷ []) xs)) ≡ w ∷ ws)
    go true r = ([], split space ([] ∷ []) xs, refl)
    go false r = (x ∷ r.0, r.1, rw r.2)

-- with a space behind a second operand
pub too_many_lem : (k a : List ℕ) {s l r : List ℕ} → SplitsAt space s l r → None ≡ by_words (k ∷ a ∷ words_of s)
unfolding by_words
too_many_lem k a {r = r} p = let w = some_word r in rw (split_at ([] ∷ []) p, w.2)

pub line_long : (s : List ℕ) → most_bytes < length s → None ≡ request_of s
unfolding request_of
line_long s h = rw (lt-leb (length s) most_bytes h)

pub line_short : (s : List ℕ) → length s ≤ most_bytes → by_words (words_of s) ≡ request_of s
unfolding request_of
line_short s h = rw (le-leb (length s) most_bytes h)

pub one_word : (k s : List ℕ) {a : Option ℕ} → a ≡ operand_of s → before space s ≡ length s → if_one k a ≡ by_words (k ∷ words_of s)
unfolding by_words
one_word k s ea h = rw (split_all space s h, ea)

pub both_words : (k u s : List ℕ) {a b : Option ℕ} → a ≡ operand_of u → b ≡ operand_of s → before space s ≡ length s
    → if_both k a b ≡ by_words (k ∷ u ∷ words_of s)
unfolding by_words
both_words k u s ea eb h = rw (split_all space s h, ea, eb)

-- the one call that is a word alone
pub alone_step : (s : List ℕ) → bytes_eq s (ascii "step") ≡ true → Some Request.Step ≡ request_of s
unfolding split with_none by_words request_of
alone_step s h = rw ((bytes_eq-Decides s (ascii "step")).0 h)

pub alone_bad : (s : List ℕ) → before space s ≡ length s → length s ≤ most_bytes → bytes_eq s (ascii "step") ≡ false → None ≡ request_of s
unfolding with_none by_words
alone_bad s h l other = rw (← line_short s l, split_all space s h, other)

pub more_words : (k : List ℕ) {s l r : List ℕ} → SplitsAt space s l r → by_words (k ∷ l ∷ words_of r) ≡ by_words (k ∷ words_of s)
more_words k p = rw (split_at ([] ∷ []) p)

pub with_words : {s l r : List ℕ} → SplitsAt space s l r → length s ≤ most_bytes → by_words (l ∷ words_of r) ≡ request_of s
with_words {s} p m = rw (← line_short s m, split_at ([] ∷ []) p)
