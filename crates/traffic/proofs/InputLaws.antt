-- What the parser's tests tell of the workload, and why an input's first bytes are enough.
use Rattle.std.proofs.Common.{◌≡◌, ℕ, suc, ◌<◌, ◌≤◌, Bool, true, false, cond, eqb, List, [], ◌∷◌, Option, None, length, sym, refl, ap, ◌∙◌, arith}
use Rattle.base_ten.specs.Bytes.{line_feed, space, before, SplitsAt, on_first, split, lines_of, words_of}
use Rattle.base_ten.specs.Lines.{last_line, onto}
use Rattle.base_ten.specs.Numbers.{number_of}
use Rattle.base_ten.proofs.WordLaws.{append_none, split_all, split_at}
use Rattle.base_ten.proofs.LineLaws.{onto_none, lines_joined}
use Rattle.line_text.proofs.RequestLaws.{some_word}
use Rattle.traffic.specs.Workload.{most_seed, most_count, if_all, by_words, by_lines, workload_of}

-- the words of what has no space
module _ (s : List ℕ) (h : before space s ≡ length s) where
  pub one_word : None ≡ by_words (words_of s)
  unfolding by_words
  one_word = rw (split_all space s h)

  pub two_words : (a : List ℕ) → None ≡ by_words (a ∷ words_of s)
  unfolding by_words
  two_words a = rw (split_all space s h)

  pub three_words : (a b : List ℕ) → by_words (a ∷ b ∷ s ∷ []) ≡ by_words (a ∷ b ∷ words_of s)
  three_words a b = rw (split_all space s h)

-- and of what has one
module _ {s l r : List ℕ} (p : SplitsAt space s l r) where
  pub four_words : (a b : List ℕ) → None ≡ by_words (a ∷ b ∷ words_of s)
  unfolding by_words
  four_words a b = let w = some_word r in rw (split_at ([] ∷ []) p, w.2)

  pub more_words : by_words (l ∷ words_of r) ≡ by_words (words_of s)
  more_words = rw (split_at ([] ∷ []) p)

  pub more_words_after : (a : List ℕ) → by_words (a ∷ l ∷ words_of r) ≡ by_words (a ∷ words_of s)
  more_words_after a = rw (split_at ([] ∷ []) p)

-- the three words as numbers
pub all_numbers : (a b d : List ℕ) {x y z : Option ℕ} → x ≡ number_of most_seed a → y ≡ number_of most_count b → z ≡ number_of most_count d
    → if_all x y z ≡ by_words (a ∷ b ∷ d ∷ [])
unfolding by_words
all_numbers a b d ex ey ez = rw (ex, ey, ez)

-- lines, by the place of the first line feed
line_alone : (s : List ℕ) → before line_feed s ≡ length s → lines_of s ≡ last_line s
unfolding split
line_alone s h = sym (onto_none (lines_of s)) ∙ ap (λ (x : List ℕ). onto [] (lines_of x)) (sym (append_none s)) ∙ lines_joined [] s [] h

some_line : (s : List ℕ) → 0 < length s → (w : List ℕ) × (ws : List (List ℕ)) × (lines_of s ≡ w ∷ ws)
unfolding split
some_line [] h = absurd (never h)
  where
    never : 0 < 0 → ⊥
    never p = omega arith
some_line (x ∷ xs) h = go (eqb x line_feed) (lines_of xs)
  where
    go : (t : Bool) (rest : List (List ℕ)) → (w : List ℕ) × (ws : List (List ℕ)) × (cond t ([] ∷ rest) (on_first x rest) ≡ w ∷ ws)
    go true rest = ([], rest, refl)
    go false [] = (x ∷ [], [], refl)
    go false (p ∷ ps) = (x ∷ p, ps, refl)

-- something follows the first line feed
pub more_lines : {s l r : List ℕ} → SplitsAt line_feed s l r → 0 < length r → None ≡ workload_of s
unfolding workload_of by_lines
more_lines {r = r} p h = let w = some_line r h in rw (split_at [] p, w.2)

-- all is one line without a line feed
pub whole_line : (s : List ℕ) → before line_feed s ≡ length s → by_words (words_of s) ≡ workload_of s
unfolding split by_words by_lines workload_of
whole_line [] h = refl
whole_line (x ∷ xs) h = sym (ap by_lines (line_alone (x ∷ xs) h))

pub fed_line : {s l : List ℕ} (r : List ℕ) → SplitsAt line_feed s l r → length r ≤ 0 → by_words (words_of l) ≡ workload_of s
unfolding split by_lines workload_of
fed_line [] p h = rw (split_at [] p)
fed_line (x ∷ xs) p h = absurd (never h)
  where
    never : suc (length xs) ≤ 0 → ⊥
    never p = omega arith
