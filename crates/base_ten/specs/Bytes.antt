-- Lists of bytes: texts as bytes, and splitting at a byte.
use Rattle.std.specs.Prelude.{◌≡◌, cond, List, [], ◌∷◌, ◌++◌, ℕ, suc, eqb, length}
use Prim.Native.Char.{code}
use Prim.Native.String.{String, [] as end, ◌∷◌ as ◌then◌}

abbrev pub line_feed : ℕ
line_feed = 10

abbrev pub space : ℕ
space = 32

-- the digits 0 and 9
abbrev pub digit_zero : ℕ
digit_zero = 48

abbrev pub digit_nine : ℕ
digit_nine = 57

-- a text of ASCII as its bytes
abbrev pub ascii : String → List ℕ
ascii end = []
ascii (◌then◌ c s) = code c ∷ ascii s

-- how many bytes stand before the first b
unfoldable pub before : ℕ → List ℕ → ℕ
before b [] = 0
before b (x ∷ xs) = cond (eqb x b) 0 (suc (before b xs))

-- s is one part, its first b, and another part
pub record SplitsAt (b : ℕ) (s left right : List ℕ) : Type 0 where
  pub whole : s ≡ left ++ b ∷ right
  pub first : before b left ≡ length left

-- a byte in front of the first part
abbrev pub on_first : ℕ → List (List ℕ) → List (List ℕ)
on_first b [] = (b ∷ []) ∷ []
on_first b (p ∷ ps) = (b ∷ p) ∷ ps

-- the parts between the bytes that are b; `none` is what an empty rest gives
unfoldable pub split : ℕ → List (List ℕ) → List ℕ → List (List ℕ)
split b none [] = none
split b none (x ∷ xs) = let rest = split b none xs in cond (eqb x b) ([] ∷ rest) (on_first x rest)

-- a line ends at a line feed, which the last one may lack; nothing after the last line feed is no line
abbrev pub lines_of : List ℕ → List (List ℕ)
lines_of input = split line_feed [] input

-- words are parted by single spaces; nothing after a space is an empty word
abbrev pub words_of : List ℕ → List (List ℕ)
words_of line = split space ([] ∷ []) line
