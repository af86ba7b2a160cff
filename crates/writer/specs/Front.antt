-- The questions before a text is written that do not look at the text.
use Rattle.std.specs.Prelude.{List, [], ◌∷◌, ℕ}
use Rattle.machine.specs.declared.Queue.{Queue}
use Rattle.machine.specs.Queue.{waiting}
use Rattle.machine.specs.Questions.{Question, ask, in_range, words_legal, word_held}

-- 1, 4 and 6
unfoldable pub front : List ℕ → Queue → ℕ → List Question
front t q w = ask 1 (in_range t q) ∷ ask 4 (words_legal t (w ∷ [])) ∷ ask 6 (word_held t (waiting q) w) ∷ []
