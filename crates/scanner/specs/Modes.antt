-- A stack of modes, each a digit from 0 to 3, in words of 64 bits: 32 modes a word, two bits each, the last pushed on top.
use Rattle.std.specs.Prelude.{◌≡◌, List, [], ◌∷◌, ℕ, zero, suc, ◌+◌, ◌-◌, ◌/◌, ◌%◌, length, get_or, set}
use Rattle.scanner.specs.declared.modes.Mode.{Mode}

abbrev pub digit : Mode → ℕ
digit Mode.Empty = 0
digit Mode.Started = 1
digit Mode.Dotted = 2
digit Mode.Full = 3

abbrev pub in_word : ℕ
in_word = 32

abbrev pub words_of_modes : ℕ
words_of_modes = 64

abbrev pub most_modes : ℕ
most_modes = 2048

-- without the mode that stands on n others
unfoldable pub popped : ℕ → List ℕ → List ℕ
popped n words = set words (n / in_word) (get_or words (n / in_word) 0 / 4)

-- so many modes, the top one first
unfoldable pub unstacked : ℕ → List ℕ → List ℕ
unstacked zero words = []
unstacked (suc n) words = get_or words (n / in_word) 0 % 4 ∷ unstacked n (popped n words)

-- the words have nothing but so many modes
unfoldable pub Stacked : ℕ → List ℕ → Type 0
Stacked zero words = (length words ≡ words_of_modes) × ((k : ℕ) → get_or words k 0 ≡ 0)
Stacked (suc n) words = Stacked n (popped n words)

-- a mode put on n others
pub record Pushed (n mode : ℕ) (old new : List ℕ) : Type 0 where
  pub modes : unstacked (n + 1) new ≡ mode ∷ unstacked n old
  pub stacked : Stacked (n + 1) new

-- a mode taken from n
pub record Popped (n mode : ℕ) (old new : List ℕ) : Type 0 where
  pub modes : unstacked n old ≡ mode ∷ unstacked (n - 1) new
  pub stacked : Stacked (n - 1) new
