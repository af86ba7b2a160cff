-- What the text of a word has to do with the tree that it opens out into. The proofs are in proofs/TextLaws.
use Rattle.std.specs.Prelude.{◌≡◌, List, ℕ, suc, ◌≤◌}
use Rattle.notation.specs.Trees.{Tree, Values}
use Rattle.notation.specs.Print.{print}
use Rattle.notation.specs.Brackets.{nothing, first_met}
use Rattle.machine.specs.Texts.{OpensOut, opened, text_for}

-- A tree opened further than there is room tells nothing else: the same is met first, and where nothing is met, the text is the same.
pub record EnoughOpened (room n : ℕ) (t : List ℕ) (w : ℕ) : Type 0 where
  pub met : first_met room 0 (print (opened n t w)) ≡ first_met room 0 (text_for room t w)
  pub text : first_met room 0 (print (opened n t w)) ≡ nothing → print (opened n t w) ≡ text_for room t w

abbrev pub OpenedEnough : Type 0
OpenedEnough = (room n : ℕ) (t : List ℕ) (w : ℕ) → suc room ≤ n → EnoughOpened room n t w

-- where nothing is met, the word opens out into the tree whose text it is
abbrev pub WholeTree : Type 0
WholeTree = (room : ℕ) (t : List ℕ) (w : ℕ) → first_met room 0 (text_for room t w) ≡ nothing → OpensOut t w (opened (suc room) t w)

-- a word opens out into one tree at most
abbrev pub OneTree : Type 0
OneTree = (t : List ℕ) (w : ℕ) (a b : Tree) → OpensOut t w a → OpensOut t w b → a ≡ b

-- a tree that fits is what is written
abbrev pub PrintedWhole : Type 0
PrintedWhole = (room : ℕ) (t : List ℕ) (w : ℕ) (tree : Tree) → OpensOut t w tree → first_met room 0 (print tree) ≡ nothing → text_for room t w ≡ print tree

-- the values of its atoms are in the notation, whatever the table holds
abbrev pub OpenedValues : Type 0
OpenedValues = (n : ℕ) (t : List ℕ) (w : ℕ) → Values (opened n t w)
