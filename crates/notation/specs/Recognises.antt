-- What parsing and printing have to do with the grammar. The proofs are in proofs/Theorems.
use Rattle.std.specs.Prelude.{◌≡◌, ◌↔◌, false, List, ℕ}
use Rattle.notation.specs.Trees.{Tree, Values}
use Rattle.notation.specs.Grammar.{InNotation}
use Rattle.notation.specs.Parse.{parse, tree}
use Rattle.notation.specs.Print.{print}
use Rattle.notation.specs.Brackets.{too_deep}

-- a text parses to a tree exactly if the grammar gives it that meaning
abbrev pub Recognises : Type 0
Recognises = (text : List ℕ) (t : Tree) → (parse text ≡ tree t) ↔ InNotation text t

-- parsing undoes printing
abbrev pub ParsesPrinted : Type 0
ParsesPrinted = (t : Tree) → Values t → parse (print t) ≡ tree t

-- what a text means has only values that the notation has
abbrev pub ValuesRead : Type 0
ValuesRead = (text : List ℕ) (t : Tree) → parse text ≡ tree t → Values t

-- the grammar gives a text one meaning at most
abbrev pub OneMeaning : Type 0
OneMeaning = (text : List ℕ) (t u : Tree) → InNotation text t → InNotation text u → t ≡ u

-- printing opens no more brackets together than any other text of the same tree
abbrev pub PrintsShallow : Type 0
PrintsShallow = (text : List ℕ) (t : Tree) → parse text ≡ tree t → too_deep 0 text ≡ false → too_deep 0 (print t) ≡ false
