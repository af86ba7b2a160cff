-- Calls one after the other, as lists of what each was handed and gave.
use Rattle.std.specs.Prelude.{List, [], ◌∷◌, ◌++◌, ℕ}

-- each call keeps its promise, and is handed the state that the last one left
abbrev pub Linked : {S P : Type 0} → (S → P → Type 0) → (P → S) → S → List P → Type 0
Linked Promise after s [] = Unit {0}
Linked Promise after s (p ∷ ps) = Promise s p × Linked Promise after (after p) ps

-- the state after the last
abbrev pub last_of : {S P : Type 0} → (P → S) → S → List P → S
last_of after s [] = s
last_of after s (p ∷ ps) = last_of after (after p) ps

-- the bytes of each, joined
abbrev pub joined : {P : Type 0} → (P → List ℕ) → List P → List ℕ
joined bytes [] = []
joined bytes (p ∷ ps) = bytes p ++ joined bytes ps
