-- Two lists of calls, one after the other, are one.
use mathlib.Core.Path.{◌≡◌, refl, sym, ap, ◌∙◌}
use mathlib.Core.List.{List, [], ◌∷◌, ◌++◌, append_assoc}
use Prim.Native.Nat.{ℕ}
use Rattle.serving.specs.Chain.{Linked, last_of, joined}

pub linked_both : {S P : Type 0} (Promise : S → P → Type 0) (after : P → S) (s : S) (ps qs : List P)
    → Linked Promise after s ps → Linked Promise after (last_of after s ps) qs → Linked Promise after s (ps ++ qs)
linked_both Promise after s [] qs f g = g
linked_both Promise after s (p ∷ ps) qs f g = (f.0, linked_both Promise after (after p) ps qs f.1 g)

pub last_both : {S P : Type 0} (after : P → S) (s : S) (ps qs : List P) → last_of after s (ps ++ qs) ≡ last_of after (last_of after s ps) qs
last_both after s [] qs = refl
last_both after s (p ∷ ps) qs = last_both after (after p) ps qs

pub joined_both : {P : Type 0} (bytes : P → List ℕ) (ps qs : List P) → joined bytes (ps ++ qs) ≡ joined bytes ps ++ joined bytes qs
joined_both bytes [] qs = refl
joined_both bytes (p ∷ ps) qs =
    ap (λ (x : List ℕ). bytes p ++ x) (joined_both bytes ps qs) ∙ sym (append_assoc (bytes p) (joined bytes ps) (joined bytes qs))
