-- The largest value of an atom, by the marks of a text.
use mathlib.Core.Path.{◌≡◌, refl, ap, ◌∙◌}
use mathlib.Core.List.{List, [], ◌∷◌, map}
use Prim.Native.Nat.{ℕ, max}
use Rattle.notation.specs.Trees.{Tree, largest}
use Rattle.notation.specs.Grammar.{Token, opening, closing, dot, number}
use Rattle.notation.specs.Parse.{token, marks_of, parse, tree}
use Rattle.notation.proofs.MarkLaws.{spelled}
use Rattle.notation.proofs.LargestLaws.{largest_token, datum_largest}
use Rattle.notation.proofs.Theorems.{recognises}
use Rattle.scanner.specs.Scanning.{largest_mark}

mark_largest : (ts : List Token) → largest_mark (map token ts) ≡ largest_token ts
mark_largest [] = refl
mark_largest (opening ∷ ts) = mark_largest ts
mark_largest (closing ∷ ts) = mark_largest ts
mark_largest (dot ∷ ts) = mark_largest ts
mark_largest (number v ∷ ts) = ap (max v) (mark_largest ts)

pub text_largest : (text : List ℕ) (t : Tree) → parse text ≡ tree t → largest_mark (marks_of text) ≡ largest t
text_largest text t e =
    let n = (recognises text t).0 e in
    ap largest_mark (spelled n.spells) ∙ mark_largest n.tokens ∙ datum_largest n.datum
