-- Question 14 of a text: the largest value of its atoms tells of them all.
use mathlib.Core.Path.{◌≡◌, refl, sym, ap, ◌∙◌}
use mathlib.Core.Bool.{Bool, true, false, cond, ◌&&◌}
use mathlib.Core.List.{List}
use Prim.Native.Nat.{ℕ, ◌+◌, ◌-◌, ◌≤◌, max}
use native.Mathlib.Omega.{arith}
use lib.Dec.{leb, ltb}
use lib.ListN.{length}
use borrow.Author.Tests.{ltb-true, ltb-false, lt-ltb, le-ltb}
use Rattle.notation.specs.Trees.{Tree, nil, atom, pair, largest_value, Values, pairs, largest}
use Rattle.notation.specs.Grammar.{most_text}
use Rattle.notation.specs.Parse.{Parsed, tree, none, parse}
use Rattle.notation.specs.Brackets.{too_deep}
use Rattle.notation.proofs.MarkLaws.{clash}
use Rattle.notation.proofs.LargestLaws.{largest_within}
use Rattle.notation.proofs.Theorems.{values_read}
use Rattle.std.specs.Prelude.{Result, Ok, Err}
use Rattle.scanner.specs.declared.Measure.{Measure}
use Rattle.scanner.specs.declared.Fault.{Fault}
use Rattle.scanner.specs.Scans.{judged, scan_of}
use Rattle.machine.specs.Words.{first_atom, clip, may_be_stored}
use Rattle.machine.specs.Texts.{atoms_storable}
use Rattle.questions.proofs.Words.{atom_stored}

both_below : (a b n : ℕ) → (ltb a n && ltb b n) ≡ ltb (max a b) n
both_below a b n = go (ltb a n) refl (ltb b n) refl
  where
    go : (p : Bool) → ltb a n ≡ p → (q : Bool) → ltb b n ≡ q → (p && q) ≡ ltb (max a b) n
    go true l true k = sym (lt-ltb (max a b) n (omega (arith, ltb-true a n l, ltb-true b n k)))
    go true l false k = sym (le-ltb (max a b) n (omega (arith, ltb-false b n k)))
    go false l q k = sym (le-ltb (max a b) n (omega (arith, ltb-false a n l)))

value_stored : (v : ℕ) → v ≤ largest_value → may_be_stored (first_atom + v) ≡ ltb v clip
value_stored v h =
    let value : first_atom + v - first_atom ≡ v = omega arith in
    sym (atom_stored (first_atom + v) (omega arith) (omega arith)) ∙ ap (λ (n : ℕ). ltb n clip) value

atoms_below : (t : Tree) → Values t → atoms_storable t ≡ ltb (largest t) clip
unfolding atoms_storable largest
atoms_below nil h = refl
atoms_below (atom v) h = value_stored v h
atoms_below (pair a d) h = rw (atoms_below a h.0, atoms_below d h.1) (both_below (largest a) (largest d) clip)

pub atoms_stored : (t : Tree) → Values t → atoms_storable t ≡ may_be_stored (first_atom + largest t)
atoms_stored t h = atoms_below t h ∙ sym (value_stored (largest t) (largest_within t h))

-- the value that a scan finds is an atom's
pub found_within : (text : List ℕ) (m : Measure) → scan_of text ≡ Ok m → m.largest ≤ largest_value
unfolding scan_of
found_within text m e = go (leb (length text) most_text) (parse text) refl e
  where
    by_depth : (t : Tree) → Values t → (deep : Bool) → cond {A = Result Measure Fault} deep (Err Fault.TooDeep) (Ok (record { pairs = pairs t; largest = largest t })) ≡ Ok m → m.largest ≤ largest_value
    by_depth t h true x = clash (cc)
    by_depth t h false x = let same : largest t ≡ m.largest = cc in omega (arith, largest_within t h)

    go : (short : Bool) (p : Parsed) → parse text ≡ p → cond {A = Result Measure Fault} short (judged text p) (Err Fault.Outside) ≡ Ok m → m.largest ≤ largest_value
    go false p d x = clash (cc)
    go true none d x = clash (cc)
    go true (tree t) d x = by_depth t (values_read text t d) (too_deep 0 text) x
