-- Laws of the parser's open lists: what a datum more changes, and how many words they can hold where the text's tree is known.
use mathlib.Core.Path.{◌≡◌, refl, sym, ◌∙◌}
use mathlib.Core.List.{List, [], ◌∷◌, ◌++◌, append_assoc}
use Prim.Native.Nat.{ℕ, suc, ◌+◌, ◌≤◌}
use native.Mathlib.Omega.{arith}
use lib.ListN.{length, length-append}
use Rattle.notation.specs.Trees.{Tree, nil, atom, pairs}
use Rattle.notation.specs.Grammar.{Token, opening, closing, dot, number}
use Rattle.notation.specs.Parse.{Mark, token, foreign, Frame, plain, dotted, full, State, within, outside, deliver, list_of, on_token, next, parsed_from, tree_of, tree, none}
use Rattle.notation.proofs.Tall.{stays_outside}
use Rattle.scanner.specs.Scanning.{element_pairs, open_pairs, Based}
use Rattle.scanner.proofs.ScanLaws.{list_pairs}
use Rattle.reader.proofs.Standing.{in_order, standing, lists_of}

pub within_same : {fs gs : List Frame} → within fs ≡ within gs → fs ≡ gs
within_same e = cc

pub never_within : {fs : List Frame} {A : Type 0} → outside ≡ within fs → A
never_within e = let z : ◌≡◌ {A = ℕ} 0 1 = cc in absurd (omega arith)

never_tree : {t : Tree} {A : Type 0} → none ≡ tree t → A
never_tree e = let z : ◌≡◌ {A = ℕ} 0 1 = cc in absurd (omega arith)

-- where the text has a tree, the state after its first mark is within the notation
pub record Onward (m : Mark) (fs : List Frame) (ms : List Mark) (t : Tree) : Type 0 where
  pub frames : List Frame
  pub next : next m (within fs) ≡ within frames
  pub parsed : tree_of (parsed_from (within frames) ms) ≡ tree t

pub onward : (m : Mark) (fs : List Frame) (ms : List Mark) (t : Tree) → tree_of (parsed_from (within fs) (m ∷ ms)) ≡ tree t → Onward m fs ms t
unfolding parsed_from
onward m fs ms t h = go (next m (within fs)) refl
  where
    go : (st : State) → next m (within fs) ≡ st → Onward m fs ms t
    go (within gs) e = record { frames = gs; next = e; parsed = rw e at h }
    go outside e =
        let p : tree_of (parsed_from outside ms) ≡ tree t = rw e at h in
        never_tree (sym (stays_outside ms) ∙ p)

-- what a datum more in the innermost list changes
pub record Delivered (x : Tree) (fs gs : List Frame) : Type 0 where
  pub standing : standing gs ≡ standing fs ++ (x ∷ [])
  pub lists : lists_of gs ≡ lists_of fs
  pub based : Based fs → Based gs

pub delivered : (x : Tree) (fs gs : List Frame) → deliver x fs ≡ within gs → Delivered x fs gs
unfolding standing in_order lists_of
delivered x [] gs e = never_within e
delivered x (plain es ∷ []) gs e =
    rw (sym (within_same e)) (record { standing = sym (append_assoc (standing []) (in_order es) (x ∷ [])); lists = refl; based = λ b. b })
delivered x (plain es ∷ f ∷ fs) gs e =
    rw (sym (within_same e)) (record { standing = sym (append_assoc (standing (f ∷ fs)) (in_order es) (x ∷ [])); lists = refl; based = λ b. b })
delivered x (dotted es ∷ []) gs e =
    rw (sym (within_same e)) (record { standing = sym (append_assoc (standing []) (in_order es) (x ∷ [])); lists = refl; based = λ b. b })
delivered x (dotted es ∷ f ∷ fs) gs e =
    rw (sym (within_same e)) (record { standing = sym (append_assoc (standing (f ∷ fs)) (in_order es) (x ∷ [])); lists = refl; based = λ b. b })
delivered x (full es l ∷ fs) gs e = never_within e

-- nothing stands before the text at any token
pub based_next : (k : Token) (fs gs : List Frame) → Based fs → on_token k fs ≡ within gs → Based gs
based_next opening [] gs b e = absurd b
based_next opening (f ∷ fs) gs b e = rw (sym (within_same e)) b
based_next closing [] gs b e = never_within e
based_next closing (f ∷ []) gs b e = never_within e
based_next closing (plain es ∷ f ∷ fs) gs b e = (delivered (list_of es nil) (f ∷ fs) gs e).based b
based_next closing (dotted es ∷ f ∷ fs) gs b e = never_within e
based_next closing (full es l ∷ f ∷ fs) gs b e = (delivered (list_of es l) (f ∷ fs) gs e).based b
based_next dot [] gs b e = never_within e
based_next dot (plain [] ∷ fs) gs b e = never_within e
based_next dot (plain (y ∷ es) ∷ []) gs b e = absurd b
based_next dot (plain (y ∷ es) ∷ f ∷ fs) gs b e = rw (sym (within_same e)) b
based_next dot (dotted es ∷ fs) gs b e = never_within e
based_next dot (full es l ∷ fs) gs b e = never_within e
based_next (number v) fs gs b e = (delivered (atom v) fs gs e).based b

-- no list has its part behind the dot
Unfilled : List Frame → Type 0
Unfilled [] = Unit {0}
Unfilled (plain es ∷ fs) = Unfilled fs
Unfilled (dotted es ∷ fs) = Unfilled fs
Unfilled (full es l ∷ fs) = ⊥

-- none but the innermost
OuterUnfilled : List Frame → Type 0
unfolding Unfilled
OuterUnfilled [] = Unit {0}
OuterUnfilled (f ∷ fs) = Unfilled fs

unfilled_outer : (fs : List Frame) → Unfilled fs → OuterUnfilled fs
unfolding Unfilled OuterUnfilled
unfilled_outer [] u = u
unfilled_outer (plain es ∷ fs) u = u
unfilled_outer (dotted es ∷ fs) u = u
unfilled_outer (full es l ∷ fs) u = absurd u

-- where the text's tree is t, the open lists' elements take no more pairs than it has
record Enough (t : Tree) (fs : List Frame) : Type 0 where
  pub most : open_pairs fs ≤ pairs t
  pub outer : OuterUnfilled fs

-- a datum more takes its pairs, and finds its place in a list that is not full
record Taken (x : Tree) (fs gs : List Frame) : Type 0 where
  pub more : open_pairs fs + pairs x ≤ open_pairs gs
  pub unfilled : OuterUnfilled gs → Unfilled fs

taken : (x : Tree) (fs gs : List Frame) → deliver x fs ≡ within gs → Taken x fs gs
unfolding element_pairs Unfilled OuterUnfilled
taken x [] gs e = never_within e
taken x (plain es ∷ fs) gs e = rw (sym (within_same e)) (record { more = omega arith; unfilled = λ u. u })
taken x (dotted es ∷ fs) gs e = rw (sym (within_same e)) (record { more = omega arith; unfilled = λ u. u })
taken x (full es l ∷ fs) gs e = never_within e

-- so what holds behind a token holds before it
enough_before : (t : Tree) (k : Token) (fs gs : List Frame) → on_token k fs ≡ within gs → Enough t gs → Enough t fs
unfolding element_pairs Unfilled OuterUnfilled
enough_before t opening fs gs e n =
    let n' : Enough t (plain [] ∷ fs) = rw (within_same e) n in
    record { most = omega (arith, n'.most); outer = unfilled_outer fs n'.outer }
enough_before t closing [] gs e n = never_within e
enough_before t closing (f ∷ []) gs e n = never_within e
enough_before t closing (plain es ∷ f ∷ fs) gs e n =
    let d = taken (list_of es nil) (f ∷ fs) gs e in
    record { most = omega (arith, n.most, d.more, list_pairs es nil); outer = d.unfilled n.outer }
enough_before t closing (dotted es ∷ f ∷ fs) gs e n = never_within e
enough_before t closing (full es l ∷ f ∷ fs) gs e n =
    let d = taken (list_of es l) (f ∷ fs) gs e in
    record { most = omega (arith, n.most, d.more, list_pairs es l); outer = d.unfilled n.outer }
enough_before t dot [] gs e n = never_within e
enough_before t dot (plain [] ∷ fs) gs e n = never_within e
enough_before t dot (plain (y ∷ es) ∷ fs) gs e n =
    let n' : Enough t (dotted (y ∷ es) ∷ fs) = rw (within_same e) n in
    record { most = n'.most; outer = n'.outer }
enough_before t dot (dotted es ∷ fs) gs e n = never_within e
enough_before t dot (full es l ∷ fs) gs e n = never_within e
enough_before t (number v) fs gs e n =
    let d = taken (atom v) fs gs e in
    record { most = omega (arith, n.most, d.more); outer = unfilled_outer fs (d.unfilled n.outer) }

-- at the text's end its tree stands alone
pub alone : (t : Tree) (fs : List Frame) → Based fs → tree_of (within fs) ≡ tree t → fs ≡ full [] t ∷ []
alone t [] b e = absurd b
alone t (plain es ∷ fs) b e = never_tree e
alone t (dotted es ∷ fs) b e = never_tree e
alone t (full es x ∷ []) b e = cc
alone t (full es x ∷ f ∷ fs) b e = never_tree e

enough : (t : Tree) (ms : List Mark) (fs : List Frame) → Based fs → tree_of (parsed_from (within fs) ms) ≡ tree t → Enough t fs
unfolding parsed_from element_pairs OuterUnfilled Unfilled pairs
enough t [] fs b h = rw (alone t fs b h) (record { most = omega arith; outer = _ })
enough t (foreign ∷ ms) fs b h = never_within (onward foreign fs ms t h).next
enough t (token k ∷ ms) fs b h =
    let o = onward (token k) fs ms t h in
    enough_before t k fs o.frames o.next (enough t ms o.frames (based_next k fs o.frames b o.next) o.parsed)

ordered_length : (es : List Tree) → length (in_order es) ≤ element_pairs es
unfolding in_order element_pairs
ordered_length [] = omega arith
ordered_length (e ∷ es) = let h = ordered_length es in simp length-append (omega arith)

unfilled_length : (fs : List Frame) → Unfilled fs → length (standing fs) ≤ open_pairs fs
unfolding standing Unfilled
unfilled_length [] u = omega arith
unfilled_length (plain es ∷ fs) u = let h = unfilled_length fs u in simp length-append (omega (arith, ordered_length es))
unfilled_length (dotted es ∷ fs) u = let h = unfilled_length fs u in simp length-append (omega (arith, ordered_length es))
unfilled_length (full es l ∷ fs) u = absurd u

enough_length : (t : Tree) (fs : List Frame) → Enough t fs → length (standing fs) ≤ suc (pairs t)
unfolding standing OuterUnfilled
enough_length t [] n = omega arith
enough_length t (plain es ∷ fs) n = simp length-append (omega (arith, n.most, ordered_length es, unfilled_length fs n.outer))
enough_length t (dotted es ∷ fs) n = simp length-append (omega (arith, n.most, ordered_length es, unfilled_length fs n.outer))
enough_length t (full es l ∷ fs) n = simp length-append (omega (arith, n.most, ordered_length es, unfilled_length fs n.outer))

-- and their words are at most one more: the part behind the innermost list's dot takes no pair
pub few_words : (t : Tree) (ms : List Mark) (fs : List Frame) → Based fs → tree_of (parsed_from (within fs) ms) ≡ tree t → length (standing fs) ≤ suc (pairs t)
few_words t ms fs b h = enough_length t fs (enough t ms fs b h)
