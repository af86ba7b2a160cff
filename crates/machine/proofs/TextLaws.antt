-- Texts of words: trees opened far enough agree on the first bytes, and a text that fits is a whole tree's (specs/TextFacts).
use mathlib.Core.Path.{◌≡◌, refl, sym, ap, ◌∙◌}
use mathlib.Core.Bool.{Bool, true, false, cond, ◌&&◌}
use mathlib.Core.List.{List, [], ◌∷◌, ◌++◌, append_assoc, append-nil}
use Prim.Native.Nat.{ℕ, zero, suc, ◌+◌, ◌-◌, ◌≤◌, ◌<◌}
use native.Mathlib.Omega.{arith}
use lib.Dec.{leb}
use lib.ListN.{length, take, length-append}
use lib.Seq.{take-take, take_all}
use borrow.Author.Tests.{leb-true}
use Rattle.notation.specs.Trees.{Tree, nil, atom, pair, Values}
use Rattle.notation.specs.Print.{print, print_rest}
use Rattle.notation.specs.Parts.{Part, element, rest, shown, lead}
use Rattle.notation.specs.Brackets.{first_met}
use Rattle.notation.proofs.BracketLaws.{met_front, met_none}
use Rattle.machine.specs.Words.{is_cell, is_atom, first_atom, largest_word}
use Rattle.machine.specs.Table.{left, right, capacity}
use Rattle.machine.specs.Calls.{field}
use Rattle.machine.specs.Texts.{leaf, OpensOut, ends, opens, opened, text_for}
use Rattle.machine.specs.TextFacts.{OpenedEnough, WholeTree, OneTree, PrintedWhole, OpenedValues}

-- two texts have the same first bytes
abbrev pub SameFront : ℕ → List ℕ → List ℕ → Type 0
SameFront k u v = take k u ≡ take k v

pub fewer : (k : ℕ) (u v : List ℕ) → SameFront (suc k) u v → SameFront k u v
fewer k u v e = sym (take-take k (suc k) u (omega arith)) ∙ ap (take k) e ∙ take-take k (suc k) v (omega arith)

pub same_behind : (p : List ℕ) (k : ℕ) (u v : List ℕ) → SameFront k u v → SameFront k (p ++ u) (p ++ v)
same_behind [] k u v e = e
same_behind (b ∷ p) zero u v e = refl
same_behind (b ∷ p) (suc k) u v e = ap (λ (l : List ℕ). b ∷ l) (same_behind p k u v (fewer k u v e))

-- a pair, as an element and as a rest: a byte, then its left part as an element and its right part as the rest behind it
pub shown_pair : (p : Part) (a d : Tree) → shown p (pair a d) ≡ lead p ∷ (print a ++ print_rest d)
unfolding print print_rest
shown_pair element a d = refl
shown_pair rest a d = refl

module _ (t : List ℕ) where
  pub opened_leaf : (n w : ℕ) → is_cell (capacity t) w ≡ false → opened n t w ≡ leaf w
  unfolding opened
  opened_leaf zero w h = refl
  opened_leaf (suc n) w h = rw h

  pub opened_cell : (n w : ℕ) → is_cell (capacity t) w ≡ true → opened (suc n) t w ≡ pair (opened n t (field t w left)) (opened n t (field t w right))
  unfolding opened
  opened_cell n w h = rw h

  pub shown_cell : (p : Part) (n w : ℕ) → is_cell (capacity t) w ≡ true
      → shown p (opened (suc n) t w) ≡ lead p ∷ (print (opened n t (field t w left)) ++ print_rest (opened n t (field t w right)))
  shown_cell p n w h = rw (opened_cell n w h) (shown_pair p (opened n t (field t w left)) (opened n t (field t w right)))

  -- a word's text agrees for all openings far enough, with the same bytes behind it
  pub agrees : (p : Part) (k n m w : ℕ) (u v : List ℕ) → k ≤ n → k ≤ m → SameFront k u v → SameFront k (shown p (opened n t w) ++ u) (shown p (opened m t w) ++ v)
  agrees p zero n m w u v hn hm e = refl
  agrees p (suc k) zero m w u v hn hm e = absurd (omega arith)
  agrees p (suc k) (suc n) zero w u v hn hm e = absurd (omega arith)
  agrees p (suc k) (suc n) (suc m) w u v hn hm e =
      go (is_cell (capacity t) w) refl
      (agrees element k n m l (print_rest (opened n t r) ++ u) (print_rest (opened m t r) ++ v) (omega arith) (omega arith)
      (agrees rest k n m r u v (omega arith) (omega arith) (fewer k u v e)))
    where
      l : ℕ
      l = field t w left

      r : ℕ
      r = field t w right

      go : (c : Bool) → is_cell (capacity t) w ≡ c
          → SameFront k (print (opened n t l) ++ (print_rest (opened n t r) ++ u)) (print (opened m t l) ++ (print_rest (opened m t r) ++ v))
          → SameFront (suc k) (shown p (opened (suc n) t w) ++ u) (shown p (opened (suc m) t w) ++ v)
      go true h ih = rw (shown_cell p n w h, shown_cell p m w h) (simp append_assoc (ap (λ (x : List ℕ). lead p ∷ x) ih))
      go false h ih = rw (opened_leaf (suc n) w h, opened_leaf (suc m) w h) (same_behind (shown p (leaf w)) (suc k) u v e)

pub opened_enough : OpenedEnough
unfolding text_for
opened_enough room n t w h =
    let front : take (suc room) (print (opened n t w)) ≡ take (suc room) (print (opened (suc room) t w)) =
    simp append-nil at (agrees t element (suc room) n (suc room) w [] [] h (omega arith) refl) in
    let met : first_met room 0 (print (opened n t w)) ≡ first_met room 0 (print (opened (suc room) t w)) =
    sym (met_front room 0 (print (opened n t w))) ∙ ap (first_met room 0) front ∙ met_front room 0 (print (opened (suc room) t w)) in
    record {
      met = met;
      text = λ none.
          sym (take_all (suc room) (print (opened n t w)) (omega (arith, met_none room 0 (print (opened n t w)) none)))
          ∙ front
          ∙ take_all (suc room) (print (opened (suc room) t w)) (omega (arith, met_none room 0 (print (opened (suc room) t w)) (sym met ∙ none)));
    }

-- a text shorter than the tree was opened far is a whole tree's
whole : (t : List ℕ) (p : Part) (n w : ℕ) → length (shown p (opened n t w)) < n → OpensOut t w (opened n t w)
whole t p zero w h = absurd (omega arith)
whole t p (suc n) w h = go (is_cell (capacity t) w) refl (whole t element n (field t w left)) (whole t rest n (field t w right))
  where
    l : Tree
    l = opened n t (field t w left)

    r : Tree
    r = opened n t (field t w right)

    go : (c : Bool) → is_cell (capacity t) w ≡ c
        → (length (print l) < n → OpensOut t (field t w left) l)
        → (length (print_rest r) < n → OpensOut t (field t w right) r)
        → OpensOut t w (opened (suc n) t w)
    go true e first second =
        let bytes : suc (length (print l) + length (print_rest r)) < suc n =
        rw (shown_cell t p n w e, length-append (print l) (print_rest r)) at h in
        rw (opened_cell t n w e) (opens w e (first (omega arith)) (second (omega arith)))
    go false e first second = rw (opened_leaf t (suc n) w e) (ends w e)

pub whole_tree : WholeTree
unfolding text_for
whole_tree room t w h = whole t element (suc room) w (omega (arith, met_none room 0 (print (opened (suc room) t w)) h))

pub one_tree : OneTree
one_tree t w _ _ (ends v e) (ends u d) = refl
one_tree t w _ _ (ends v e) (opens u d a b) = absurd (let z : ◌≡◌ {A = ℕ} 0 1 = cc in omega arith)
one_tree t w _ _ (opens v e a b) (ends u d) = absurd (let z : ◌≡◌ {A = ℕ} 0 1 = cc in omega arith)
one_tree t w _ _ (opens v e a b) (opens u d x y) = rw (one_tree t (field t w left) _ _ a x, one_tree t (field t w right) _ _ b y)

-- a tree whose text has no more bytes than the tree is opened far is opened whole
opened_whole : (t : List ℕ) (p : Part) (n w : ℕ) (tree : Tree) → OpensOut t w tree → length (shown p tree) ≤ n → opened n t w ≡ tree
opened_whole t p n w _ (ends v e) h = opened_leaf t n w e
opened_whole t p zero w _ (opens v {a} {d} e x y) h = absurd (omega (arith, rw (shown_pair p a d) at h))
opened_whole t p (suc n) w _ (opens v {a} {d} e x y) h =
    let bytes : suc (length (print a) + length (print_rest d)) ≤ suc n = rw (shown_pair p a d, length-append (print a) (print_rest d)) at h in
    opened_cell t n w e
    ∙ rw (opened_whole t element n (field t w left) a x (omega arith), opened_whole t rest n (field t w right) d y (omega arith))

pub printed_whole : PrintedWhole
unfolding text_for
printed_whole room t w tree o h =
    ap print (opened_whole t element (suc room) w tree o (omega (arith, met_none room 0 (print tree) h)))

leaf_values : (w : ℕ) → Values (leaf w)
unfolding leaf is_atom
leaf_values w = go (leb first_atom w) (leb w largest_word) refl refl
  where
    go : (a b : Bool) → leb first_atom w ≡ a → leb w largest_word ≡ b → Values (cond (a && b) (atom (w - first_atom)) nil)
    go true true x y = omega (arith, leb-true w largest_word y)
    go true false x y = tt
    go false b x y = tt

pub opened_values : OpenedValues
unfolding opened
opened_values zero t w = leaf_values w
opened_values (suc n) t w = go (is_cell (capacity t) w) (opened_values n t (field t w left)) (opened_values n t (field t w right))
  where
    go : (c : Bool) → Values (opened n t (field t w left)) → Values (opened n t (field t w right))
        → Values (cond c (pair (opened n t (field t w left)) (opened n t (field t w right))) (leaf w))
    go true l r = (l, r)
    go false l r = leaf_values w
