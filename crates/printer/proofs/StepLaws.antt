-- The steps of the walk, one law for each piece.
use mathlib.Core.Path.{◌≡◌, refl, sym, ap, ◌∙◌}
use mathlib.Core.Bool.{Bool, true, false, cond}
use mathlib.Core.List.{List, [], ◌∷◌, ◌++◌, append-nil}
use Prim.Native.Nat.{ℕ, zero, suc, ◌+◌, ◌-◌, ◌/◌, ◌%◌, ◌≤◌, ◌<◌}
use native.Mathlib.Numerals.{add-one, sub-one}
use native.Mathlib.Omega.{arith}
use lib.Dec.{ltb}
use lib.ListN.{length, take, get_or, set}
use lib.Seq.{get_or-set_same, get_or-set_other}
use borrow.Author.Tests.{ne_eqb, le-leb, lt-leb}
use Rattle.base_ten.specs.Bytes.{digit_zero}
use Rattle.base_ten.specs.Decimal.{digits, most_digits, decimal}
use Rattle.notation.specs.Trees.{Tree, nil, atom}
use Rattle.notation.specs.Grammar.{open_byte, close_byte}
use Rattle.notation.specs.Print.{print, print_rest}
use Rattle.notation.specs.Brackets.{most_open, open_after, opens_too_many, too_deep}
use Rattle.notation.specs.Parts.{Part, element, rest, shown, lead}
use Rattle.machine.specs.Words.{is_cell, is_atom, first_atom, largest_word}
use Rattle.machine.specs.Table.{left, right, capacity, word_at}
use Rattle.machine.specs.Calls.{field}
use Rattle.machine.specs.Texts.{leaf}
use Rattle.printer.specs.declared.walk.Kind.{Kind}
use Rattle.printer.specs.declared.walk.Piece.{Piece}
use Rattle.printer.specs.declared.walk.Walk.{Walk}
use Rattle.printer.specs.Pieces.{bytes_of}
use Rattle.printer.specs.Walk.{kind_of, Item, item, rests_of, items_of, ahead, open_behind, Moved, Refused}
use Rattle.printer.proofs.AheadLaws.{ahead_cell, ahead_leaf}

-- what a word's kind says
pub record IsPair (t : List ℕ) (w l r : ℕ) : Type 0 where
  pub cell : is_cell (capacity t) w ≡ true
  pub first : field t w left ≡ l
  pub second : field t w right ≡ r

pub record IsLeaf (t : List ℕ) (w : ℕ) (a : Tree) : Type 0 where
  pub cell : is_cell (capacity t) w ≡ false
  pub tree : leaf w ≡ a

module _ (t : List ℕ) (w : ℕ) where
  kind_pair : (l r : ℕ) → kind_of t w ≡ Kind.Pair l r → IsPair t w l r
  unfolding kind_of
  kind_pair l r h = go (is_cell (capacity t) w) (is_atom w) refl h
    where
      go : (c a : Bool) → is_cell (capacity t) w ≡ c
          → cond c (Kind.Pair (field t w left) (field t w right)) (cond a (Kind.Atom (w - first_atom)) Kind.Nil) ≡ Kind.Pair l r → IsPair t w l r
      go true a e h = record { cell = e; first = cc; second = cc }
      go false true e h = absurd (let z : ◌≡◌ {A = ℕ} 0 1 = cc in omega arith)
      go false false e h = absurd (let z : ◌≡◌ {A = ℕ} 0 1 = cc in omega arith)

  kind_atom : (v : ℕ) → kind_of t w ≡ Kind.Atom v → IsLeaf t w (atom v)
  unfolding kind_of leaf
  kind_atom v h = go (is_cell (capacity t) w) (is_atom w) refl refl h
    where
      go : (c a : Bool) → is_cell (capacity t) w ≡ c → is_atom w ≡ a
          → cond c (Kind.Pair (field t w left) (field t w right)) (cond a (Kind.Atom (w - first_atom)) Kind.Nil) ≡ Kind.Atom v → IsLeaf t w (atom v)
      go true a e d h = absurd (let z : ◌≡◌ {A = ℕ} 0 1 = cc in omega arith)
      go false true e d h = let same : w - first_atom ≡ v = cc in record { cell = e; tree = rw (d, same) }
      go false false e d h = absurd (let z : ◌≡◌ {A = ℕ} 0 1 = cc in omega arith)

  kind_nil : kind_of t w ≡ Kind.Nil → IsLeaf t w nil
  unfolding kind_of leaf
  kind_nil h = go (is_cell (capacity t) w) (is_atom w) refl refl h
    where
      go : (c a : Bool) → is_cell (capacity t) w ≡ c → is_atom w ≡ a
          → cond c (Kind.Pair (field t w left) (field t w right)) (cond a (Kind.Atom (w - first_atom)) Kind.Nil) ≡ Kind.Nil → IsLeaf t w nil
      go true a e d h = absurd (let z : ◌≡◌ {A = ℕ} 0 1 = cc in omega arith)
      go false true e d h = absurd (let z : ◌≡◌ {A = ℕ} 0 1 = cc in omega arith)
      go false false e d h = record { cell = e; tree = rw d }

  -- the kind, as code tells it
  pub zero_kind : w ≡ 0 → Kind.Nil ≡ kind_of t w
  unfolding kind_of is_cell is_atom
  zero_kind h = rw h

  pub cell_kind : (l r : ℕ) → 1 ≤ w → w ≤ capacity t → l ≡ word_at t (w - 1) left → r ≡ word_at t (w - 1) right → Kind.Pair l r ≡ kind_of t w
  unfolding kind_of is_cell field
  cell_kind l r low high first second = rw (le-leb 1 w low, le-leb w (capacity t) high, first, second, sub-one w)

  pub low_kind : 1 ≤ w → capacity t < w → w < first_atom → Kind.Nil ≡ kind_of t w
  unfolding kind_of is_cell is_atom
  low_kind low high less = rw (le-leb 1 w low, lt-leb w (capacity t) high, lt-leb first_atom w less)

  pub atom_kind : 1 ≤ w → capacity t < w → first_atom ≤ w → w ≤ largest_word → Kind.Atom (w - first_atom) ≡ kind_of t w
  unfolding kind_of is_cell is_atom
  atom_kind low high more most = rw (le-leb 1 w low, lt-leb w (capacity t) high, le-leb first_atom w more, le-leb w largest_word most)

  -- and what is ahead then
  module _ (p : Part) (is : List Item) where
    pair_ahead : (l r : ℕ) → kind_of t w ≡ Kind.Pair l r → (k : ℕ) → ahead k t (item p w ∷ is) ≡ take k (lead p ∷ ahead k t (item element l ∷ item rest r ∷ is))
    pair_ahead l r h k =
        let is_pair = kind_pair l r h in
        rw (← is_pair.first, ← is_pair.second) (ahead_cell t p w is is_pair.cell k)

    leaf_ahead : (a : Tree) → IsLeaf t w a → (k : ℕ) → ahead k t (item p w ∷ is) ≡ take k (shown p a ++ ahead k t is)
    leaf_ahead a h k = rw (← h.tree) (ahead_leaf t p w is h.cell k)

-- the rests of the open lists: one more, the innermost, and the others below it
module _ (rests : List ℕ) where
  rests_below : (n i r : ℕ) → n ≤ i → rests_of n (set rests i r) ≡ rests_of n rests
  unfolding rests_of
  rests_below zero i r h = refl
  rests_below (suc n) i r h = rw (get_or-set_other rests i n r 0 (λ e. omega arith), rests_below n i r (omega arith))

  rests_put : (n r : ℕ) → n < length rests → rests_of (suc n) (set rests n r) ≡ item rest r ∷ rests_of n rests
  unfolding rests_of
  rests_put n r h = rw (get_or-set_same rests n r 0 h, rests_below n n r (omega arith))

  pub rests_top : (n : ℕ) → 0 < n → rests_of n rests ≡ item rest (get_or rests (n - 1) 0) ∷ rests_of (n - 1) rests
  unfolding rests_of
  rests_top zero h = absurd (omega arith)
  rests_top (suc n) h = rw (sub-one (suc n))

-- digits are no brackets
abbrev Plain : List ℕ → Type 0
Plain [] = Unit {0}
Plain (b ∷ bs) = (close_byte < b) × Plain bs

plain_snoc : (bs : List ℕ) (b : ℕ) → Plain bs → close_byte < b → Plain (bs ++ (b ∷ []))
plain_snoc [] b h l = (l, tt)
plain_snoc (x ∷ bs) b h l = (h.0, plain_snoc bs b h.1 l)

plain_digits : (most v : ℕ) → Plain (digits most v)
unfolding digits
plain_digits zero v = tt
plain_digits (suc most) v = go (ltb v 10) (plain_digits most (v / 10))
  where
    go : (c : Bool) → Plain (digits most (v / 10)) → Plain (cond c ((digit_zero + v) ∷ []) (digits most (v / 10) ++ ((digit_zero + v % 10) ∷ [])))
    go true h = (omega arith, tt)
    go false h = plain_snoc (digits most (v / 10)) (digit_zero + v % 10) h (omega arith)

module _ (n : ℕ) where
  plain_deep : (bs u : List ℕ) → Plain bs → too_deep n (bs ++ u) ≡ too_deep n u
  unfolding too_deep opens_too_many open_after
  plain_deep [] u h = refl
  plain_deep (b ∷ bs) u h =
      let l = h.0 in
      rw (ne_eqb b open_byte (λ e. omega arith), ne_eqb b close_byte (λ e. omega arith)) (plain_deep bs u h.1)

  plain_open : (bs u : List ℕ) → Plain bs → open_behind n (bs ++ u) ≡ open_behind n u
  unfolding open_behind open_after
  plain_open [] u h = refl
  plain_open (b ∷ bs) u h = ap (λ (m : ℕ). open_behind m (bs ++ u)) (same h.0) ∙ plain_open bs u h.1
    where
      same : close_byte < b → open_after n b ≡ n
      same l = rw (ne_eqb b open_byte (λ e. omega arith), ne_eqb b close_byte (λ e. omega arith))

-- the stops
abbrev before : ℕ → ℕ → Walk
before w n = record { word = w; depth = n; behind = false }

abbrev behind : ℕ → Walk
behind n = record { word = 0; depth = n; behind = true }

module _ (t rests : List ℕ) (n w : ℕ) where
  -- an element
  pub opening : (l r : ℕ) → kind_of t w ≡ Kind.Pair l r → n < most_open → n < length rests
      → Moved t n (item element w ∷ rests_of n rests) Piece.Opening (before l (n + 1)) (set rests n r)
  unfolding bytes_of items_of too_deep opens_too_many open_behind open_after
  opening l r h m s = record {
    text = λ k. rw (add-one n, rests_put rests n r s) (pair_ahead t w element (rests_of n rests) l r h k);
    within = rw (ne_eqb n most_open (λ e. omega arith));
    depth = add-one n;
    most = omega arith;
  }

  pub number : (v : ℕ) → kind_of t w ≡ Kind.Atom v → n ≤ most_open → Moved t n (item element w ∷ rests_of n rests) (Piece.Number v) (behind n) rests
  unfolding bytes_of items_of too_deep open_behind print
  number v h m = record {
    text = leaf_ahead t w element (rests_of n rests) (atom v) (kind_atom t w v h);
    within = ap (too_deep n) (sym (append-nil (decimal v))) ∙ plain_deep n (decimal v) [] (plain_digits most_digits v);
    depth = sym (ap (open_behind n) (sym (append-nil (decimal v))) ∙ plain_open n (decimal v) [] (plain_digits most_digits v));
    most = m;
  }

  pub empty : kind_of t w ≡ Kind.Nil → n < most_open → Moved t n (item element w ∷ rests_of n rests) Piece.Empty (behind n) rests
  unfolding bytes_of items_of too_deep opens_too_many open_behind open_after print
  empty h m = record {
    text = leaf_ahead t w element (rests_of n rests) nil (kind_nil t w h);
    within = rw (ne_eqb n most_open (λ e. omega arith));
    depth = omega arith;
    most = omega arith;
  }

  -- a bracket too many
  pub no_opening : (is : List Item) (l r : ℕ) → kind_of t w ≡ Kind.Pair l r → n ≡ most_open → Refused t n (item element w ∷ is)
  no_opening is l r h m = record { full = m; bracket = λ k. ap (take 1) (pair_ahead t w element is l r h (suc k)) }

  pub no_empty : (is : List Item) → kind_of t w ≡ Kind.Nil → n ≡ most_open → Refused t n (item element w ∷ is)
  unfolding print
  no_empty is h m = record { full = m; bracket = λ k. ap (take 1) (leaf_ahead t w element is nil (kind_nil t w h) (suc k)) }

-- behind an element
module _ (t rests : List ℕ) (n : ℕ) (some : 0 < n) (m : n ≤ most_open) where
  pub gap : (l r : ℕ) → kind_of t (get_or rests (n - 1) 0) ≡ Kind.Pair l r → n ≤ length rests → Moved t n (rests_of n rests) Piece.Space (before l n) (set rests (n - 1) r)
  unfolding bytes_of items_of too_deep opens_too_many open_behind open_after
  gap l r h s =
      let one : n ≡ suc (n - 1) = omega arith in
      let put : rests_of n (set rests (n - 1) r) ≡ item rest r ∷ rests_of (n - 1) rests =
      ap (λ (k : ℕ). rests_of k (set rests (n - 1) r)) one ∙ rests_put rests (n - 1) r (omega arith) in
      record {
        text = λ k. rw (put, rests_top rests n some) (pair_ahead t (get_or rests (n - 1) 0) rest (rests_of (n - 1) rests) l r h k);
        within = refl;
        depth = refl;
        most = m;
      }

  pub dotted : (v : ℕ) → kind_of t (get_or rests (n - 1) 0) ≡ Kind.Atom v → Moved t n (rests_of n rests) (Piece.Dotted v) (behind (n - 1)) rests
  unfolding bytes_of items_of too_deep opens_too_many open_behind open_after print_rest
  dotted v h = record {
    text = λ k. rw (rests_top rests n some) (leaf_ahead t (get_or rests (n - 1) 0) rest (rests_of (n - 1) rests) (atom v) (kind_atom t (get_or rests (n - 1) 0) v h) k);
    within = plain_deep n (decimal v) (close_byte ∷ []) (plain_digits most_digits v);
    depth = sub-one n ∙ sym (plain_open n (decimal v) (close_byte ∷ []) (plain_digits most_digits v));
    most = omega arith;
  }

  pub closing : kind_of t (get_or rests (n - 1) 0) ≡ Kind.Nil → Moved t n (rests_of n rests) Piece.Closing (behind (n - 1)) rests
  unfolding bytes_of items_of too_deep opens_too_many open_behind open_after print_rest
  closing h = record {
    text = λ k. rw (rests_top rests n some) (leaf_ahead t (get_or rests (n - 1) 0) rest (rests_of (n - 1) rests) nil (kind_nil t (get_or rests (n - 1) 0) h) k);
    within = refl;
    depth = sub-one n;
    most = omega arith;
  }
