-- The first bytes of what is left: they do not depend on how far words are opened, and a word's first piece comes first.
use mathlib.Core.Path.{◌≡◌, refl, sym, ap, ◌∙◌}
use mathlib.Core.Bool.{true, false}
use mathlib.Core.List.{List, [], ◌∷◌, ◌++◌, append_assoc, append-nil}
use Prim.Native.Nat.{ℕ, zero, suc, ◌≤◌}
use native.Mathlib.Nat.{le_refl}
use native.Mathlib.Omega.{arith}
use lib.ListN.{take}
use lib.Seq.{take-take}
use Rattle.notation.specs.Parts.{Part, element, rest, shown, lead}
use Rattle.machine.specs.Words.{is_cell}
use Rattle.machine.specs.Table.{left, right, capacity}
use Rattle.machine.specs.Calls.{field}
use Rattle.machine.specs.Texts.{leaf, opened, text_for}
use Rattle.machine.proofs.TextLaws.{SameFront, same_behind, opened_leaf, shown_cell, agrees}
use Rattle.printer.specs.Walk.{Item, item, text_of, ahead}

module _ (t : List ℕ) where
  text_agrees : (k n m : ℕ) (is : List Item) → k ≤ n → k ≤ m → SameFront k (text_of n t is) (text_of m t is)
  unfolding text_of
  text_agrees k n m [] hn hm = refl
  text_agrees k n m (i ∷ is) hn hm = agrees t i.part k n m i.word (text_of n t is) (text_of m t is) hn hm (text_agrees k n m is hn hm)

  pub ahead_front : (k n : ℕ) (is : List Item) → k ≤ n → take k (ahead n t is) ≡ ahead k t is
  unfolding ahead
  ahead_front k n is h = take-take k n (text_of n t is) h ∙ text_agrees k n k is h (le_refl k)

  pub ahead_none : (k : ℕ) → ahead k t [] ≡ []
  unfolding ahead text_of
  ahead_none zero = refl
  ahead_none (suc k) = refl

  -- a word, to begin with
  pub ahead_word : (room w : ℕ) → ahead (suc room) t (item element w ∷ []) ≡ take (suc room) (text_for room t w)
  unfolding ahead text_of text_for
  ahead_word room w = simp append-nil

  module _ (p : Part) (w : ℕ) (is : List Item) where
    pub ahead_cell : is_cell (capacity t) w ≡ true → (k : ℕ)
        → ahead k t (item p w ∷ is) ≡ take k (lead p ∷ ahead k t (item element (field t w left) ∷ item rest (field t w right) ∷ is))
    unfolding ahead text_of
    ahead_cell h zero = refl
    ahead_cell h (suc k) =
        rw (shown_cell t p k w h, take-take k (suc k) (text_of (suc k) t (item element l ∷ item rest r ∷ is)) (omega arith))
        (simp append_assoc
        (ap (λ (x : List ℕ). lead p ∷ x)
        (agrees t element k k (suc k) l (shown rest (opened k t r) ++ text_of (suc k) t is) (shown rest (opened (suc k) t r) ++ text_of (suc k) t is) (omega arith) (omega arith)
        (agrees t rest k k (suc k) r (text_of (suc k) t is) (text_of (suc k) t is) (omega arith) (omega arith) refl))))
      where
        l : ℕ
        l = field t w left

        r : ℕ
        r = field t w right

    pub ahead_leaf : is_cell (capacity t) w ≡ false → (k : ℕ) → ahead k t (item p w ∷ is) ≡ take k (shown p (leaf w) ++ ahead k t is)
    unfolding ahead text_of
    ahead_leaf h k =
        rw (opened_leaf t k w h)
        (same_behind (shown p (leaf w)) k (text_of k t is) (take k (text_of k t is)) (sym (take-take k k (text_of k t is) (omega arith))))
