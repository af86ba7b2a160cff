-- The free chain: its cells are free, it has one where a cell is free, and it stands where the free cells and their words do.
use mathlib.Core.Path.{◌≡◌, refl, sym, ap, ◌∙◌}
use mathlib.Core.Logic.{⊎_elim, ◌≢◌}
use mathlib.Core.Bool.{not, Bool, true, false, cond}
use mathlib.Core.List.{List, [], ◌∷◌}
use Prim.Native.Nat.{ℕ, ◌≤◌, ◌<◌}
use native.Mathlib.Omega.{arith}
use Rattle.machine.specs.Range.{occurrences}
use Rattle.machine.specs.Table.{stride, left, right, capacity, first_free, last_free, word_at, in_use, is_free}
use Rattle.machine.specs.Questions.{cell_free}
use Rattle.machine.specs.Facts.{Linked, Chain}
use Rattle.machine.proofs.Range.{tested, matching_same, exists_at}
use Rattle.machine.proofs.Table.{free_not_in_use}

-- where a cell is free the chain has a first cell
pub chain_some : (t : List ℕ) (is : List ℕ) → Chain t is → cell_free t ≡ true → first_free t ≢ 0
unfolding cell_free
chain_some t is h e z = some is h (exists_at (capacity t) (is_free t) e)
  where
    some : (is : List ℕ) → Chain t is → (i : ℕ) × (i < capacity t) × (is_free t i ≡ true) → ⊥
    some [] h w = let o = rw w.2 at (h.once w.0 w.1) in let n : occurrences w.0 [] ≡ 0 = unfold occurrences in refl in omega arith
    some (i ∷ is) h w = omega (arith, h.linked.0)

-- a chain in a table whose free cells are the same, with the same words
pub linked_same : (t u : List ℕ) → capacity u ≡ capacity t → (w : ℕ) (is : List ℕ) → Linked t w is
    → ((i : ℕ) → i < capacity t → 1 ≤ occurrences i is → word_at u i left ≡ word_at t i left) → Linked u w is
unfolding occurrences
linked_same t u c w [] h e = h
linked_same t u c w (i ∷ is) h e = (
  h.0,
  rw c h.1,
  rw (e i h.1 (omega (arith, matching_same i i 1 refl))) (linked_same t u c (word_at t i left) is h.2 (λ j l m. e j l (omega arith))),
)

pub chain_free : (t : List ℕ) (is : List ℕ) → Chain t is → (i : ℕ) → i < capacity t → 1 ≤ occurrences i is → is_free t i ≡ true
chain_free t is h i l m = ⊎_elim (λ e. e) (λ (e : is_free t i ≡ false). absurd (let z = rw e at (h.once i l) in omega arith)) (tested (is_free t i))

pub free_same : (t u : List ℕ) (i : ℕ) → in_use u i ≡ in_use t i → is_free u i ≡ is_free t i
unfolding is_free
free_same t u i e = ap not e

pub chain_same : (t u : List ℕ) (is : List ℕ) → capacity u ≡ capacity t → first_free u ≡ first_free t → last_free u ≡ last_free t
    → ((i : ℕ) → i < capacity t → in_use u i ≡ in_use t i)
    → ((i k : ℕ) → i < capacity t → k < stride → in_use t i ≡ false → word_at u i k ≡ word_at t i k)
    → Chain t is → Chain u is
chain_same t u is c first last states words h = record {
  linked = rw first (linked_same t u c (first_free t) is h.linked (λ i l m. words i left l (omega arith) (free_not_in_use t i (chain_free t is h i l m))));
  ends = h.ends ∙ sym last;
  once = rw c (λ (i : ℕ) (l : i < capacity t). h.once i l ∙ ap (λ (b : Bool). cond b 1 0) (sym (free_same t u i (states i l))));
  wiped = rw c (λ (i k : ℕ) (l : i < capacity t) (e : is_free u i ≡ true) (low : right ≤ k) (high : k < stride).
      let g : is_free t i ≡ true = sym (free_same t u i (states i l)) ∙ e in
      words i k l (omega arith) (free_not_in_use t i g) ∙ h.wiped i k l g low high);
}
