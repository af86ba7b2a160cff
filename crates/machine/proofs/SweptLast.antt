-- The sweep in one downward pass (document 02, A8): the last cell freed first, then the others, is the machine's sweep.
use mathlib.Core.Path.{◌≡◌, refl, sym, ap, ◌∙◌}
use mathlib.Core.Logic.{◌≢◌}
use mathlib.Core.Bool.{false}
use mathlib.Core.List.{List, [], ◌∷◌, ◌++◌}
use Prim.Native.Nat.{ℕ, ◌≤◌, ◌<◌}
use native.Mathlib.Omega.{arith}
use lib.Dec.{eqb}
use lib.ListN.{length}
use borrow.Author.Tests.{eqb-false}
use Rattle.machine.specs.Table.{left, right, capacity, table_length, word_at}
use Rattle.machine.specs.Packets.{cell, minus, contains}
use Rattle.machine.specs.Step.{move_count, lower_pointers, join, join_all, swept}
use Rattle.machine.proofs.Range.{or-false}
use Rattle.machine.proofs.Lists.{contains_cons}
use Rattle.machine.proofs.Moves.{length_move, capacity_move}
use Rattle.machine.proofs.Sweep.{lower_both, alike_lower, joins}
use Rattle.machine.proofs.Commute.{join_move}

-- a list with one index more at its end
join_all_last : (t : List ℕ) (is : List ℕ) (n : ℕ) → join_all t (is ++ (n ∷ [])) ≡ join_all (join t n) is
unfolding join_all
join_all_last t [] n = refl
join_all_last t (i ∷ is) n = ap (λ (u : List ℕ). join u i) (join_all_last t is n)

lower_last : (t : List ℕ) (is : List ℕ) (n : ℕ) → lower_pointers t (is ++ (n ∷ [])) ≡ lower_pointers (lower_pointers t (n ∷ [])) is
unfolding lower_pointers lower_both
lower_last t [] n = refl
lower_last t (i ∷ is) n = ap (λ (u : List ℕ). lower_both u i) (lower_last t is n)

-- the pointers out of other cells are lowered before or after the cell at index n joins
module _ (n : ℕ) where
  join_both : (t : List ℕ) (i : ℕ) → table_length (capacity t) ≤ length t → n < capacity t → i ≢ n → lower_both (join t n) i ≡ join (lower_both t i) n
  unfolding lower_both
  join_both t i f l d =
      let x = word_at t i left in
      let y = word_at t i right in
      let u = move_count t cell x minus 1 in
      rw ((joins t n f l).unchanged i left (omega arith) d, (joins t n f l).unchanged i right (omega arith) d)
      (ap (λ (v : List ℕ). move_count v cell y minus 1) (join_move t n x 1 f l)
      ∙ join_move u n y 1 (rw (capacity_move t cell x minus 1, length_move t cell x minus 1) f) (rw (capacity_move t cell x minus 1) l))

  join_lower : (t : List ℕ) (is : List ℕ) → table_length (capacity t) ≤ length t → n < capacity t → contains is n ≡ false
      → lower_pointers (join t n) is ≡ join (lower_pointers t is) n
  unfolding lower_pointers lower_both
  join_lower t [] f l d = refl
  join_lower t (i ∷ is) f l d =
      let s = alike_lower t is in
      let o = or-false (eqb i n) (contains is n) (rw contains_cons at d) in
      ap (λ (u : List ℕ). lower_both u i) (join_lower t is f l o.1)
      ∙ join_both (lower_pointers t is) i (rw (s.same_capacity, s.same_length) f) (rw s.same_capacity l) (eqb-false i n o.0)

-- one cell more: it is freed first
pub swept_last : (t : List ℕ) (is : List ℕ) (n : ℕ) → table_length (capacity t) ≤ length t → n < capacity t → contains is n ≡ false
    → swept t (is ++ (n ∷ [])) ≡ swept (swept t (n ∷ [])) is
unfolding swept join_all
swept_last t is n f l d =
    let u = lower_pointers t (n ∷ []) in
    let s = alike_lower t (n ∷ []) in
    ap (λ (v : List ℕ). join_all v (is ++ (n ∷ []))) (lower_last t is n) ∙ join_all_last (lower_pointers u is) is n
    ∙ ap (λ (v : List ℕ). join_all v is) (sym (join_lower n u is (rw (s.same_capacity, s.same_length) f) (rw s.same_capacity l) d))
