-- S4: pointers after one field is written.
use mathlib.Core.Path.{◌≡◌, refl, sym, ap, ◌∙◌}
use mathlib.Core.Bool.{true}
use mathlib.Core.List.{List}
use Prim.Native.Nat.{ℕ, zero, suc, ◌+◌, ◌≤◌, ◌<◌}
use native.Mathlib.Omega.{arith}
use lib.Dec.{ltb}
use lib.ListN.{length}
use Rattle.machine.specs.Counts.{pointers, pointers_from}
use Rattle.machine.specs.Range.{total, matching}
use Rattle.machine.specs.Table.{left, right, state, capacity, table_length, word_at, put_word, in_use}
use Rattle.machine.proofs.Range.{total_at}
use Rattle.machine.proofs.Table.{Inside, room, word_same, word_other, capacity_put_word}

module _ (v : List ℕ) (i k w x : ℕ) (f : table_length (capacity v) ≤ length v) (l : i < capacity v) (lk : k ≤ right) (u : in_use v i ≡ true) where
  abbrev v' : List ℕ
  v' = put_word v i k w

  pub use_put : (j : ℕ) → in_use v' j ≡ in_use v j
  unfolding in_use
  use_put j = ap (ltb 0) (word_other v i k w j state (omega arith) (omega arith) (λ a b. omega arith))

  elsewhere : (j : ℕ) → (j ≡ i → ⊥) → pointers_from v' x j ≡ pointers_from v x j
  unfolding pointers_from
  elsewhere j d =
      rw (use_put j, other left (omega arith), other right (omega arith))
    where
      other : (m : ℕ) → m ≤ right → word_at v' j m ≡ word_at v j m
      other m h = word_other v i k w j m (omega arith) (omega arith) (λ a b. d (sym a))

  from_used : (z : List ℕ) → in_use z i ≡ true → pointers_from z x i ≡ matching (word_at z i left) x 1 + matching (word_at z i right) x 1
  unfolding pointers_from
  from_used z e = rw e

  here : pointers_from v' x i + matching (word_at v i k) x 1 ≡ pointers_from v x i + matching w x 1
  here = go k lk refl
    where
      inv : Inside v i
      inv = room v (capacity v) i f l

      hit : ℕ → ℕ
      hit n = matching n x 1

      go : (m : ℕ) → m ≤ right → k ≡ m → pointers_from v' x i + matching (word_at v i k) x 1 ≡ pointers_from v x i + matching w x 1
      go zero n e =
          let s : word_at v' i left ≡ w = ap (word_at v' i) (sym e) ∙ word_same v i k w inv (omega arith) in
          let o : word_at v' i right ≡ word_at v i right = word_other v i k w i right (omega arith) (omega arith) (λ _ y. omega arith) in
          omega (arith, from_used v' (use_put i ∙ u), from_used v u, ap hit s, ap hit o, ap (λ (m : ℕ). hit (word_at v i m)) e)
      go (suc zero) n e =
          let s : word_at v' i right ≡ w = ap (word_at v' i) (sym e) ∙ word_same v i k w inv (omega arith) in
          let o : word_at v' i left ≡ word_at v i left = word_other v i k w i left (omega arith) (omega arith) (λ _ y. omega arith) in
          omega (arith, from_used v' (use_put i ∙ u), from_used v u, ap hit s, ap hit o, ap (λ (m : ℕ). hit (word_at v i m)) e)
      go (suc (suc m)) n e = absurd (omega arith)

  pub pointers_put : pointers v' x + matching (word_at v i k) x 1 ≡ pointers v x + matching w x 1
  unfolding pointers
  pointers_put =
      let e : total (capacity v) (pointers_from v' x) + pointers_from v x i ≡ total (capacity v) (pointers_from v x) + pointers_from v' x i =
      total_at (capacity v) (pointers_from v' x) (pointers_from v x) i l (λ j m d. elsewhere j d) in
      let c : total (capacity v') (pointers_from v' x) ≡ total (capacity v) (pointers_from v' x) =
      ap (λ (n : ℕ). total n (pointers_from v' x)) (capacity_put_word v i k w) in
      omega (arith, here)
