-- How long a printed tree is, and that a text neither too deep nor too long meets nothing on its way into a buffer.
use mathlib.Core.Path.{◌≡◌, refl}
use mathlib.Core.Bool.{Bool, true, false, cond}
use mathlib.Core.List.{List, [], ◌∷◌, ◌++◌}
use Prim.Native.Nat.{ℕ, zero, suc, ◌+◌, ◌*◌, ◌/◌, ◌%◌, ◌^◌, ◌≤◌, ◌<◌, zero-le}
use native.Mathlib.Nat.{pow-suc}
use native.Mathlib.Omega.{arith}
use lib.Dec.{ltb}
use lib.ListN.{length, length-append}
use borrow.Author.Tests.{ltb-false, ne_eqb}
use Rattle.base_ten.specs.Bytes.{digit_zero}
use Rattle.base_ten.specs.Decimal.{digits, most_digits, decimal}
use Rattle.notation.specs.Trees.{Tree, nil, atom, pair, largest_value, Values, pairs}
use Rattle.notation.specs.Print.{print, print_rest}
use Rattle.notation.specs.Brackets.{open_after, opens_too_many, too_deep, nothing, first_met}
use Rattle.machine.proofs.Range.{or-false}

-- a number below 10^k has k digits at most
digits_below : (most k n : ℕ) → 0 < k → n < 10 ^ k → length (digits most n) ≤ k
unfolding digits
digits_below zero k n h l = zero-le
digits_below (suc most) zero n h l = absurd (omega arith)
digits_below (suc most) (suc k) n h l = go (ltb n 10) refl (digits_below most k (n / 10))
  where
    go : (t : Bool) → ltb n 10 ≡ t → (0 < k → n / 10 < 10 ^ k → length (digits most (n / 10)) ≤ k)
        → length (cond t ((digit_zero + n) ∷ []) (digits most (n / 10) ++ ((digit_zero + n % 10) ∷ []))) ≤ suc k
    go true e ih = omega arith
    go false e ih =
        let more : 10 ≤ n = ltb-false n 10 e in
        let less : n / 10 < 10 ^ k = omega (arith, rw (pow-suc 10 k) at l) in
        simp length-append (omega (arith, ih (some k less more) less))
      where
        some : (k : ℕ) → n / 10 < 10 ^ k → 10 ≤ n → 0 < k
        some zero p m = omega arith
        some (suc k) p m = omega arith

value_digits : (v : ℕ) → v ≤ largest_value → length (decimal v) ≤ 5
value_digits v h = digits_below most_digits 5 v (omega arith) (omega arith)

mutual
  unfolding print print_rest pairs

  -- 5 bytes of a value, and 10 for each pair
  pub print_length : (t : Tree) → Values t → length (print t) ≤ 5 + 10 * pairs t
  print_length nil h = omega arith
  print_length (atom v) h = omega (arith, value_digits v h)
  print_length (pair a d) h = simp length-append (omega (arith, print_length a h.0, rest_length d h.1))

  rest_length : (d : Tree) → Values d → length (print_rest d) ≤ 9 + 10 * pairs d
  rest_length nil h = omega arith
  rest_length (atom v) h = simp length-append (omega (arith, value_digits v h))
  rest_length (pair a d) h = simp length-append (omega (arith, print_length a h.0, rest_length d h.1))

pub met_nothing : (room n : ℕ) (text : List ℕ) → too_deep n text ≡ false → length text ≤ room → first_met room n text ≡ nothing
unfolding too_deep first_met
met_nothing room n [] h l = refl
met_nothing zero n (b ∷ bs) h l = absurd (omega arith)
met_nothing (suc room) n (b ∷ bs) h l =
    let e = or-false (opens_too_many n b) (too_deep (open_after n b) bs) h in
    rw (e.0, ne_eqb (suc room) 0 (λ z. omega arith)) (met_nothing room (open_after n b) bs e.1 (omega arith))
