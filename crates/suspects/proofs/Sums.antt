-- A sum over a list that has each number once is told by its members: so its length, and the pointers out of its cells.
use mathlib.Core.Path.{◌≡◌, refl, sym, ap, ◌∙◌}
use mathlib.Core.Logic.{⊎_elim, ◌≢◌}
use mathlib.Core.Bool.{Bool, true, false, cond}
use mathlib.Core.List.{List, [], ◌∷◌}
use Prim.Native.Nat.{ℕ, ◌+◌, ◌≤◌, ◌<◌}
use native.Mathlib.Omega.{arith}
use lib.Dec.{eqb}
use lib.ListN.{length}
use borrow.Author.Tests.{eq-eqb, ne_eqb}
use Rattle.machine.specs.Range.{total, matching, select}
use Rattle.machine.specs.Table.{left, right, word_at}
use Rattle.machine.specs.Packets.{contains}
use Rattle.machine.specs.Facts.{pointers_out}
use Rattle.machine.proofs.Range.{tested, same_tests, lt_or_ge, or_left, or_right, total_same, total_at, total_le, total_zero}
use Rattle.machine.proofs.Lists.{at_most_one, none_past}
use Rattle.machine.proofs.Select.{select_members, select_indices, select_once, select_length}
use Rattle.suspects.proofs.Members.{Once, once_first, once_tail}

summed : (ℕ → ℕ) → List ℕ → ℕ
summed f [] = 0
summed f (i ∷ is) = f i + summed f is

length_summed : (xs : List ℕ) → length xs ≡ summed (λ i. 1) xs
unfolding summed
length_summed [] = refl
length_summed (x ∷ xs) = omega (arith, length_summed xs)

-- how often the fields of one cell contain x
abbrev pointers_of : List ℕ → ℕ → ℕ → ℕ
pointers_of t x i = matching (word_at t i left) x 1 + matching (word_at t i right) x 1

out_summed : (t : List ℕ) (x : ℕ) (is : List ℕ) → pointers_out t is x ≡ summed (pointers_of t x) is
unfolding pointers_out summed
out_summed t x [] = refl
out_summed t x (i ∷ is) = omega (arith, out_summed t x is)

abbrev Below : ℕ → List ℕ → Type 0
Below c xs = (i : ℕ) → contains xs i ≡ true → i < c

select_once_each : (c : ℕ) (p : ℕ → Bool) → Once (select c p)
select_once_each c p i =
    ⊎_elim (λ l. rw (select_once c p i l) (at_most_one (p i))) (λ l. omega (arith, none_past c (select c p) (select_indices c p) i l)) (lt_or_ge i c)

module _ (c : ℕ) (f : ℕ → ℕ) where
  abbrev counted : List ℕ → ℕ → ℕ
  counted xs i = cond (contains xs i) (f i) 0

  summed_total : (xs : List ℕ) → Below c xs → Once xs → summed f xs ≡ total c (counted xs)
  unfolding summed contains
  summed_total [] b o = sym (total_zero c)
  summed_total (x ∷ xs) b o =
      let e : summed f xs ≡ total c (counted xs) = summed_total xs (λ i m. b i (or_right (eqb x i) m)) (once_tail x xs o) in
      let d : total c (counted (x ∷ xs)) + counted xs x ≡ total c (counted xs) + counted (x ∷ xs) x =
      total_at c (counted (x ∷ xs)) (counted xs) x (b x (or_left (contains xs x) (eq-eqb x x refl))) (λ i _ n. others i n) in
      omega (arith, rw (once_first x xs o, eq-eqb x x refl) at d)
    where
      others : (i : ℕ) → i ≢ x → counted (x ∷ xs) i ≡ counted xs i
      others i n = rw (ne_eqb x i (λ h. n (sym h)))

-- the sum over such a list of the numbers below c that pass a test
module _ (c : ℕ) (p : ℕ → Bool) (xs : List ℕ) (b : Below c xs) (o : Once xs) (members : (i : ℕ) → i < c → contains xs i ≡ p i) where
  summed_select : (f : ℕ → ℕ) → summed f xs ≡ summed f (select c p)
  summed_select f =
      summed_total c f xs b o ∙ total_same c (counted c f xs) (counted c f (select c p)) (λ i l. ap (λ (h : Bool). cond h (f i) 0) (selected i l))
      ∙ sym (summed_total c f (select c p) (λ i h. ((select_members c p i).0 h).0) (select_once_each c p))
    where
      selected : (i : ℕ) → i < c → contains xs i ≡ contains (select c p) i
      selected i l = same_tests (contains xs i) (contains (select c p) i)
          (λ h. (select_members c p i).1 (l, sym (members i l) ∙ h)) (λ h. members i l ∙ ((select_members c p i).0 h).1)

  pub listed_length : length xs ≡ length (select c p)
  listed_length = length_summed xs ∙ summed_select (λ i. 1) ∙ sym (length_summed (select c p))

  pub listed_out : (t : List ℕ) (x : ℕ) → pointers_out t xs x ≡ pointers_out t (select c p) x
  listed_out t x = out_summed t x xs ∙ summed_select (pointers_of t x) ∙ sym (out_summed t x (select c p))

-- where one test implies another no more numbers pass it
pub select_fewer : (c : ℕ) (p q : ℕ → Bool) → ((i : ℕ) → i < c → p i ≡ true → q i ≡ true) → length (select c p) ≤ length (select c q)
select_fewer c p q f = omega (arith, select_length c p, select_length c q, total_le c (λ i. cond (p i) 1 0) (λ i. cond (q i) 1 0) at_each)
  where
    at_each : (i : ℕ) → i < c → cond (p i) 1 0 ≤ cond (q i) 1 0
    at_each i l = ⊎_elim (λ (e : p i ≡ true). rw (e, f i l e) (omega arith)) (λ (e : p i ≡ false). rw e (omega arith)) (tested (p i))
