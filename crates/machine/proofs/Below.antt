-- The numbers below n as the library lists them: what an iterator over a range tests and counts.
use Rattle.std.proofs.Common.{◌≡◌, refl, Bool, true, false, Option, List, cond, [], ◌∷◌, ◌++◌, ℕ, zero, suc, ◌+◌, zero-add, ap, ◌∙◌, arith, add-one, take, get_or, length, ◌≤◌, ◌&&◌}
use Rattle.std.specs.List.{list_all, count_by, range_with_len}
use Rattle.std.proofs.lemmas.List.Folds.{list_all-append, list_all_more}
use Rattle.std.proofs.lemmas.List.Sums.{sum_by-append}
use mathlib.Core.Bool.{and-true}
use Rattle.std.specs.Fn.{Called}
use Rattle.std.specs.Iterator.{YieldsThen}
use Rattle.std.specs.List.{FoldsTo}
use Rattle.std.specs.Option.{MatchOption}
use Rattle.std.specs.declared.ops.Range.{Range}
use Rattle.std.proofs.iter.Yields.{nat_range_steps}
use Rattle.std.proofs.lemmas.Iterator.{YieldsList-from_range}
use Rattle.std.proofs.lemmas.Iterator.Search.{all_from_yields_List}
use denote.Param.Members.{Mut}
use Rattle.machine.specs.Range.{every, total}

numbers_more : (a n : ℕ) → range_with_len a (suc n) ≡ range_with_len a n ++ ((a + n) ∷ [])
numbers_more a zero = grind arith
numbers_more a (suc n) = let e : a + 1 + n ≡ a + suc n = omega arith in rw (numbers_more (a + 1) n, e)

pub all_below : (n : ℕ) (p : ℕ → Bool) → list_all p (range_with_len 0 n) ≡ every n p
unfolding every
all_below zero p = refl
all_below (suc n) p =
    ap (list_all p) (numbers_more 0 n) ∙ list_all-append p (range_with_len 0 n) ((0 + n) ∷ []) ∙ simp (all_below n p, zero-add, and-true)

pub count_below : (n : ℕ) (p : ℕ → Bool) → count_by p (range_with_len 0 n) ≡ total n (λ i. cond (p i) 1 0)
unfolding total
count_below zero p = refl
count_below (suc n) p =
    ap (count_by p) (numbers_more 0 n) ∙ sum_by-append (λ x. cond (p x) 1 0) (range_with_len 0 n) ((0 + n) ∷ []) ∙ rw (count_below n p, zero-add n, zero-add) refl

-- what `all` answers over the numbers below n, where the closure computes the test p
pub all_numbers : {F : Type 0} {g : Mut F (ℕ × Unit {0}) Bool} {s : Range ℕ} (p : ℕ → Bool) (n : ℕ) (u : Range ℕ) (f : F) (r : Bool)
    → (xs : List ℕ) × (o : Option ℕ) × (j : F) × YieldsThen nat_range_steps s xs o u × FoldsTo (λ h x q. Called g h (x, tt) true q) f xs j
    × MatchOption o (r ≡ true) (λ x. (r ≡ false) × ((h : F) × Called g j (x, tt) false h)) → s ≡ record { start = 0; end = n }
    → ((x : ℕ) (b : Bool) (q : F) → Called g f (x, tt) b q → (q ≡ f) × (b ≡ p x)) → r ≡ every n p
all_numbers p n u f r ran e closure = all_from_yields_List p u f r ran (YieldsList-from_range 0 n n e (omega arith)) closure ∙ all_below n p

-- a test of the first n words of a list
pub front_all : (n : ℕ) (s : List ℕ) (p : ℕ → Bool) → n ≤ length s → list_all p (take n s) ≡ every n (λ i. p (get_or s i 0))
unfolding every
front_all zero s p h = refl
front_all (suc n) s p h =
    (rw add-one at (list_all_more p s n 0 (omega arith))) ∙ ap (λ b. b && p (get_or s n 0)) (front_all n s p (omega arith))
