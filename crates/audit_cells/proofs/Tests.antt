-- Tests that fail, and a range tested one number at a time.
use mathlib.Core.Path.{◌≡◌, refl, ap₂}
use mathlib.Core.Bool.{Bool, true, false, ◌&&◌}
use Prim.Native.Nat.{ℕ, zero, suc, pred, ◌+◌, ◌-◌, ◌<◌}
use native.Mathlib.Numerals.{add-one, sub-one}
use native.Mathlib.Omega.{arith}
use Rattle.machine.specs.Range.{every, total}
use Rattle.machine.proofs.Range.{not_both, and_both, every_at, refuted}

pub and_no_first : {a : Bool} (b : Bool) → a ≡ false → a && b ≡ false
and_no_first b h = rw h

pub and_no_second : (a : Bool) {b : Bool} → b ≡ false → a && b ≡ false
and_no_second true h = h
and_no_second false h = refl

pub and_decides : {a : Bool} (b : Bool) → a ≡ true → b ≡ a && b
and_decides b h = rw h

pub every_none : (p : ℕ → Bool) → every 0 p ≡ true
unfolding every
every_none p = refl

pub every_more : (n : ℕ) (p : ℕ → Bool) → every n p ≡ true → p n ≡ true → every (n + 1) p ≡ true
unfolding every
every_more n p h k = rw add-one (and_both h k)

pub every_fails : (n : ℕ) (p : ℕ → Bool) (i : ℕ) → i < n → p i ≡ false → every n p ≡ false
every_fails n p i l h = refuted (every n p) (λ e. not_both (every_at n p e i l) h)

pub every_same : (n : ℕ) (p q : ℕ → Bool) → ((i : ℕ) → i < n → p i ≡ q i) → every n p ≡ every n q
unfolding every
every_same zero p q e = refl
every_same (suc n) p q e = ap₂ ◌&&◌ (every_same n p q (λ i l. e i (omega arith))) (e n (omega arith))

pub total_more : (n : ℕ) (f : ℕ → ℕ) → total (n + 1) f ≡ total n f + f n
unfolding total
total_more n f = rw add-one

-- a cell's index from its number, as the code and the definitions have it
pub index_of : (w : ℕ) → w - 1 ≡ pred w
index_of w = sub-one w
