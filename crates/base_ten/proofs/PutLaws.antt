-- Texts written one after the other into a buffer.
use mathlib.Core.Path.{◌≡◌, refl, sym, ap, ◌∙◌}
use mathlib.Core.Bool.{Bool, true, false, cond}
use mathlib.Core.List.{List, [], ◌∷◌, ◌++◌, append_assoc}
use Prim.Native.Nat.{ℕ, zero, suc, ◌+◌, ◌-◌, ◌/◌, ◌%◌, ◌≤◌, ◌<◌, zero-le}
use native.Mathlib.Nat.{add_assoc, add-zero}
use native.Mathlib.Numerals.{add-one, sub-one}
use native.Mathlib.Omega.{arith}
use lib.Dec.{ltb}
use lib.ListN.{length, take, get_or, set, length-append}
use lib.Seq.{take_all, take-suc, take-suc-set}
use borrow.Author.Tests.{lt-ltb, le-ltb, ltb-true, ltb-false}
use Rattle.base_ten.specs.Bytes.{digit_zero}
use Rattle.base_ten.specs.Decimal.{digits}
use Rattle.base_ten.specs.Put.{Put}
use Rattle.base_ten.proofs.WordLaws.{append_none}

-- two texts are one
pub put_both_lem : {a b d : List ℕ} {at m r : ℕ} {u v : List ℕ} → Put a at u b m → Put b m v d r → Put a at (u ++ v) d r
put_both_lem {a} {b} {d} {at} {m} {r} {u} {v} p q = record {
  front = q.front ∙ ap (λ (l : List ℕ). l ++ v) p.front ∙ append_assoc (take at a) u v;
  ends = q.ends ∙ ap (λ (n : ℕ). n + length v) p.ends ∙ add_assoc at (length u) (length v) ∙ ap (λ (n : ℕ). at + n) (sym (length-append u v));
}

pub put_none : (out : List ℕ) (at : ℕ) → Put out at [] out at
put_none out at = record { front = sym (append_none (take at out)); ends = omega arith }

-- one byte
pub put_byte : (out : List ℕ) (at b : ℕ) → at < length out → Put out at (b ∷ []) (set out at b) (at + 1)
put_byte out at b h = record { front = rw (add-one at) (take-suc-set out at b h); ends = refl }

-- a word's bytes, one by one
pub word_step : (out new word : List ℕ) (at i : ℕ) → i < length word → at + i < length new
    → take (at + i) new ≡ take at out ++ take i word
    → take (at + (i + 1)) (set new (at + i) (get_or word i 0)) ≡ take at out ++ take (i + 1) word
word_step out new word at i hw hn e =
    let n : at + (i + 1) ≡ suc (at + i) = omega arith in
    ap (λ (n : ℕ). take n (set new (at + i) (get_or word i 0))) n
    ∙ take-suc-set new (at + i) (get_or word i 0) hn
    ∙ ap (λ (l : List ℕ). l ++ (get_or word i 0 ∷ [])) e
    ∙ append_assoc (take at out) (take i word) (get_or word i 0 ∷ [])
    ∙ ap (λ (l : List ℕ). take at out ++ l) (sym (take-suc word i 0 hw) ∙ ap (λ (n : ℕ). take n word) (sym (add-one i)))

pub digits_none : (most n : ℕ) → most ≡ 0 → digits most n ≡ []
unfolding digits
digits_none most n e = rw e

pub digits_one : (most n : ℕ) → 0 < most → n < 10 → digits most n ≡ (digit_zero + n) ∷ []
unfolding digits
digits_one zero n h d = absurd (lt_zero h)
  where
    lt_zero : 0 < 0 → ⊥
    lt_zero p = omega arith
digits_one (suc most) n h d = rw (lt-ltb n 10 d)

pub digits_more : (most n : ℕ) → 0 < most → 10 ≤ n → digits most n ≡ digits (most - 1) (n / 10) ++ ((digit_zero + n % 10) ∷ [])
unfolding digits
digits_more zero n h d = absurd (lt_zero h)
  where
    lt_zero : 0 < 0 → ⊥
    lt_zero p = omega arith
digits_more (suc most) n h d = rw (le-ltb n 10 d, sub-one (suc most))

pub digits_length : (most n : ℕ) → length (digits most n) ≤ most
unfolding digits
digits_length zero n = zero-le
digits_length (suc most) n = go (ltb n 10) (digits_length most (n / 10))
  where
    go : (b : Bool) → length (digits most (n / 10)) ≤ most
        → length (cond b ((digit_zero + n) ∷ []) (digits most (n / 10) ++ ((digit_zero + n % 10) ∷ []))) ≤ suc most
    go true h = omega arith
    go false h = omega (arith, length-append (digits most (n / 10)) ((digit_zero + n % 10) ∷ []))

pub word_none : (out word : List ℕ) (at : ℕ) → take (at + 0) out ≡ take at out ++ take 0 word
word_none out word at = rw (add-zero at) (put_none out at).front

pub word_all : (out new word : List ℕ) (at i : ℕ) → i ≤ length word → length word ≤ i → take (at + i) new ≡ take at out ++ take i word
    → Put out at word new (at + i)
word_all out new word at i h g e = record { front = e ∙ ap (λ (l : List ℕ). take at out ++ l) (take_all i word g); ends = omega arith }

-- a text that fits before a place ends before it
pub put_within : {old new text : List ℕ} {at end : ℕ} (most : ℕ) → Put old at text new end → length text ≤ most → end ≤ at + most
put_within most p h = omega (arith, p.ends)

pub digits_some : (most n : ℕ) → 0 < most → 0 < length (digits most n)
digits_some most n h = go (ltb n 10) refl
  where
    go : (t : Bool) → ltb n 10 ≡ t → 0 < length (digits most n)
    go true e = rw (digits_one most n h (ltb-true n 10 e)) (omega arith)
    go false e = rw (digits_more most n h (ltb-false n 10 e)) (simp length-append (omega arith))
