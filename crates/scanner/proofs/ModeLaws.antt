-- The stack of modes: what pushing and popping do, and that a word has room for its modes.
use mathlib.Core.Path.{◌≡◌, refl, sym, ap, ◌∙◌}
use mathlib.Core.Bool.{Bool, true, false}
use mathlib.Core.List.{List}
use Prim.Native.Nat.{ℕ, zero, suc, ◌+◌, ◌-◌, ◌*◌, ◌/◌, ◌%◌, ◌^◌, ◌≤◌, ◌<◌}
use native.Mathlib.Nat.{pow-succ', pow-le-pow_right}
use native.Mathlib.Numerals.{add-one}
use native.Mathlib.Omega.{arith}
use lib.Dec.{eqb}
use lib.ListN.{length, get_or, set, length-set, replicate, length-replicate}
use lib.Seq.{get_or-set_same, get_or-set_other, set-set, set-get_or}
use borrow.Author.Tests.{eqb-true, eqb-false}
use Rattle.scanner.specs.declared.modes.Mode.{Mode}
use Rattle.scanner.specs.Modes.{digit, in_word, words_of_modes, most_modes, popped, unstacked, Stacked, Pushed, Popped}

pub digit_small : (m : Mode) → digit m < 4
digit_small Mode.Empty = omega arith
digit_small Mode.Started = omega arith
digit_small Mode.Dotted = omega arith
digit_small Mode.Full = omega arith

pub stacked_length : (n : ℕ) (words : List ℕ) → Stacked n words → length words ≡ words_of_modes
unfolding Stacked popped
stacked_length zero words s = s.0
stacked_length (suc n) words s = sym (length-set words (n / in_word) _) ∙ stacked_length n (popped n words) s

pub none_stacked : Stacked 0 (replicate words_of_modes 0)
unfolding Stacked
none_stacked = (length-replicate {A = ℕ} words_of_modes 0, zeros words_of_modes)
  where
    zeros : (n k : ℕ) → ◌≡◌ {A = ℕ} (get_or (replicate n 0) k 0) 0
    zeros zero k = refl
    zeros (suc n) zero = refl
    zeros (suc n) (suc k) = zeros n k

pub unstacked_length : (n : ℕ) (words : List ℕ) → length (unstacked n words) ≡ n
unfolding unstacked
unstacked_length zero words = refl
unstacked_length (suc n) words = ap suc (unstacked_length n (popped n words))

-- a word that is not full yet has so many modes, and no more
word_below : (n : ℕ) (words : List ℕ) → Stacked n words → n ≤ most_modes → (k : ℕ) → n ≤ in_word * k + in_word → get_or words k 0 < 4 ^ (n - in_word * k)
unfolding Stacked popped
word_below zero words s most k h = let e : 0 - in_word * k ≡ 0 = omega arith in rw (e, s.1 k) (omega arith)
word_below (suc n) words s most k h =
    go (eqb k (n / in_word)) refl (word_below n (popped n words) s (omega arith) k (omega arith)) (stacked_length n (popped n words) s)
  where
    go : (t : Bool) → eqb k (n / in_word) ≡ t → get_or (popped n words) k 0 < 4 ^ (n - in_word * k) → length (popped n words) ≡ words_of_modes
        → get_or words k 0 < 4 ^ (suc n - in_word * k)
    go true same below size =
        let e = eqb-true k (n / in_word) same in
        let l : suc n - in_word * k ≡ suc (n - in_word * k) = omega arith in
        let inside : n / in_word < length words = omega (arith, length-set words (n / in_word) (get_or words (n / in_word) 0 / 4)) in
        let b = rw (e, get_or-set_same words (n / in_word) (get_or words (n / in_word) 0 / 4) 0 inside) at below in
        rw (l, pow-succ' 4 (n - in_word * k), e) (omega arith)
    go false other below size =
        let d = eqb-false k (n / in_word) other in
        let l : suc n - in_word * k ≡ n - in_word * k = omega arith in
        rw l (rw (get_or-set_other words (n / in_word) k (get_or words (n / in_word) 0 / 4) 0 d) at below)

module _ (n : ℕ) (words : List ℕ) (s : Stacked n words) where
  -- so one mode more fits
  pub room : n < most_modes → get_or words (n / in_word) 0 < 4611686018427387904
  room h =
      let below = word_below n words s (omega arith) (n / in_word) (omega arith) in
      let four : 0 < 4 = omega arith in
      let digits : n - in_word * (n / in_word) ≤ 31 = omega arith in
      let most : 4 ^ (n - in_word * (n / in_word)) ≤ 4 ^ 31 = pow-le-pow_right four digits in
      let number : 4 ^ 31 ≡ 4611686018427387904 = refl in
      omega arith

  pub pushes : (mode : ℕ) → mode < 4 → n < most_modes → Pushed n mode words (set words (n / in_word) (4 * get_or words (n / in_word) 0 + mode))
  unfolding unstacked Stacked popped
  pushes mode m h = record { modes = rw (add-one n, top, back); stacked = rw (add-one n, back) s }
    where
      inside : n / in_word < length words
      inside = omega (arith, stacked_length n words s)

      word : ℕ
      word = get_or words (n / in_word) 0

      same : get_or (set words (n / in_word) (4 * word + mode)) (n / in_word) 0 ≡ 4 * word + mode
      same = get_or-set_same words (n / in_word) (4 * word + mode) 0 inside

      top : get_or (set words (n / in_word) (4 * word + mode)) (n / in_word) 0 % 4 ≡ mode
      top = rw same (omega arith)

      back : popped n (set words (n / in_word) (4 * word + mode)) ≡ words
      back =
          let less : (4 * word + mode) / 4 ≡ word = omega arith in
          rw (same, set-set words (n / in_word) (4 * word + mode) ((4 * word + mode) / 4), less, set-get_or words (n / in_word) 0)

pub pops : (n : ℕ) (words : List ℕ) → Stacked n words → 1 ≤ n
    → Popped n (get_or words ((n - 1) / in_word) 0 % 4) words (set words ((n - 1) / in_word) (get_or words ((n - 1) / in_word) 0 / 4))
unfolding unstacked Stacked popped
pops zero words s h = absurd (omega arith)
pops (suc n) words s h = let e : suc n - 1 ≡ n = omega arith in rw e (record { modes = rw e; stacked = rw e s })
