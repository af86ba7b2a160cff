-- Counts in the scratch: one word up or down.
use mathlib.Core.Path.{◌≡◌, refl, sym, ap, ◌∙◌}
use mathlib.Core.Logic.{⊎_elim}
use mathlib.Core.Bool.{Bool, true, false}
use mathlib.Core.List.{List}
use Prim.Native.Nat.{ℕ, suc, ◌+◌, ◌-◌, ◌≤◌, ◌<◌}
use native.Mathlib.Omega.{arith}
use lib.Dec.{eqb}
use lib.ListN.{length, get_or, set, drop}
use lib.Seq.{get_or-set_same, get_or-set_other, drop-set-lt}
use borrow.Author.Tests.{eqb-true, eqb-false}
use Rattle.machine.specs.Range.{matching}
use Rattle.machine.specs.Table.{capacity, scratch_words}
use Rattle.machine.specs.Words.{is_cell}
use Rattle.machine.proofs.Range.{tested, not_both, matching_same, matching_other}
use Rattle.machine.proofs.Names.{matching_few}
use Rattle.machine.proofs.Words.{index_cell}
use Rattle.counts.proofs.Cells.{bounds}
use Rattle.marks.proofs.Scratch.{cell_word, word_within_lem}
use Rattle.scratch_counts.specs.Counts.{CountUp, CountDown, Below}

-- a word that the code found to be a cell of c
pub cell_bounds : (c w : ℕ) {r : Bool} → r ≡ is_cell c w → r ≡ true → (1 ≤ w) × (w ≤ c)
cell_bounds c w e h = bounds c w (sym e ∙ h)

-- and it has a word in the scratch
pub cell_place : (c w n : ℕ) {r : Bool} → r ≡ is_cell c w → r ≡ true → scratch_words c ≤ n → w - 1 < n
cell_place c w n e h m = let b = cell_bounds c w e h in word_within_lem c (w - 1) n (omega arith) m

-- the scratch is enough for the C that the code read
pub scratch_of : (c n : ℕ) (t : List ℕ) → c ≡ capacity t → scratch_words (capacity t) ≤ n → scratch_words c ≤ n
scratch_of c n t e h = rw e h

-- a word that is no cell of c
module _ (c w : ℕ) (s : List ℕ) (no : is_cell c w ≡ false) where
  other_word : (i : ℕ) → i < c → matching w (suc i) 1 ≡ 0
  other_word i l = matching_other w (suc i) 1 (λ e. not_both (index_cell c i l) (rw e at no))

  pub up_none : CountUp c w s s
  up_none = record { each = λ i l. omega (arith, other_word i l); past = refl }

  pub down_none : CountDown c w s s
  down_none = record { each = λ i l. omega (arith, other_word i l); past = refl }

-- a cell's count written
module _ (c w v : ℕ) (s : List ℕ) (number : 1 ≤ w) (low : w ≤ c) (enough : scratch_words c ≤ length s) where
  abbrev s' : List ℕ
  s' = set s (w - 1) v

  past : drop (scratch_words c) s' ≡ drop (scratch_words c) s
  past = drop-set-lt (scratch_words c) s (w - 1) v (cell_word c (w - 1) (omega arith))

  -- the count of the cell, and of any other
  here : (i : ℕ) → w ≡ suc i → get_or s' i 0 ≡ v
  here i e = let d : w - 1 ≡ i = omega arith in rw d (get_or-set_same s i v 0 (word_within_lem c i (length s) (omega arith) enough))

  other : (i : ℕ) → (w ≡ suc i → ⊥) → get_or s' i 0 ≡ get_or s i 0
  other i d = get_or-set_other s (w - 1) i v 0 (λ e. d (omega arith))

  at_word : (i : ℕ) → w ≡ suc i → get_or s (w - 1) 0 ≡ get_or s i 0
  at_word i e = ap (λ (n : ℕ). get_or s n 0) (omega arith)

  pub up_here : v ≡ get_or s (w - 1) 0 + 1 → CountUp c w s s'
  up_here e = record {
    each = λ i l. ⊎_elim
        (λ b. let d = eqb-true w (suc i) b in omega (arith, here i d, at_word i d, matching_same w (suc i) 1 d))
        (λ b. let d = eqb-false w (suc i) b in omega (arith, other i d, matching_other w (suc i) 1 d))
        (tested (eqb w (suc i)));
    past = past;
  }

  pub down_here : v ≡ get_or s (w - 1) 0 - 1 → CountDown c w s s'
  down_here e = record {
    each = λ i l. ⊎_elim
        (λ b. let d = eqb-true w (suc i) b in omega (arith, here i d, at_word i d, matching_same w (suc i) 1 d))
        (λ b. let d = eqb-false w (suc i) b in omega (arith, other i d, matching_other w (suc i) 1 d))
        (tested (eqb w (suc i)));
    past = past;
  }

-- one more for one word
pub below_more : (c w n : ℕ) (s s' : List ℕ) → Below c n s → CountUp c w s s' → Below c (n + 1) s'
below_more c w n s s' h k i l = omega (arith, h i l, k.each i l, matching_few w (suc i))
