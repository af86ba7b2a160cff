-- S4: pointer counts in the scratch, cell by cell, and what the code tests of them.
use mathlib.Core.Path.{◌≡◌, refl, ap, ◌∙◌}
use mathlib.Core.Logic.{⊎_elim}
use mathlib.Core.Bool.{true, false}
use mathlib.Core.List.{List}
use Prim.Native.Nat.{ℕ, zero, suc, ◌+◌, ◌-◌, ◌*◌, ◌≤◌, ◌<◌}
use native.Mathlib.Omega.{arith}
use native.Mathlib.Numerals.{sub-one}
use lib.Dec.{leb}
use lib.ListN.{length, get_or, drop}
use Rattle.machine.specs.Counts.{pointers, pointers_from}
use Rattle.machine.specs.Range.{total}
use Rattle.machine.specs.Step.{cleared}
use Rattle.machine.specs.Table.{left, right, capacity, scratch_words, word_at, in_use}
use Rattle.machine.specs.Words.{is_cell, ceiling, most_cells}
use Rattle.machine.proofs.Range.{tested}
use Rattle.machine.proofs.Scratch.{cleared_zero, past_cleared}
use Rattle.marks.proofs.Scratch.{cell_word}
use Rattle.audit_cells.proofs.Tests.{total_more}
use Rattle.scratch_counts.specs.Counts.{CountUp, Below}
use Rattle.machine.proofs.Names.{matching_few}
use Rattle.audit_pointers.specs.PointerCounts.{most_pointers, CountCell, Counted, count_within, word_within}

-- the pointers out of one cell
module _ (t : List ℕ) (j : ℕ) where
  pub cell_counted : (n : ℕ) (s s₁ s₂ : List ℕ) (l r : ℕ) → n ≡ capacity t → in_use t j ≡ true → l ≡ word_at t j left → r ≡ word_at t j right
      → CountUp n l s s₁ → CountUp n r s₁ s₂ → CountCell t j s s₂
  unfolding pointers_from
  cell_counted n s s₁ s₂ l r e u el er h k = record {
    each = λ i b. rw (u, ← el, ← er) (omega (arith, h.each i (omega arith), k.each i (omega arith)));
    past = rw (← e) (k.past ∙ h.past);
  }

  pub cell_free_lem : (s : List ℕ) → in_use t j ≡ false → CountCell t j s s
  unfolding pointers_from
  cell_free_lem s u = record { each = λ i b. rw u (omega arith); past = refl }

  pub two_most : (x : ℕ) → pointers_from t x j ≤ 2
  unfolding pointers_from
  two_most x = ⊎_elim
      (λ (e : in_use t j ≡ true). rw e (omega (arith, matching_few (word_at t j left) x, matching_few (word_at t j right) x)))
      (λ (e : in_use t j ≡ false). rw e (omega arith)) (tested (in_use t j))

pub pointers_few : (t : List ℕ) (x n : ℕ) → total n (pointers_from t x) ≤ 2 * n
unfolding total
pointers_few t x zero = omega arith
pointers_few t x (suc n) = omega (arith, pointers_few t x n, two_most t n x)

-- what the code tests of a word
module _ (c w : ℕ) (s : List ℕ) where
  pub no_cell_within : is_cell c w ≡ false → word_within c s w ≡ true
  unfolding word_within
  no_cell_within h = rw h

  pub cell_within : is_cell c w ≡ true → leb (get_or s (w - 1) 0) ceiling ≡ word_within c s w
  unfolding word_within count_within
  cell_within h = rw (h, sub-one w)

pub nil_within : (c : ℕ) (s : List ℕ) → word_within c s 0 ≡ true
nil_within c s = no_cell_within c 0 s (unfold is_cell in refl)

-- the first n cells counted, from the scratch s₀ that was cleared
pub record Counting (t : List ℕ) (n c : ℕ) (s₀ s : List ℕ) : Type 0 where
  pub cells : c ≡ capacity t
  pub each : (i : ℕ) → i < c → get_or s i 0 ≡ total n (pointers_from t (suc i))
  pub past : drop (scratch_words c) s ≡ drop (scratch_words c) s₀
  pub same : length s ≡ length s₀

module _ (t : List ℕ) (c : ℕ) where
  pub counting_none : (r s : List ℕ) → c ≡ capacity t → s ≡ cleared (scratch_words c) r → Counting t 0 c s s
  unfolding total
  counting_none r s e h = record {
    cells = e;
    each = λ i l. ap (λ (z : List ℕ). get_or z i 0) h ∙ cleared_zero (scratch_words c) r i (cell_word c i l);
    past = refl;
    same = refl;
  }

  pub counting_more : (n : ℕ) (s₀ s s' : List ℕ) → Counting t n c s₀ s → CountCell t n s s' → length s' ≡ length s → Counting t (n + 1) c s₀ s'
  counting_more n s₀ s s' h k e = record {
    cells = h.cells;
    each = λ i l. let m = h.cells in omega (arith, h.each i l, k.each i (omega arith), total_more n (pointers_from t (suc i)));
    past = (rw (← h.cells) at k.past) ∙ h.past;
    same = e ∙ h.same;
  }

  pub counting_below : (n : ℕ) (s₀ s : List ℕ) → Counting t n c s₀ s → n ≤ most_cells → Below c most_pointers s
  counting_below n s₀ s h l i b = omega (arith, h.each i b, pointers_few t (suc i) n)

  pub counting_done : (n : ℕ) (r s₀ s : List ℕ) → Counting t n c s₀ s → n ≡ c → s₀ ≡ cleared (scratch_words c) r → Counted t c r s
  unfolding pointers
  counting_done n r s₀ s h e k = record {
    each = λ i l. h.each i l ∙ ap (λ (m : ℕ). total m (pointers_from t (suc i))) (e ∙ h.cells);
    past = h.past ∙ ap (drop (scratch_words c)) k ∙ past_cleared (scratch_words c) r;
  }
