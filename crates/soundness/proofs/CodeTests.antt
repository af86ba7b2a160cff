-- The code's tests are the paper's on a sound store.
use mathlib.Core.Path.{◌≡◌, refl}
use mathlib.Core.Logic.{⊎_elim, ◌↔◌}
use mathlib.Core.Bool.{false}
use mathlib.Core.List.{List, [], ◌∷◌}
use Prim.Native.Nat.{ℕ, suc, ◌+◌, ◌≤◌, ◌<◌}
use native.Mathlib.Omega.{arith}
use Rattle.machine.specs.declared.Queue.{Queue}
use Rattle.machine.specs.Range.{occurrences}
use Rattle.machine.specs.Words.{ceiling}
use Rattle.machine.specs.Table.{root_count, cell_count, capacity, first_free, word_at, is_free}
use Rattle.machine.specs.Queue.{waiting}
use Rattle.machine.specs.Packets.{root, cell, plus, minus, waiting_change}
use Rattle.machine.specs.Counts.{pointers}
use Rattle.machine.specs.Questions.{cell_free}
use Rattle.machine.specs.Audit.{Sound}
use Rattle.machine.specs.Facts.{Chain}
use Rattle.machine.proofs.Range.{tested, exists_some, not_both, matching_same}
use Rattle.soundness.proofs.Views.{shown, pointers_seen, seen_waiting, stages_last}
use Rattle.soundness.proofs.Facts.{Facts, sound_facts, all_below}
use Rattle.soundness.proofs.HeldCounts.{final_sum, final_most}
use Rattle.soundness.proofs.FreeChain.{chain_some, chain_free}

module _ (t : List ℕ) (q : Queue) (s : Sound t q) where
  f : Facts t (waiting q)
  f = sound_facts t q s

  -- question 10 goes by the pointers: they are the cell count with its waiting changes
  pub pointers_counted : (i : ℕ) → i < capacity t
      → word_at t i cell_count + waiting_change cell plus (suc i) (waiting q) ≡ pointers t (suc i) + waiting_change cell minus (suc i) (waiting q)
  pointers_counted i l = omega (arith, f.counts i l, seen_waiting (capacity t) (shown t) (waiting q) i (all_below t (waiting q) f) f.stages, pointers_seen t i)

  -- question 8: the first free end is 0 exactly where no cell is free
  pub first_free_lem : (first_free t ≡ 0) ↔ (cell_free t ≡ false)
  unfolding cell_free
  first_free_lem = (λ e. ⊎_elim (λ c. absurd (chain_some t f.free f.chain c e)) (λ c. c) (tested (cell_free t)), none f.free f.chain)
    where
      none : (is : List ℕ) → Chain t is → cell_free t ≡ false → first_free t ≡ 0
      none [] h c = h.linked
      none (i ∷ is) h c =
          let l = h.linked.1 in
          let once : 1 ≤ occurrences i (i ∷ is) = unfold occurrences in omega (arith, matching_same i i 1 refl) in
          absurd (not_both (exists_some (capacity t) (is_free t) i l (chain_free t (i ∷ is) h i l once)) c)

  -- questions 9 and 10 hold of every cell before a call, so that a call need ask them only of cells that it raises
  pub held_most : (i : ℕ) → i < capacity t
      → word_at t i root_count + waiting_change root plus (suc i) (waiting q) ≤ ceiling + waiting_change root minus (suc i) (waiting q)
  held_most i l =
      omega (
        arith,
        final_sum (suc i) (word_at t i root_count) (waiting q) (f.replay i l),
        final_most (suc i) (word_at t i root_count) (waiting q) (f.roots i l)
            (f.replay i l),
      )

  pub pointers_most : (i : ℕ) → i < capacity t → pointers t (suc i) ≤ ceiling
  pointers_most i l = omega (arith, pointers_seen t i, stages_last (capacity t) (shown t) (waiting q) f.stages i l)
