-- Words held that are no cells count for nothing.
use mathlib.Core.Path.{◌≡◌}
use mathlib.Core.List.{List, ◌∷◌}
use Prim.Native.Nat.{ℕ, suc, ◌≤◌, ◌<◌}
use native.Mathlib.Omega.{arith}
use Rattle.machine.specs.declared.Queue.{Queue}
use Rattle.machine.specs.Range.{occurrences}
use Rattle.machine.specs.Words.{most_cells}
use Rattle.machine.proofs.Range.{matching_other}
use Rattle.soundness.specs.Reliable.{Fields}
use Rattle.resting.specs.Rests.{At, After}
use Rattle.resting.proofs.Rows.{rests_most, rests_same}
use Rattle.roster_list.specs.Nodes.{atom_of}

module _ {c : ℕ} {s₀ hs ks : List ℕ} {f : ℕ → Fields} {t : List ℕ} {q : Queue} {s : List ℕ} where
  -- other words, each cell held as often
  pub after_same : ((i : ℕ) → i < c → occurrences (suc i) hs ≡ occurrences (suc i) ks) → After c s₀ hs f t q s → After c s₀ ks f t q s
  after_same e a = record {
    at = record { cells = a.at.cells; rests = rests_same (λ i l. e i (rw a.at.cells at l)) a.at.rests; enough = a.at.enough; past = a.at.past };
    clear = a.clear;
  }

-- in another order
pub after_swap : {c : ℕ} {s₀ hs : List ℕ} {f : ℕ → Fields} {t : List ℕ} {q : Queue} {s : List ℕ} {x y : ℕ} → After c s₀ (x ∷ y ∷ hs) f t q s → After c s₀ (y ∷ x ∷ hs) f t q s
unfolding occurrences
after_swap a = after_same (λ i l. omega arith) a

module _ {c : ℕ} {s₀ hs : List ℕ} {f : ℕ → Fields} {t : List ℕ} {q : Queue} {s : List ℕ} {w : ℕ} where
  -- a word that is no cell
  other_drops : ((i : ℕ) → i < c → w ≡ suc i → ⊥) → After c s₀ (w ∷ hs) f t q s → After c s₀ hs f t q s
  unfolding occurrences
  other_drops none a = after_same (λ i l. omega (arith, matching_other w (suc i) 1 (none i l))) a

  other_joins : ((i : ℕ) → i < c → w ≡ suc i → ⊥) → After c s₀ hs f t q s → After c s₀ (w ∷ hs) f t q s
  unfolding occurrences
  other_joins none a = after_same (λ i l. omega (arith, matching_other w (suc i) 1 (none i l))) a

pub most_cells_lem : {c : ℕ} {s₀ hs : List ℕ} {f : ℕ → Fields} {t : List ℕ} {q : Queue} {s : List ℕ} → At c s₀ hs f t q s → c ≤ most_cells
most_cells_lem k = omega (arith, k.cells, rests_most k.rests)

module _ {c : ℕ} {s₀ hs : List ℕ} {f : ℕ → Fields} {t : List ℕ} {q : Queue} {s : List ℕ} {w : ℕ} (v : ℕ) (e : w ≡ atom_of v) where
  -- an atom
  pub atom_drops : After c s₀ (w ∷ hs) f t q s → After c s₀ hs f t q s
  atom_drops a = other_drops (λ i l d. omega (arith, e, d, l, most_cells_lem a.at)) a

  pub atom_joins : After c s₀ hs f t q s → After c s₀ (w ∷ hs) f t q s
  atom_joins a = other_joins (λ i l d. omega (arith, e, d, l, most_cells_lem a.at)) a

module _ {c : ℕ} {s₀ hs : List ℕ} {f : ℕ → Fields} {t : List ℕ} {q : Queue} {s : List ℕ} where
  -- nil
  pub nil_drops : After c s₀ (0 ∷ hs) f t q s → After c s₀ hs f t q s
  nil_drops a = other_drops (λ i l d. omega arith) a
