-- Which cells are freed: those that mark and sweep find, or those that hang on the watched cell.
use mathlib.Core.Path.{◌≡◌, ap, ◌∙◌}
use mathlib.Core.Bool.{Bool, not, ◌&&◌, and_comm}
use mathlib.Core.List.{List, [], ◌∷◌}
use Prim.Native.Nat.{ℕ, zero, suc, ◌<◌}
use native.Mathlib.Omega.{arith}
use lib.ListN.{length, get_or}
use Rattle.machine.specs.Range.{select}
use Rattle.machine.specs.Table.{capacity, scratch_words, in_use}
use Rattle.machine.specs.Reached.{reached}
use Rattle.machine.specs.Step.{unreached, swept, cleared}
use Rattle.machine.specs.Facts.{Ascending}
use Rattle.machine.specs.Suspects.{is_suspect, is_kept, local_dead}
use Rattle.machine.proofs.Lists.{Indices}
use Rattle.machine.proofs.Scratch.{cleared_same}
use Rattle.machine.proofs.Select.{select_indices, select_ascending, select_same}
use Rattle.marks.specs.Marks.{Marks}
use Rattle.collector.specs.FreedCells.{Listed}
use Rattle.collector.specs.SweepPass.{is_dead, Sweeps}
use Rattle.collector.specs.Steps.{Frees}

-- all of them are cells
pub unreached_indices : (t : List ℕ) → Indices (capacity t) (unreached t)
unfolding unreached
unreached_indices t = select_indices (capacity t) (λ i. in_use t i && not (reached t i))

pub local_indices : (t : List ℕ) (w : ℕ) → Indices (capacity t) (local_dead t w)
unfolding local_dead
local_indices t w = select_indices (capacity t) (λ i. is_suspect t w i && not (is_kept t w i))

local_ascending : (t : List ℕ) (w : ℕ) → Ascending (local_dead t w)
unfolding local_dead
local_ascending t w = select_ascending (capacity t) (λ i. is_suspect t w i && not (is_kept t w i))

-- mark and sweep
pub collects : (t s s₁ t' s' : List ℕ) (c n : ℕ) → c ≡ capacity t → Marks t s s₁ → Sweeps t s₁ t' n → s' ≡ cleared (scratch_words c) s₁
    → Frees t (unreached t) s t' s' n
collects t s s₁ t' s' c n e m w f = record {
  table = w.table ∙ ap (swept t) dead;
  number = w.number ∙ ap length dead;
  scratch = f ∙ ap (λ (k : ℕ). cleared (scratch_words k) s₁) e ∙ cleared_same (scratch_words (capacity t)) s s₁ m.past;
}
  where
    dead : select (capacity t) (is_dead t s₁) ≡ unreached t
    dead =
        unfold unreached in
        select_same (capacity t) (is_dead t s₁) (λ i. in_use t i && not (reached t i))
        (λ i l. unfold is_dead in (ap (λ (b : Bool). not b && in_use t i) (m.marks i l) ∙ and_comm (not (reached t i)) (in_use t i)))

index_at : (c : ℕ) (is : List ℕ) → Indices c is → (i : ℕ) → i < length is → get_or is i 0 < c
index_at c [] h i l = elim l [ ]
index_at c (j ∷ is) h zero l = h.0
index_at c (j ∷ is) h (suc i) l = index_at c is h.1 i (omega arith)

-- the list is what the local way tells
module _ (t : List ℕ) (w : ℕ) (dead : List ℕ) (f : dead ≡ local_dead t w) where
  pub listed : Listed (capacity t) dead
  listed = rw f (record { below = index_at (capacity t) (local_dead t w) (local_indices t w); ascending = local_ascending t w })

  pub frees_found : (c : ℕ) → c ≡ capacity t → (s t' s' : List ℕ) → t' ≡ swept t dead → s' ≡ cleared (scratch_words c) s
      → (n : ℕ) → n ≡ length dead → Frees t (local_dead t w) s t' s' n
  frees_found c e s t' s' g k n m = record {
    table = g ∙ ap (swept t) f;
    number = m ∙ ap length f;
    scratch = k ∙ ap (λ (m : ℕ). cleared (scratch_words m) s) e;
  }
