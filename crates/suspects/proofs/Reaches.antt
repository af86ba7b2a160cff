-- Laws of what is reached from some cells: it is what a closed test allows, and it is told by the starts alone.
use mathlib.Core.Path.{◌≡◌, sym, ◌∙◌}
use mathlib.Core.Bool.{Bool, true}
use Prim.Native.Nat.{ℕ, ◌<◌}
use Rattle.machine.specs.Reached.{ReachedBy, begun, onward, reached_by}
use Rattle.machine.proofs.Reached.{computed, computes}
use Rattle.machine.proofs.Range.{same_tests}

module _ (c : ℕ) (start : ℕ → Bool) (edge : ℕ → ℕ → Bool) where
  within : (p : ℕ → Bool) → ((i : ℕ) → i < c → start i ≡ true → p i ≡ true) → ((j i : ℕ) → i < c → p j ≡ true → edge j i ≡ true → p i ≡ true)
      → {i : ℕ} → ReachedBy c start edge i → p i ≡ true
  within p f g (begun {i = i} l e) = f i l e
  within p f g (onward {j = j} {i = i} r l e) = g j i l (within p f g r) e

  -- what passes a test that the starts pass and every edge keeps
  pub reached_within : (p : ℕ → Bool) → ((i : ℕ) → i < c → start i ≡ true → p i ≡ true) → ((j i : ℕ) → i < c → p j ≡ true → edge j i ≡ true → p i ≡ true)
      → (i : ℕ) → reached_by c start edge i ≡ true → p i ≡ true
  reached_within p f g i h = within p f g (computed c start edge i h)

  pub reached_start : (i : ℕ) → i < c → start i ≡ true → reached_by c start edge i ≡ true
  reached_start i l h = computes c start edge (begun l h)

  pub reached_onward : (j i : ℕ) → i < c → reached_by c start edge j ≡ true → edge j i ≡ true → reached_by c start edge i ≡ true
  reached_onward j i l h e = computes c start edge (onward (computed c start edge j h) l e)

-- the same starts reach the same
pub reached_same : (c : ℕ) (start other : ℕ → Bool) (edge : ℕ → ℕ → Bool) → ((i : ℕ) → i < c → start i ≡ other i) → (i : ℕ) → reached_by c start edge i ≡ reached_by c other edge i
reached_same c start other edge e i =
    same_tests (reached_by c start edge i) (reached_by c other edge i) (from start other e i) (from other start (λ j l. sym (e j l)) i)
  where
    from : (s r : ℕ → Bool) → ((j : ℕ) → j < c → s j ≡ r j) → (i : ℕ) → reached_by c s edge i ≡ true → reached_by c r edge i ≡ true
    from s r d = reached_within c s edge (reached_by c r edge) (λ i l h. reached_start c r edge i l (sym (d i l) ∙ h)) (reached_onward c r edge)
