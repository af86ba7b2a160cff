-- The sweep in one descending pass.
use Rattle.std.specs.Prelude.{◌≡◌, Bool, cond, not, ◌&&◌, List, [], ◌∷◌, ℕ, length}
use Rattle.machine.specs.Range.{select}
use Rattle.machine.specs.Table.{capacity, in_use}
use Rattle.machine.specs.Step.{swept}
use Rattle.marks.specs.Marks.{is_marked}

-- in use and not marked in the scratch s
unfoldable pub is_dead : List ℕ → List ℕ → ℕ → Bool
is_dead t s i = not (is_marked s i) && in_use t i

-- one cell of the pass
unfoldable pub passed : List ℕ → List ℕ → ℕ → List ℕ
passed t s i = cond (is_dead t s i) (swept t (i ∷ [])) t

pub record Passes (t s : List ℕ) (i : ℕ) (t' : List ℕ) (n : ℕ) : Type 0 where
  pub table : t' ≡ passed t s i
  pub number : n ≡ cond (is_dead t s i) 1 0

-- the table swept by the marks in s, and the number of cells freed
pub record Sweeps (t s t' : List ℕ) (n : ℕ) : Type 0 where
  pub table : t' ≡ swept t (select (capacity t) (is_dead t s))
  pub number : n ≡ length (select (capacity t) (is_dead t s))
