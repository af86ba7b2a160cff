-- What a test for a cell says.
use mathlib.Core.Path.{◌≡◌}
use mathlib.Core.Bool.{Bool, true}
use Prim.Native.Nat.{ℕ, ◌≤◌}
use native.Mathlib.Omega.{arith}
use Rattle.machine.specs.Words.{is_cell}
use Rattle.machine.proofs.Words.{cell_index, cell_number_lem}

-- the test's outcome, with C read from the table
pub told : (w : ℕ) {r b : Bool} {n c : ℕ} → n ≡ c → r ≡ is_cell n w → r ≡ b → is_cell c w ≡ b
told w e h k = cc

pub bounds : (c w : ℕ) → is_cell c w ≡ true → (1 ≤ w) × (w ≤ c)
bounds c w h = let p = cell_index c w h in let n = cell_number_lem c w h in (omega arith, omega arith)
