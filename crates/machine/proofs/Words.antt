-- Laws of words.
use mathlib.Core.Path.{◌≡◌}
use mathlib.Core.Bool.{true}
use Prim.Native.Nat.{ℕ, suc, pred, ◌≤◌, ◌<◌}
use native.Mathlib.Omega.{arith}
use lib.Dec.{leb}
use borrow.Author.Tests.{leb-true, le-leb}
use Rattle.machine.specs.Words.{is_cell}
use Rattle.machine.proofs.Range.{and_both, and_first, and_second}

-- a cell of c cells is the number of an index below c
pub cell_index : (c w : ℕ) → is_cell c w ≡ true → pred w < c
unfolding is_cell
cell_index c w h =
    let l : 1 ≤ w = leb-true 1 w (and_first (leb 1 w) (leb w c) h) in
    let m : w ≤ c = leb-true w c (and_second (leb 1 w) (leb w c) h) in
    omega arith

pub cell_number_lem : (c w : ℕ) → is_cell c w ≡ true → w ≡ suc (pred w)
unfolding is_cell
cell_number_lem c w h =
    let l : 1 ≤ w = leb-true 1 w (and_first (leb 1 w) (leb w c) h) in
    omega arith

pub index_cell : (c i : ℕ) → i < c → is_cell c (suc i) ≡ true
unfolding is_cell
index_cell c i h = and_both (le-leb 1 (suc i) (omega arith)) (le-leb (suc i) c h)
