-- Which cells are summed over, and one of them more.
use mathlib.Core.Path.{◌≡◌, refl, sym, ap, ◌∙◌}
use mathlib.Core.Logic.{⊎_elim}
use mathlib.Core.Bool.{Bool, true, cond}
use mathlib.Core.List.{List}
use Prim.Native.Nat.{ℕ, suc, pred, ◌+◌, ◌-◌, ◌≤◌, ◌<◌}
use native.Mathlib.Omega.{arith}
use native.Mathlib.Numerals.{add-one, sub-one}
use lib.ListN.{length}
use borrow.Author.Tests.{le-leb, lt-leb}
use Rattle.machine.specs.Range.{total}
use Rattle.machine.specs.Words.{is_cell}
use Rattle.machine.specs.Table.{root_count, capacity, table_length, word_at}
use Rattle.machine.proofs.Range.{lt_or_ge, refuted, and_both}
use Rattle.machine.proofs.Words.{cell_index, cell_number_lem}
use Rattle.roster_cases.specs.Figures.{cells_of, root_count_of}

pub cells_none : (t : List ℕ) → length t < table_length (capacity t) → cells_of t ≡ 0
unfolding cells_of
cells_none t h = ap (λ (b : Bool). cond b (capacity t) 0) (lt-leb (table_length (capacity t)) (length t) h)

pub cells_all : (t : List ℕ) → table_length (capacity t) ≤ length t → cells_of t ≡ capacity t
unfolding cells_of
cells_all t h = ap (λ (b : Bool). cond b (capacity t) 0) (le-leb (table_length (capacity t)) (length t) h)

-- the table has the words of each
pub cell_there : (t : List ℕ) (i : ℕ) → i < cells_of t → table_length (suc i) ≤ length t
cell_there t i l =
    ⊎_elim
    (λ h. omega (arith, cells_none t h))
    (λ h. omega (arith, cells_all t h, h))
    (lt_or_ge (length t) (table_length (capacity t)))

pub total_none : (f : ℕ → ℕ) → total 0 f ≡ 0
unfolding total
total_none f = refl

pub total_more : (n : ℕ) (f : ℕ → ℕ) → total (n + 1) f ≡ total n f + f n
unfolding total
total_more n f = ap (λ (k : ℕ). total k f) (add-one n)

pub no_root_count : (t : List ℕ) (w : ℕ) → (1 ≤ w → w ≤ cells_of t → ⊥) → root_count_of t w ≡ 0
unfolding root_count_of
no_root_count t w h = ap (λ (b : Bool). cond b (word_at t (pred w) root_count) 0) (refuted (is_cell (cells_of t) w) go)
  where
    go : is_cell (cells_of t) w ≡ true → ⊥
    go e =
        let n = cell_number_lem (cells_of t) w e in
        h (omega arith) (omega (arith, cell_index (cells_of t) w e))

pub root_count_there : (t : List ℕ) (w : ℕ) → 1 ≤ w → w ≤ cells_of t → word_at t (w - 1) root_count ≡ root_count_of t w
unfolding root_count_of is_cell
root_count_there t w h l =
    ap (λ (i : ℕ). word_at t i root_count) (sub-one w)
    ∙ sym (ap (λ (b : Bool). cond b (word_at t (pred w) root_count) 0) (and_both (le-leb 1 w h) (le-leb w (cells_of t) l)))
