-- One descending pass that frees cell by cell is the machine's sweep, which lowers the counts for all dead cells first.
use mathlib.Core.Path.{◌≡◌, refl, sym, ap, ◌∙◌}
use mathlib.Core.Logic.{⊎_elim}
use mathlib.Core.Bool.{Bool, true, false, cond, not, ◌&&◌}
use mathlib.Core.List.{List, [], ◌∷◌, ◌++◌, append-nil}
use Prim.Native.Nat.{ℕ, suc, ◌+◌, ◌≤◌, ◌<◌}
use native.Mathlib.Omega.{arith}
use lib.Dec.{ltb}
use lib.ListN.{length}
use borrow.Author.Tests.{ne_eqb}
use Rattle.machine.specs.Range.{select, total}
use Rattle.machine.specs.Table.{capacity, state, scratch_words, in_use}
use Rattle.machine.specs.Packets.{contains}
use Rattle.machine.specs.Step.{join_all, lower_pointers, swept}
use Rattle.machine.specs.Facts.{TableShape}
use Rattle.machine.proofs.Range.{tested, total_le, total_ones}
use Rattle.machine.proofs.Lists.{at_most_one}
use Rattle.machine.proofs.Select.{select_members, select_same, select_length}
use Rattle.machine.proofs.Sweep.{sweeps}
use Rattle.machine.proofs.SweptLast.{swept_last}
use Rattle.marks.specs.Marks.{is_marked}
use Rattle.collector.specs.SweepPass.{is_dead, passed, Passes, Sweeps}
use Rattle.collector.proofs.FreedCells.{Good, good, free_good}

-- how many numbers pass a test
select_more : (n : ℕ) (p : ℕ → Bool) → length (select (suc n) p) ≡ length (select n p) + cond (p n) 1 0
unfolding total
select_more n p = select_length (suc n) p ∙ ap (λ (m : ℕ). m + cond (p n) 1 0) (sym (select_length n p))

select_most : (n : ℕ) (p : ℕ → Bool) → length (select n p) ≤ n
select_most n p = omega (arith, select_length n p, total_le n (λ i. cond (p i) 1 0) (λ i. 1) (λ i l. at_most_one (p i)), total_ones n)

-- a cell that is passed over, and one that is freed
pub passes_live : (t s : List ℕ) (i : ℕ) → is_dead t s i ≡ false → Passes t s i t 0
passes_live t s i h = record { table = unfold passed in rw h; number = rw h }

pub passes_dead : (t s : List ℕ) (i : ℕ) → is_dead t s i ≡ true → (t' : List ℕ) → t' ≡ swept t (i ∷ []) → Passes t s i t' 1
passes_dead t s i h t' e = record { table = unfold passed in rw h e; number = rw h }

pub marked_live : (t s : List ℕ) (i : ℕ) → is_marked s i ≡ true → is_dead t s i ≡ false
unfolding is_dead
marked_live t s i h = rw h

pub unmarked_dead : (t s : List ℕ) (i : ℕ) → is_marked s i ≡ false → is_dead t s i ≡ in_use t i
unfolding is_dead
unmarked_dead t s i h = rw h

-- the cells below n are dead as before once the cell at index n is freed
module _ (u s : List ℕ) (g : TableShape u) (n : ℕ) (l : n < capacity u) where
  alone : (i : ℕ) → i < n → contains (n ∷ []) i ≡ false
  unfolding contains
  alone i h = rw (ne_eqb n i (λ e. omega arith))

  still_dead : (i : ℕ) → i < n → is_dead (swept u (n ∷ [])) s i ≡ is_dead u s i
  unfolding is_dead in_use
  still_dead i h =
      ap (λ (w : ℕ). not (is_marked s i) && ltb 0 w) ((sweeps u (n ∷ []) g.room (l, tt)).unchanged i state (omega arith) (omega arith) (alone i h))

  new : contains (select n (is_dead u s)) n ≡ false
  new = ⊎_elim (λ e. let b = ((select_members n (is_dead u s) n).0 e).0 in absurd (omega arith)) (λ e. e) (tested (contains (select n (is_dead u s)) n))

  -- the rest of the pass after the cell at index n
  pub rest : swept (passed u s n) (select n (is_dead (passed u s n) s)) ≡ swept u (select (suc n) (is_dead u s))
  unfolding passed select
  rest = go (is_dead u s n)
    where
      go : (b : Bool)
          → swept (cond b (swept u (n ∷ [])) u) (select n (is_dead (cond b (swept u (n ∷ [])) u) s)) ≡ swept u (select n (is_dead u s) ++ cond b (n ∷ []) [])
      go true =
          ap (swept (swept u (n ∷ []))) (select_same n (is_dead (swept u (n ∷ [])) s) (is_dead u s) still_dead)
          ∙ sym (swept_last u (select n (is_dead u s)) n g.room l new)
      go false = rw append-nil

  pub rest_number : cond (is_dead u s n) 1 0 + length (select n (is_dead (passed u s n) s)) ≡ length (select (suc n) (is_dead u s))
  unfolding passed
  rest_number = omega (arith, select_more n (is_dead u s), go (is_dead u s n))
    where
      go : (b : Bool) → length (select n (is_dead (cond b (swept u (n ∷ [])) u) s)) ≡ length (select n (is_dead u s))
      go true = ap length (select_same n (is_dead (swept u (n ∷ [])) s) (is_dead u s) still_dead)
      go false = refl

-- The pass down to index i: the table u, of which the first i cells remain, and m cells freed.
pub record Pass (t s : List ℕ) (i : ℕ) (u : List ℕ) (m : ℕ) : Type 0 where
  pub good : Good (capacity t) u
  pub table : swept u (select i (is_dead u s)) ≡ swept t (select (capacity t) (is_dead t s))
  pub number : m + length (select i (is_dead u s)) ≡ length (select (capacity t) (is_dead t s))

pub pass_none : (t s : List ℕ) → TableShape t → (i : ℕ) → i ≡ capacity t → Pass t s i t 0
pass_none t s h i e = record { good = good t h; table = rw e; number = rw e (omega arith) }

module _ (t s : List ℕ) (i n : ℕ) (e : i ≡ suc n) (l : n < capacity t) (u : List ℕ) (m : ℕ) (p : Pass t s i u m) where
  below : n < capacity u
  below = rw p.good.cells l

  pub at_cell : scratch_words (capacity t) ≤ length s → TableShape u × (n < capacity u) × (scratch_words (capacity u) ≤ length s)
  at_cell k = (p.good.shape, below, rw p.good.cells k)

  -- no more than all cells are freed
  pub few_freed : (v : List ℕ) (r : ℕ) → Passes u s n v r → m + r ≤ capacity t
  few_freed v r x =
      omega (arith, rw e at p.number, x.number, select_more n (is_dead u s), select_most (capacity t) (is_dead t s))

  -- one cell more
  pub pass_more : (v : List ℕ) (r : ℕ) → Passes u s n v r → Pass t s n v (m + r)
  pass_more v r x = record {
    good = rw x.table (unfold passed in kept (is_dead u s n));
    table = rw x.table (rest u s p.good.shape n below) ∙ (rw e at p.table);
    number = rw (x.table, x.number) (omega (arith, rest_number u s p.good.shape n below, rw e at p.number));
  }
    where
      kept : (b : Bool) → Good (capacity t) (cond b (swept u (n ∷ [])) u)
      kept true = free_good (capacity t) u p.good n l
      kept false = p.good

pub sweeps_all : (t s : List ℕ) (i : ℕ) (u : List ℕ) (m : ℕ) → Pass t s i u m → i ≡ 0 → Sweeps t s u m
unfolding swept join_all lower_pointers select
sweeps_all t s i u m p e = record { table = rw e at p.table; number = omega (arith, rw e at p.number) }
