-- The calls around a line: a fresh, steps until nothing waits, and the hold given up.
use mathlib.Core.Path.{◌≡◌, refl, ap, ◌∙◌}
use mathlib.Core.Bool.{Bool, true, false, ◌&&◌, ◌||◌}
use mathlib.Core.List.{List, []}
use Prim.Native.Nat.{ℕ, ◌+◌, ◌-◌, ◌≤◌, ◌<◌}
use native.Mathlib.Omega.{arith}
use lib.Dec.{leb}
use lib.ListN.{length}
use borrow.Author.Tests.{le-leb, lt-leb, ne_eqb}
use Rattle.machine.specs.declared.Queue.{Queue}
use Rattle.machine.specs.Words.{first_atom, is_nil, is_cell, is_atom, is_legal}
use Rattle.machine.specs.Table.{table_length}
use Rattle.machine.specs.Queue.{empty_queue}
use Rattle.machine.specs.Calls.{fresh, row, step, down, Reply, Store, store, fresh_table}
use Rattle.machine.specs.Step.{Outcome}
use Rattle.machine.specs.Questions.{first_no, cells_in_range, long_enough, early, late, questions}
use Rattle.machine.specs.Machine.{accepted}
use Rattle.machine.specs.Promise.{Promise}
use Rattle.machine.proofs.Fresh.{fresh_is}
use Rattle.machine.proofs.Questions.{first_no_zero}
use Rattle.machine.proofs.Kept.{machine_accepted}
use Rattle.soundness.proofs.RootsAreHolds.{fresh_agrees}
use Rattle.rule_lines.specs.Answers.{store_cells}
use Rattle.rule_lines.specs.Stores.{Holding, Drains, GivesUp, Cleans, Freshens}
use Rattle.rule_lines.proofs.StoreLaws.{nil_unheld, nil_legal, step_holding, no_cell_holding, down_holding, done_clean}

-- a fresh makes a table clean
pub fresh_cleans : {t t' : List ℕ} {q q' : Queue} {r : Reply} → Promise (store t q []) (fresh store_cells) r (store t' q' []) → Freshens t t' q'
unfolding accepted
fresh_cleans {t} {t'} {q} {q'} {r} p scratch room lent =
    let e = (p.exact tt).1 ∙ ap (λ (o : Outcome). o.after) (machine_accepted (store t q []) (fresh store_cells) asked) in
    let et : t' ≡ fresh_table store_cells t = ap (λ (s : Store). s.table) e in
    let eq : q' ≡ empty_queue = ap (λ (s : Store). s.queue) e in
    let a = fresh_agrees (store t q []) store_cells asked in
    rw (et, eq) (done_clean (record {
      whole = a.whole;
      size = (fresh_is store_cells t room).new_capacity;
      lent = lent;
      legal = nil_legal;
      once = λ i l. omega (arith, a.roots i l, nil_unheld i);
    }) refl)
  where
    long : long_enough store_cells t ≡ true
    long = unfold long_enough in le-leb (table_length store_cells) (length t) room

    asked : first_no (questions (store t q []) (fresh store_cells)) ≡ 0
    asked = unfold questions early late cells_in_range in first_no_zero (questions (store t q []) (fresh store_cells)) (refl, (long, tt))

-- how far the steps have come: no more packets wait than steps are left
pub record Draining (t₀ scratch₀ : List ℕ) (q₀ : Queue) (t scratch : List ℕ) (q : Queue) (done : ℕ) : Type 0 where
  pub table_size : length t ≡ length t₀
  pub scratch_size : length scratch ≡ length scratch₀
  pub told : (w : ℕ) → Holding w t₀ q₀ scratch₀ → Holding w t q scratch × (q.count ≤ q₀.count - done)

pub one_step : {t₀ scratch₀ : List ℕ} {q₀ : Queue} {t scratch : List ℕ} {q : Queue} {done : ℕ} {r : Reply} {t' scratch' : List ℕ} {q' : Queue}
    → Draining t₀ scratch₀ q₀ t scratch q done → Promise (store t q scratch) step r (store t' q' scratch')
    → (w : ℕ) → Holding w t₀ q₀ scratch₀ → Holding w t' q' scratch' × (q'.count ≤ q₀.count - (done + 1))
one_step d p w h =
    let k = d.told w h in
    let n = step_holding k.0 p in
    (n.0, omega (arith, n.1, k.1))

-- nil and atoms have no hold
pub gives_nil : (w : ℕ) (t : List ℕ) (q : Queue) → w ≡ 0 → GivesUp w t q t q
gives_nil w t q e scratch idle h = rw e at h

pub gives_atom : (w : ℕ) (t : List ℕ) (q : Queue) → first_atom ≤ w → GivesUp w t q t q
unfolding is_cell
gives_atom w t q e scratch idle h = no_cell_holding h (rw (lt-leb w store_cells (omega arith)) (neither (leb 1 w)))
  where
    neither : (b : Bool) → b && false ≡ false
    neither true = refl
    neither false = refl

-- any other legal word is a cell
pub gives_cell : {w : ℕ} {t t' : List ℕ} {q q' : Queue} {r : Reply} → (w ≡ 0 → ⊥) → w < first_atom → Promise (store t q []) (row (down w 1)) r (store t' q' [])
    → GivesUp w t q t' q'
gives_cell {w} n l p scratch idle h = down_holding h is idle p
  where
    no_atom : is_atom w ≡ false
    no_atom = unfold is_atom in rw (lt-leb first_atom w l)

    only : (b : Bool) → false || b || false ≡ true → b ≡ true
    only true e = refl
    only false e = e

    no_nil : is_nil w ≡ false
    no_nil = unfold is_nil in ne_eqb w 0 n

    legal : is_nil w || is_cell store_cells w || is_atom w ≡ true
    legal = unfold is_legal in h.legal

    is : is_cell store_cells w ≡ true
    is = only (is_cell store_cells w) (rw (no_nil, no_atom) at legal)

-- steps, the hold given up, and steps again
pub all_cleaned : {w : ℕ} {t : List ℕ} {q : Queue} {scratch t₁ : List ℕ} {q₁ : Queue} {scratch₁ t₂ : List ℕ} {q₂ : Queue} {t₃ : List ℕ} {q₃ : Queue} {scratch₃ : List ℕ}
    → Drains t q scratch t₁ q₁ scratch₁ → GivesUp w t₁ q₁ t₂ q₂ → Drains t₂ q₂ scratch₁ t₃ q₃ scratch₃ → Cleans w t q scratch t₃ q₃ scratch₃
all_cleaned {w} {scratch₁ = scratch₁} a b c h =
    let x = a w h in
    let z = c 0 (b scratch₁ x.1 x.0) in
    done_clean z.0 z.1
