-- Fresh's writes one by one are the machine's; and its answers.
use Rattle.std.specs.Prelude.{Ok, Err}
use mathlib.Core.Path.{◌≡◌, refl, sym, ap, ap₂, ◌∙◌}
use mathlib.Core.Bool.{Bool, true, false, cond}
use mathlib.Core.List.{List, [], ◌∷◌}
use Prim.Native.Nat.{ℕ, suc, ◌+◌, ◌≤◌}
use native.Mathlib.Omega.{arith}
use native.Mathlib.Numerals.{add-one}
use lib.Dec.{leb, eqb}
use lib.ListN.{length, set}
use borrow.Author.Tests.{eq-eqb, ne_eqb, leb-true}
use Rattle.machine.specs.declared.Queue.{Queue}
use Rattle.machine.specs.declared.Refusal.{Refusal}
use Rattle.machine.specs.Words.{most_cells}
use Rattle.machine.specs.Table.{free_cell, table_length, put_ends, put_cell}
use Rattle.machine.specs.Queue.{empty_queue}
use Rattle.machine.specs.Calls.{fresh, chained, fresh_table, store}
use Rattle.machine.specs.Step.{Outcome}
use Rattle.machine.specs.Questions.{ask, first_no, long_enough, cells_in_range, early, late, questions}
use Rattle.machine.specs.Machine.{accepted, answered, machine}
use Rattle.machine.proofs.Range.{and_first, and_second}
use Rattle.calls.specs.Called.{FreshCalled}

pub next_last : (c i : ℕ) → i + 1 ≡ c → 0 ≡ cond (eqb (suc i) c) 0 (suc (suc i))
next_last c i e = rw (eq-eqb (suc i) c (omega arith))

pub next_on : (c i : ℕ) → (i + 1 ≡ c → ⊥) → i + 2 ≡ cond (eqb (suc i) c) 0 (suc (suc i))
next_on c i d = rw (ne_eqb (suc i) c (λ e. d (omega arith))) (omega arith)

pub chain_more : (c i : ℕ) (t u v : List ℕ) → u ≡ chained c i t → v ≡ put_cell u i (free_cell (cond (eqb (suc i) c) 0 (suc (suc i)))) → v ≡ chained c (i + 1) t
unfolding chained
chain_more c i t u v e d = d ∙ more ∙ ap (λ (n : ℕ). chained c n t) (sym (add-one i))
  where
    more : put_cell u i (free_cell (cond (eqb (suc i) c) 0 (suc (suc i)))) ≡ chained c (suc i) t
    more = ap (λ (s : List ℕ). put_cell s i (free_cell (cond (eqb (suc i) c) 0 (suc (suc i))))) e

pub chain_all : (c i : ℕ) (t t₁ t₂ v : List ℕ) → t₁ ≡ set t 0 c → t₂ ≡ put_ends t₁ 1 c → i ≡ c → v ≡ chained c i t₂ → v ≡ fresh_table c t
unfolding fresh_table
chain_all c i t t₁ t₂ v a b e d = d ∙ ap₂ (λ (n : ℕ) (s : List ℕ). chained c n s) e (b ∙ ap (λ (s : List ℕ). put_ends s 1 c) a)

-- where question 3 says "yes" of C, and question 1 of the length
pub cells_are : (c : ℕ) → cells_in_range c ≡ true → (1 ≤ c) × (c ≤ most_cells)
unfolding cells_in_range
cells_are c h = (leb-true 1 c (and_first (leb 1 c) (leb c most_cells) h), leb-true c most_cells (and_second (leb 1 c) (leb c most_cells) h))

pub words_are : (c : ℕ) (t : List ℕ) → long_enough c t ≡ true → table_length c ≤ length t
unfolding long_enough
words_are c t h = leb-true (table_length c) (length t) h

module _ (t : List ℕ) (q : Queue) (c : ℕ) where
  fresh_first : (a b : Bool) → cells_in_range c ≡ a → long_enough c t ≡ b
      → machine (store t q []) (fresh c) ≡ answered (first_no (ask 3 a ∷ ask 1 b ∷ [])) (store t q []) (fresh c)
  unfolding machine questions early late
  fresh_first a b e d = ap₂ (λ (x y : Bool). answered (first_no (ask 3 x ∷ ask 1 y ∷ [])) (store t q []) (fresh c)) e d

  pub fresh_number : cells_in_range c ≡ false → FreshCalled t q c (Err Refusal.NumberOutOfRange) t q
  unfolding answered first_no
  fresh_number e =
      let o = fresh_first false (long_enough c t) e refl in
      record {
        reply = sym (ap (λ (x : Outcome). x.reply) o);
        table = sym (ap (λ (x : Outcome). x.after.table) o);
        queue = sym (ap (λ (x : Outcome). x.after.queue) o);
      }

  pub fresh_short : cells_in_range c ≡ true → long_enough c t ≡ false → FreshCalled t q c (Err Refusal.StoreOutOfRange) t q
  unfolding answered first_no
  fresh_short a b =
      let o = fresh_first true false a b in
      record {
        reply = sym (ap (λ (x : Outcome). x.reply) o);
        table = sym (ap (λ (x : Outcome). x.after.table) o);
        queue = sym (ap (λ (x : Outcome). x.after.queue) o);
      }

  pub fresh_done : (t' : List ℕ) (q' : Queue) → cells_in_range c ≡ true → long_enough c t ≡ true → t' ≡ fresh_table c t → q' ≡ empty_queue
      → FreshCalled t q c (Ok tt) t' q'
  unfolding answered accepted first_no
  fresh_done t' q' a b e d =
      let o = fresh_first true true a b in
      record {
        reply = sym (ap (λ (x : Outcome). x.reply) o);
        table = e ∙ sym (ap (λ (x : Outcome). x.after.table) o);
        queue = d ∙ sym (ap (λ (x : Outcome). x.after.queue) o);
      }
