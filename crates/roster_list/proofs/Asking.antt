-- Questions 1 and 2 asked through the store.
use Rattle.std.specs.Prelude.{Ok, Err}
use mathlib.Core.Path.{◌≡◌, refl, sym}
use mathlib.Core.Logic.{⊎_elim}
use mathlib.Core.Bool.{true, false}
use mathlib.Core.List.{List, []}
use Prim.Native.Nat.{ℕ}
use native.Mathlib.Omega.{arith}
use Rattle.machine.specs.declared.Queue.{Queue}
use Rattle.machine.specs.declared.Refusal.{Refusal}
use Rattle.machine.specs.declared.Step.{Step}
use Rattle.machine.specs.Answers.{Asked, StepAnswer, step_reply, refusal_number}
use Rattle.machine.specs.Queue.{empty_queue}
use Rattle.machine.specs.Calls.{row, step, car, Reply, value, refused, idle, store}
use Rattle.machine.specs.Questions.{first_no, in_range, scratch_enough}
use Rattle.machine.specs.Promise.{Promise}
use Rattle.machine.proofs.Range.{tested}
use Rattle.resting.proofs.Asking.{nil_asks, idle_asks}
use Rattle.readings.specs.Calls.{ask_store}
use Rattle.roster_list.specs.Asking.{Asks, ScratchAsks}

same_number : (m n : ℕ) → refused m ≡ refused n → m ≡ n
same_number m n e = cc

no_value : {w n : ℕ} → refused n ≡ value w → ⊥
no_value e = let z : ◌≡◌ {A = ℕ} 0 1 = cc in omega arith

no_idle : {n : ℕ} → refused n ≡ idle → ⊥
no_idle e = let z : ◌≡◌ {A = ℕ} 0 1 = cc in omega arith

-- question 1 says "no"
pub asks_no : {t : List ℕ} {q : Queue} {f : Refusal} {t₁ : List ℕ} {q₁ : Queue} → (s : List ℕ) → Promise (store t q []) (row (car 0)) (refused (refusal_number f)) (store t₁ q₁ [])
    → Asks (ask_store (store t q s)) t s (Err f) t₁ s
unfolding first_no
asks_no {t} {q} {f} s p =
    let a = nil_asks t q p in
    let out : in_range t q ≡ false = ⊎_elim (λ e. absurd (no_value (a.1 e))) (λ e. e) (tested (in_range t q)) in
    record { number = rw out (same_number (refusal_number f) 1 (a.2 out)); table = a.0; scratch = refl }

-- or "yes", and question 2 is asked
pub asks_then : {t : List ℕ} {q : Queue} {w : ℕ} {t₁ : List ℕ} {q₁ : Queue} {s : List ℕ} {r : Asked} {t₂ s₂ : List ℕ} → Promise (store t q []) (row (car 0)) (value w) (store t₁ q₁ [])
    → ScratchAsks t₁ s r t₂ s₂ → Asks (ask_store (store t q s)) t s r t₂ s₂
asks_then {t} {q} {t₁ = t₁} p g =
    let a = nil_asks t q p in
    let in_range_lem : in_range t q ≡ true = ⊎_elim (λ e. e) (λ e. absurd (no_value (sym (a.2 e)))) (tested (in_range t q)) in
    let k = rw a.0 at g in
    k q in_range_lem

pub scratch_no : {t s : List ℕ} {f : Refusal} {t₂ : List ℕ} {q₂ : Queue} {s₂ : List ℕ} → Promise (store t empty_queue s) step (refused (refusal_number f)) (store t₂ q₂ s₂)
    → ScratchAsks t s (Err f) t₂ s₂
unfolding first_no
scratch_no {t} {s} {f} p q e =
    let a = idle_asks t q s e p in
    let short : scratch_enough t s ≡ false = ⊎_elim (λ d. absurd (no_idle (a.2 d))) (λ d. d) (tested (scratch_enough t s)) in
    record { number = rw (e, short) (same_number (refusal_number f) 2 (a.3 short)); table = a.0; scratch = a.1 }

pub scratch_yes : {t s : List ℕ} {reply : Reply} {t₂ : List ℕ} {q₂ : Queue} {s₂ : List ℕ} → Promise (store t empty_queue s) step reply (store t₂ q₂ s₂)
    → ((n : ℕ) → reply ≡ refused n → ⊥) → ScratchAsks t s (Ok tt) t₂ s₂
unfolding first_no
scratch_yes {t} {s} p none q e =
    let a = idle_asks t q s e p in
    let enough : scratch_enough t s ≡ true = ⊎_elim (λ d. d) (λ d. absurd (none 2 (a.3 d))) (tested (scratch_enough t s)) in
    record { number = rw (e, enough) refl; table = a.0; scratch = a.1 }

-- an accepted step says "yes", whatever it did
pub scratch_done : {t s : List ℕ} {a : StepAnswer} {done : Step} {t₂ : List ℕ} {q₂ : Queue} {s₂ : List ℕ} → a ≡ Ok done
    → Promise (store t empty_queue s) step (step_reply a) (store t₂ q₂ s₂) → ScratchAsks t s (Ok tt) t₂ s₂
scratch_done {done = Step.Idle} e p = scratch_yes (rw e at p) (λ n d. no_idle (sym d))
scratch_done {done = Step.Applied k m} e p = scratch_yes (rw e at p) (λ n d. let z : ◌≡◌ {A = ℕ} 0 1 = cc in omega arith)
