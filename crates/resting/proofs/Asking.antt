-- Questions 1 and 2 asked of any store without changing it: a read of nil, and a step that is lent an empty queue.
use mathlib.Core.Path.{◌≡◌, refl, ap, ◌∙◌}
use mathlib.Core.Logic.{inr, ⊎_elim}
use mathlib.Core.Bool.{Bool, true, false}
use mathlib.Core.List.{List, []}
use Prim.Native.Nat.{ℕ}
use native.Mathlib.Omega.{arith}
use Rattle.machine.specs.declared.Queue.{Queue}
use Rattle.machine.specs.Queue.{empty_queue}
use Rattle.machine.specs.Words.{is_nil}
use Rattle.machine.specs.Calls.{row, step, car, Reply, value, refused, idle, Store, store, reads_nil}
use Rattle.machine.specs.Questions.{refused_by, first_no, in_range, scratch_enough, early, late, questions}
use Rattle.machine.specs.Step.{Outcome, outcome, step_from, stepped}
use Rattle.machine.specs.Machine.{accepted, machine}
use Rattle.machine.specs.Promise.{Promise}
use Rattle.machine.proofs.Range.{tested}
use Rattle.machine.proofs.Questions.{shape_is, shape_test}
use Rattle.machine.proofs.Kept.{machine_accepted, machine_refused, gives_machine}
use Rattle.machine.proofs.NilReads.{nil_questions, nil_accepted}
use Rattle.soundness.proofs.Reliable.{none_waits}

module _ (t : List ℕ) (q : Queue) where
  abbrev s : Store
  s = store t q []

  -- a read of nil changes nothing; it replies nil where question 1 says "yes", and else is refused with 1
  pub nil_asks : {reply : Reply} {t₁ : List ℕ} {q₁ : Queue} → Promise s (row (car 0)) reply (store t₁ q₁ [])
      → (t₁ ≡ t) × (in_range t q ≡ true → reply ≡ value 0) × (in_range t q ≡ false → reply ≡ refused 1)
  unfolding reads_nil is_nil
  nil_asks {reply} {t₁} {q₁} p =
      let g = gives_machine s (row (car 0)) reply (store t₁ q₁ []) (p.exact (inr refl)) in
      let yes : in_range t q ≡ true → machine s (row (car 0)) ≡ outcome (value 0) s =
      λ e. machine_accepted s (row (car 0)) (nil_questions (car 0) refl s ∙ ap (λ (b : Bool). refused_by b 1 0) e) ∙ nil_accepted (car 0) refl s in
      let no : in_range t q ≡ false → machine s (row (car 0)) ≡ outcome (refused 1) s =
      λ e. machine_refused s (row (car 0)) 0 (nil_questions (car 0) refl s ∙ ap (λ (b : Bool). refused_by b 1 0) e) in (
        ⊎_elim (λ e. ap (λ (u : Store). u.table) (g.1 ∙ ap (λ (o : Outcome). o.after) (yes e))) (λ e. ap (λ (u : Store). u.table) (g.1 ∙ ap (λ (o : Outcome). o.after) (no e)))
            (tested (in_range t q)),
        (λ e. g.0 ∙ ap (λ (o : Outcome). o.reply) (yes e)),
        (λ e. g.0 ∙ ap (λ (o : Outcome). o.reply) (no e)),
      )

  -- with an empty queue the table is in range just as well
  empty_range : in_range t q ≡ true → in_range t empty_queue ≡ true
  empty_range e = shape_test t empty_queue (record { table = (shape_is t q e).table; queue = record { place = omega arith; count = omega arith } })

  -- and a step is idle, or refused with 2
  module _ (w : List ℕ) (range : in_range t q ≡ true) where
    abbrev v : Store
    v = store t empty_queue w

    no_late : (b : Bool) → scratch_enough t w ≡ b → first_no (questions v step) ≡ refused_by b 2 0
    unfolding questions early late first_no
    no_late b e = rw (empty_range range, e) refl

    pub idle_asks : {reply : Reply} {t₂ : List ℕ} {q₂ : Queue} {w₂ : List ℕ} → Promise v step reply (store t₂ q₂ w₂)
        → (t₂ ≡ t) × (w₂ ≡ w) × (scratch_enough t w ≡ true → reply ≡ idle) × (scratch_enough t w ≡ false → reply ≡ refused 2)
    unfolding accepted stepped step_from
    idle_asks {reply} {t₂} {q₂} {w₂} p =
        let g = gives_machine v step reply (store t₂ q₂ w₂) (p.exact (inr refl)) in
        let yes : scratch_enough t w ≡ true → machine v step ≡ outcome idle v = λ e. machine_accepted v step (no_late true e) ∙ rw (none_waits empty_queue refl) refl in
        let no : scratch_enough t w ≡ false → machine v step ≡ outcome (refused 2) v = λ e. machine_refused v step 1 (no_late false e) in
        let same : store t₂ q₂ w₂ ≡ v = g.1 ∙ ⊎_elim (λ e. ap (λ (o : Outcome). o.after) (yes e)) (λ e. ap (λ (o : Outcome). o.after) (no e)) (tested (scratch_enough t w)) in (
          ap (λ (u : Store). u.table) same,
          ap (λ (u : Store). u.scratch) same,
          (λ e. g.0 ∙ ap (λ (o : Outcome). o.reply) (yes e)),
          (λ e. g.0 ∙ ap (λ (o : Outcome). o.reply) (no e)),
        )
