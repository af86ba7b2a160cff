-- What `calls` proves of a row call and of fresh is the promise.
use mathlib.Core.Path.{◌≡◌, refl, sym, ap, ap₂, subst₂, ◌∙◌}
use mathlib.Core.Logic.{⊎_elim}
use mathlib.Core.Bool.{true}
use mathlib.Core.List.{List, []}
use Prim.Native.Nat.{ℕ, zero, suc}
use native.Mathlib.Omega.{arith}
use Rattle.machine.specs.declared.Queue.{Queue}
use Rattle.machine.specs.Answers.{RowAnswer}
use Rattle.machine.specs.Answers.{FreshAnswer}
use Rattle.machine.specs.Queue.{Arrays}
use Rattle.machine.specs.Packets.{kind_of, contains}
use Rattle.machine.specs.Calls.{RowCall, car, cdr, cons, set_left, set_right, up, down, Call, row, fresh, Reply, value, refused, Store, store, packet_of, reads_nil}
use Rattle.machine.specs.Step.{Outcome}
use Rattle.machine.specs.Questions.{first_no, early, ask_free, late_queued, late_row, late, questions}
use Rattle.machine.specs.Machine.{accepted, answered, machine}
use Rattle.machine.specs.Answers.{row_reply, fresh_reply}
use Rattle.machine.specs.Promise.{Decided, Untouched, numbers, Promise}
use Rattle.machine.proofs.Range.{tested, not_both}
use Rattle.machine.proofs.NilReads.{late_queued_lem}
use Rattle.machine.proofs.Questions.{AllYes, first_no_append, first_no_none, first_no_number, first_no_all, early_numbered}
use Rattle.machine.proofs.Kept.{machine_accepted, machine_refused, kept, bounded_same}
use Rattle.calls.specs.Tests.{free_by_end, code_late, code_late_row, code_questions}
use Rattle.calls.specs.Called.{NamesFit, code_accepted, outcome_of, RowCalled, FreshCalled}
use Rattle.calls.proofs.RowLaws.{nil_late, code_nil, outcome_refused, outcome_done, fitted_accepted, code_untouched}
use Rattle.store.proofs.RowTests.{queued_late, questions_same}
use Rattle.store.proofs.NamesFit.{names_fit}

-- the code's later questions carry the paper's numbers
queued_numbers : (t : List ℕ) (q : Queue) (r : RowCall) → numbers (code_late t q (packet_of t r)) ≡ numbers (late_queued t q r)
unfolding numbers code_late free_by_end ask_free packet_of kind_of
queued_numbers t q (car x) = refl
queued_numbers t q (cdr x) = refl
queued_numbers t q (cons x y) = refl
queued_numbers t q (set_left x y) = refl
queued_numbers t q (set_right x y) = refl
queued_numbers t q (up x n) = refl
queued_numbers t q (down x n) = refl

numbers_same : (t : List ℕ) (q : Queue) (r : RowCall) → numbers (code_late_row t q r) ≡ numbers (late_row t q r)
numbers_same t q r =
    ⊎_elim (λ n. ap numbers (nil_late t q r n)) (λ n. ap numbers (queued_late t q r n) ∙ queued_numbers t q r ∙ sym (ap numbers (late_queued_lem t q r n)))
    (tested (reads_nil r))

-- a row call of the code touches nothing but cells, on any store
pub outcome_bounded : (t : List ℕ) (q : Queue) (r : RowCall) → Untouched (store t q []) (outcome_of t q r).after
unfolding code_questions
outcome_bounded t q r = go (first_no (code_questions t q r)) refl
  where
    s : Store
    s = store t q []

    yes : first_no (code_questions t q r) ≡ 0 → (m : ℕ) → first_no (early s (row r)) ≡ m → AllYes (early s (row r))
    yes d zero e = first_no_all (early s (row r)) (early_numbered s (row r)) e
    yes d (suc m) e = absurd (omega (arith, first_no_append (early s (row r)) (code_late_row t q r) m e))

    go : (n : ℕ) → first_no (code_questions t q r) ≡ n → Untouched s (outcome_of t q r).after
    go zero d = rw (outcome_done t q r d) (code_untouched t q r (yes d (first_no (early s (row r))) refl))
    go (suc n) d = rw (outcome_refused t q r n d) (bounded_same s (row r))

module _ (t : List ℕ) (q : Queue) (r : RowCall) (a : RowAnswer) (t' : List ℕ) (q' : Queue) (h : RowCalled t q r a t' q') where
  abbrev s : Store
  s = store t q []

  abbrev s' : Store
  s' = store t' q' []

  -- refused by the code's first "no", with nothing changed
  refused_whole : (n : ℕ) → first_no (code_questions t q r) ≡ suc n → (row_reply a ≡ refused (suc n)) × (s' ≡ s)
  refused_whole n e =
      let o = outcome_refused t q r n e in (
        h.reply ∙ ap (λ (x : Outcome). x.reply) o,
        ap₂ (λ (u : List ℕ) (v : Queue). store u v []) (h.table ∙ ap (λ (x : Outcome). x.after.table) o) (h.queue ∙ ap (λ (x : Outcome). x.after.queue) o),
      )

  -- or done
  done_whole : first_no (code_questions t q r) ≡ 0 → (row_reply a ≡ (code_accepted t q r).reply) × (s' ≡ (code_accepted t q r).after)
  unfolding code_accepted
  done_whole e =
      let o = outcome_done t q r e in (
        h.reply ∙ ap (λ (x : Outcome). x.reply) o,
        ap₂ (λ (u : List ℕ) (v : Queue). store u v []) (h.table ∙ ap (λ (x : Outcome). x.after.table) o) (h.queue ∙ ap (λ (x : Outcome). x.after.queue) o),
      )

  row_asked : (n : ℕ) → first_no (early s (row r)) ≡ suc n → (row_reply a ≡ refused (suc n)) × (s' ≡ s)
  unfolding code_questions
  row_asked n e = refused_whole n (first_no_append (early s (row r)) (code_late_row t q r) n e)

  row_refusal : (n : ℕ) → first_no (early s (row r)) ≡ 0 → row_reply a ≡ refused n → (contains (numbers (late s (row r))) n ≡ true) × (s' ≡ s)
  unfolding code_questions late code_accepted
  row_refusal n e k = go (first_no (code_late_row t q r)) refl
    where
      whole : first_no (code_questions t q r) ≡ first_no (code_late_row t q r)
      whole = first_no_none (early s (row r)) (code_late_row t q r) (early_numbered s (row r)) e

      clash : {v m : ℕ} → value v ≡ refused m → ⊥
      clash d = let z : ◌≡◌ {A = ℕ} 0 1 = cc in omega arith

      same : {m l : ℕ} → refused m ≡ refused l → m ≡ l
      same d = cc

      go : (m : ℕ) → first_no (code_late_row t q r) ≡ m → (contains (numbers (late_row t q r)) n ≡ true) × (s' ≡ s)
      go zero d = absurd (clash (sym (done_whole (whole ∙ d)).0 ∙ k))
      go (suc m) d =
          let w = refused_whole m (whole ∙ d) in
          let number : suc m ≡ n = same (sym w.0 ∙ k) in
          (rw (numbers_same t q r) at (rw number at (first_no_number (code_late_row t q r) m d)), w.1)

  row_exact : Arrays q → Decided s (row r) → (row_reply a ≡ (machine s (row r)).reply) × (s' ≡ (machine s (row r)).after)
  row_exact arrays decided = go (first_no (code_questions t q r)) refl
    where
      e : first_no (questions s (row r)) ≡ first_no (code_questions t q r)
      e = sym (⊎_elim (λ sound. questions_same t q sound arrays r) (λ n. ap first_no (code_nil t q r n)) decided)

      -- on a sound store the names fit, and a read of nil has none
      fits : first_no (questions s (row r)) ≡ 0 → NamesFit t r
      fits d = ⊎_elim (λ sound. names_fit t q sound arrays r d) (λ n k. absurd (not_both n k)) decided

      go : (n : ℕ) → first_no (code_questions t q r) ≡ n → (row_reply a ≡ (machine s (row r)).reply) × (s' ≡ (machine s (row r)).after)
      go zero d = rw (machine_accepted s (row r) (e ∙ d), sym (fitted_accepted t q r (fits (e ∙ d)))) (done_whole d)
      go (suc n) d = rw (machine_refused s (row r) n (e ∙ d)) (refused_whole n d)

  row_bounded : Untouched s s'
  row_bounded = rw (h.table, h.queue) (scratch_less (outcome_of t q r).after (outcome_bounded t q r))
    where
      scratch_less : (u : Store) → Untouched s u → Untouched s (store u.table u.queue [])
      scratch_less u k = record {
        same_length = k.same_length;
        same_capacity = k.same_capacity;
        past_cells = k.past_cells;
        scratch_length = refl;
        past_scratch = refl;
      }

  pub row_promise : Arrays q → Promise s (row r) (row_reply a) s'
  row_promise arrays = record {
    asked = row_asked;
    refusal = row_refusal;
    exact = row_exact arrays;
    bounded = row_bounded;
  }

-- whoever gives the machine's own reply and store keeps the promise
pub machine_promise : (s : Store) (call : Call) (r : Reply) (s' : Store) → r ≡ (machine s call).reply → s' ≡ (machine s call).after → Promise s call r s'
machine_promise s call r s' e d = subst₂ (λ (x : Reply) (y : Store). Promise s call x y) (sym e) (sym d) (kept s call)

-- fresh is the machine's on every store
pub fresh_promise : (t : List ℕ) (q : Queue) (c : ℕ) (a : FreshAnswer) (t' : List ℕ) (q' : Queue) → FreshCalled t q c a t' q' → Promise (store t q []) (fresh c) (fresh_reply a) (store t' q' [])
unfolding machine answered accepted
fresh_promise t q c a t' q' h = machine_promise (store t q []) (fresh c) (fresh_reply a) (store t' q' []) h.reply
    (whole (machine (store t q []) (fresh c)).after h.table h.queue (no_scratch (first_no (questions (store t q []) (fresh c)))))
  where
    no_scratch : (n : ℕ) → (answered n (store t q []) (fresh c)).after.scratch ≡ []
    no_scratch zero = refl
    no_scratch (suc n) = refl

    whole : (u : Store) → t' ≡ u.table → q' ≡ u.queue → u.scratch ≡ [] → store t' q' [] ≡ u
    whole u e d k = λ i. record { table = e i; queue = d i; scratch = sym k i }
