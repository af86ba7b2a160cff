-- A call that keeps the promise serves its request, on a store without a fresh and on a sound one.
use mathlib.Core.Path.{◌≡◌, refl, sym, ap, ◌∙◌}
use mathlib.Core.Logic.{inl, inr, ⊎_elim}
use mathlib.Core.Bool.{false}
use mathlib.Core.List.{List, []}
use Prim.Native.Nat.{ℕ, zero, suc}
use Rattle.machine.specs.declared.Queue.{Queue}
use Rattle.machine.specs.declared.RowCall as declared
use Rattle.machine.specs.Words.{most_cells}
use Rattle.machine.specs.Table.{capacity}
use Rattle.machine.specs.Calls.{Call, fresh, row, step, audit, read, write, RowCall, Reply, Store, store}
use Rattle.machine.specs.Answers.{call_of}
use Rattle.machine.specs.Step.{Outcome, outcome}
use Rattle.machine.specs.Questions.{first_no, in_range, early, late, questions}
use Rattle.machine.specs.Machine.{accepted, answered, machine}
use Rattle.machine.specs.Promise.{Promise}
use Rattle.machine.proofs.Kept.{machine_refused, machine_accepted, gives_machine}
use Rattle.soundness.specs.Whole.{Whole}
use Rattle.soundness.proofs.CallSound.{fresh_whole, decided, promise_whole}
use Rattle.line_text.specs.declared.Request.{Request}
use Rattle.line_text.specs.declared.Verdict.{Verdict}
use Rattle.line_text.specs.Verdicts.{verdict_of}
use Rattle.serving.specs.Serving.{called, served, unmade, Good, Serves}

-- before a fresh
pub unmade_good : Good (unmade most_cells).table (unmade most_cells).queue
unfolding capacity
unmade_good = inl refl

-- reply and store are the machine's, and the store is good again
pub record Exact (s : Store) (call : Call) (r : Reply) (s' : Store) : Type 0 where
  pub reply : r ≡ (machine s call).reply
  pub after : s' ≡ (machine s call).after
  pub good : Good s'.table s'.queue

-- a zero C is out of range
unmade_out : (t : List ℕ) (q : Queue) → capacity t ≡ 0 → in_range t q ≡ false
unfolding in_range
unmade_out t q h = rw h

-- so question 1 says "no"
module _ (s : Store) (h : capacity s.table ≡ 0) where
  row_refused : (r : RowCall) → (first_no (early s (row r)) ≡ 1) × (first_no (questions s (row r)) ≡ 1)
  unfolding first_no early questions
  row_refused r = (rw (unmade_out s.table s.queue h), rw (unmade_out s.table s.queue h))

  step_refused : (first_no (early s step) ≡ 1) × (first_no (questions s step) ≡ 1)
  unfolding first_no early questions
  step_refused = (rw (unmade_out s.table s.queue h), rw (unmade_out s.table s.queue h))

  audit_refused : (first_no (early s audit) ≡ 1) × (first_no (questions s audit) ≡ 1)
  unfolding first_no early questions
  audit_refused = (rw (unmade_out s.table s.queue h), rw (unmade_out s.table s.queue h))

  read_refused : (bytes : List ℕ) → (first_no (early s (read bytes)) ≡ 1) × (first_no (questions s (read bytes)) ≡ 1)
  unfolding first_no early questions
  read_refused bytes = (rw (unmade_out s.table s.queue h), rw (unmade_out s.table s.queue h))

  write_refused : (w room : ℕ) → (first_no (early s (write w room)) ≡ 1) × (first_no (questions s (write w room)) ≡ 1)
  unfolding first_no early questions
  write_refused w room = (rw (unmade_out s.table s.queue h), rw (unmade_out s.table s.queue h))

  refused_good : (call : Call) (r : Reply) (s' : Store) → Promise s call r s' → (first_no (early s call) ≡ 1) × (first_no (questions s call) ≡ 1)
      → Exact s call r s'
  refused_good call r s' p e =
      let a = p.asked 0 e.0 in
      let m = machine_refused s call 0 e.1 in
      record {
        reply = a.0 ∙ sym (ap (λ (o : Outcome). o.reply) m);
        after = a.1 ∙ sym (ap (λ (o : Outcome). o.after) m);
        good = inl (ap (λ (x : Store). capacity x.table) a.1 ∙ h);
      }

fresh_good : (s : Store) (c : ℕ) → capacity s.table ≡ 0 → Good (machine s (fresh c)).after.table (machine s (fresh c)).after.queue
unfolding accepted
fresh_good s c h = go (first_no (questions s (fresh c))) refl
  where
    go : (n : ℕ) → first_no (questions s (fresh c)) ≡ n → Good (machine s (fresh c)).after.table (machine s (fresh c)).after.queue
    go zero e = rw (machine_accepted s (fresh c) e) (inr (fresh_whole s c e))
    go (suc n) e = rw (machine_refused s (fresh c) n e) (inl h)

unmade_exact : (s : Store) (call : Call) (r : Reply) (s' : Store) → capacity s.table ≡ 0 → Promise s call r s' → Exact s call r s'
unmade_exact s (fresh c) r s' h p =
    let e = p.exact tt in
    record { reply = e.0; after = e.1; good = rw e.1 (fresh_good s c h) }
unmade_exact s (row k) r s' h p = refused_good s h (row k) r s' p (row_refused s h k)
unmade_exact s step r s' h p = refused_good s h step r s' p (step_refused s h)
unmade_exact s audit r s' h p = refused_good s h audit r s' p (audit_refused s h)
unmade_exact s (read bytes) r s' h p = refused_good s h (read bytes) r s' p (read_refused s h bytes)
unmade_exact s (write w room) r s' h p = refused_good s h (write w room) r s' p (write_refused s h w room)

pub exact : (s : Store) (call : Call) (r : Reply) (s' : Store) → Promise s call r s' → Good s.table s.queue → Exact s call r s'
exact s call r s' p g =
    ⊎_elim
    (λ (h : capacity s.table ≡ 0). unmade_exact s call r s' h p)
    (λ (w : Whole s.table s.queue).
    let e = gives_machine s call r s' (p.exact (decided s call w.sound)) in
    record { reply = e.0; after = e.1; good = inr (promise_whole s call r s' p w) })
    g

-- a fresh and a row call are lent no scratch: beside one they do the same
module _ (t : List ℕ) (q : Queue) (scratch : List ℕ) where
  abbrev beside : Outcome → Outcome
  beside o = outcome o.reply (store o.after.table o.after.queue scratch)

  fresh_beside : (c : ℕ) → machine (store t q scratch) (fresh c) ≡ beside (machine (store t q []) (fresh c))
  unfolding machine answered accepted questions early late
  fresh_beside c = go (first_no (questions (store t q []) (fresh c)))
    where
      go : (n : ℕ) → answered n (store t q scratch) (fresh c) ≡ beside (answered n (store t q []) (fresh c))
      go zero = refl
      go (suc n) = refl

  row_beside : (r : RowCall) → machine (store t q scratch) (row r) ≡ beside (machine (store t q []) (row r))
  unfolding machine answered accepted questions early late
  row_beside r = go (first_no (questions (store t q []) (row r)))
    where
      go : (n : ℕ) → answered n (store t q scratch) (row r) ≡ beside (answered n (store t q []) (row r))
      go zero = refl
      go (suc n) = refl

-- what `called` says, from reply and store
called_by : (s : Store) (call : Call) (r : Reply) (v : Verdict) (s' : Store) → r ≡ (machine s call).reply → s' ≡ (machine s call).after → v ≡ verdict_of r
    → (v ≡ (called s call).verdict) × (s' ≡ (called s call).after)
unfolding called
called_by s call r v s' er es ev = (ev ∙ ap verdict_of er, es)

-- what a caller makes of a reply
module _ {t : List ℕ} {q : Queue} {scratch t' : List ℕ} {q' : Queue} {v : Verdict} {r : Reply} (told : v ≡ verdict_of r) (g : Good t q) where
  from_lent : (call : Call) → machine (store t q scratch) call ≡ beside t q scratch (machine (store t q []) call)
      → Promise (store t q []) call r (store t' q' [])
      → (v ≡ (called (store t q scratch) call).verdict) × (store t' q' scratch ≡ (called (store t q scratch) call).after) × Good t' q'
  from_lent call b p =
      let e = exact (store t q []) call r (store t' q' []) p g in
      let reply = e.reply ∙ sym (ap (λ (o : Outcome). o.reply) b) in
      let after = ap (λ (x : Store). store x.table x.queue scratch) e.after ∙ sym (ap (λ (o : Outcome). o.after) b) in
      let k = called_by (store t q scratch) call r v (store t' q' scratch) reply after told in
      (k.0, k.1, e.good)

  pub fresh_serves : (c : ℕ) → Promise (store t q []) (fresh c) r (store t' q' []) → Serves (served (store t q scratch) (Request.Fresh c)) v (store t' q' scratch)
  fresh_serves c p = let d = from_lent (fresh c) (fresh_beside t q scratch c) p in record { verdict = d.0; after = d.1; good = d.2 }

  pub row_serves : (call : declared.RowCall) → Promise (store t q []) (row (call_of call)) r (store t' q' [])
      → Serves (served (store t q scratch) (Request.Row call)) v (store t' q' scratch)
  row_serves call p =
      let d = from_lent (row (call_of call)) (row_beside t q scratch (call_of call)) p in
      record { verdict = d.0; after = d.1; good = d.2 }

  pub step_serves : {scratch' : List ℕ} → Promise (store t q scratch) step r (store t' q' scratch')
      → Serves (served (store t q scratch) Request.Step) v (store t' q' scratch')
  step_serves {scratch'} p =
      let e = exact (store t q scratch) step r (store t' q' scratch') p g in
      let k = called_by (store t q scratch) step r v (store t' q' scratch') e.reply e.after told in
      record { verdict = k.0; after = k.1; good = e.good }
