-- What a row call gives, refused and done, whichever it is.
use Rattle.std.specs.Prelude.{Ok, Err}
use mathlib.Core.Path.{◌≡◌, refl, sym, ap, ◌∙◌}
use mathlib.Core.Logic.{⊎_elim}
use mathlib.Core.Bool.{Bool, true, false}
use mathlib.Core.List.{List, [], ◌∷◌, ◌++◌}
use Prim.Native.Nat.{ℕ, zero, suc, ◌+◌, ◌%◌}
use native.Mathlib.Omega.{arith}
use Rattle.machine.specs.declared.Queue.{Queue}
use Rattle.machine.specs.Answers.{RowAnswer}
use Rattle.machine.specs.Answers.{Asked}
use Rattle.machine.specs.declared.Refusal.{Refusal}
use Rattle.machine.specs.Queue.{Packet, slots, put_slot, appended}
use Rattle.machine.specs.Words.{is_nil}
use Rattle.machine.specs.Packets.{plus, kind_of, names, name_changes}
use Rattle.machine.specs.Calls.{RowCall, row, value, refused, store, packet_of, packets_of, reads_nil, written, word_read, value_of}
use Rattle.machine.specs.Step.{named, Outcome, outcome}
use Rattle.machine.specs.Questions.{Question, first_no, refused_by, in_range, early, late_row, late, questions}
use Rattle.machine.specs.Machine.{accepted}
use Rattle.machine.specs.Promise.{Untouched}
use Rattle.machine.specs.Answers.{refusal_number, asked_number, row_reply}
use Rattle.machine.proofs.Range.{tested}
use Rattle.machine.proofs.Questions.{AllYes}
use Rattle.machine.proofs.Kept.{Framed, framed_refl, framed_trans, framed_written, untouched}
use Rattle.machine.proofs.Answers.{refusal_some, asked_no, asked_yes}
use Rattle.machine.proofs.NilReads.{nil_cases, nil_accepted, nil_questions, queued_accepted}
use Rattle.counts.specs.Changes.{named_fitting}
use Rattle.counts.proofs.Changes.{apply_fits, framed_fitting}
use Rattle.calls.specs.Packets.{value_by}
use Rattle.calls.specs.Tests.{code_late, code_late_row, code_questions}
use Rattle.std.specs.Result.{result_and}
use Rattle.calls.specs.Called.{EarlyYes, fitted_all, code_accepted, NamesFit, outcome_of, RowAsked, Queued, RowCalled}
use Rattle.calls.proofs.EarlyLaws.{early_first, late_first}
use Rattle.calls.proofs.PacketLaws.{packet_value}
use Rattle.calls.proofs.CallLaws.{questions_split}

done_or_refused : (v n : ℕ) → value v ≡ refused n → ⊥
done_or_refused v n e = let z : ◌≡◌ {A = ℕ} 0 1 = cc in omega arith

framed_fitted : (t : List ℕ) (ps : List Packet) → Framed t (fitted_all t ps)
unfolding named_fitting
framed_fitted t [] = framed_refl t
framed_fitted t (p ∷ ps) =
    framed_trans t (named_fitting t p) (fitted_all (named_fitting t p) ps) (framed_fitting t (name_changes plus (names p))) (framed_fitted (named_fitting t p) ps)

-- of a read of nil the code asks the paper's questions
pub nil_late : (t : List ℕ) (q : Queue) (r : RowCall) → reads_nil r ≡ true → code_late_row t q r ≡ late_row t q r
unfolding code_late_row late_row
nil_late t q r e = rw e

pub code_nil : (t : List ℕ) (q : Queue) (r : RowCall) → reads_nil r ≡ true → code_questions t q r ≡ questions (store t q []) (row r)
unfolding code_questions questions late
code_nil t q r e = ap (λ (ks : List Question). early (store t q []) (row r) ++ ks) (nil_late t q r e)

module _ (t : List ℕ) (q : Queue) (r : RowCall) where
  pub outcome_refused : (n : ℕ) → first_no (code_questions t q r) ≡ suc n → outcome_of t q r ≡ outcome (refused (suc n)) (store t q [])
  unfolding outcome_of
  outcome_refused n e = rw e

  pub outcome_done : first_no (code_questions t q r) ≡ 0 → outcome_of t q r ≡ code_accepted t q r
  unfolding outcome_of
  outcome_done e = rw e

  -- an accepted read of nil changes nothing, and any other call queues its packet and names its cells
  code_nil_accepted : reads_nil r ≡ true → code_accepted t q r ≡ outcome (value 0) (store t q [])
  unfolding code_accepted written value_of word_read reads_nil is_nil
  code_nil_accepted e = nil_cases r e (λ k. code_accepted t q k ≡ outcome (value 0) (store t q [])) refl refl

  code_queued : reads_nil r ≡ false
      → code_accepted t q r ≡ outcome (value (value_of t r)) (store (named_fitting (written t r) (packet_of t r)) (appended q (packet_of t r)) [])
  unfolding code_accepted
  code_queued e = rw e

  -- where all names fit this is the machine's answer
  pub fitted_accepted : NamesFit t r → code_accepted t q r ≡ accepted (store t q []) (row r)
  unfolding named_fitting named
  fitted_accepted f =
      ⊎_elim (λ e. code_nil_accepted e ∙ sym (nil_accepted r e (store t q [])))
      (λ e. code_queued e
      ∙ ap (λ (u : List ℕ). outcome (value (value_of t r)) (store u (appended q (packet_of t r)) []))
      (apply_fits (written t r) (name_changes plus (names (packet_of t r))) (f e))
      ∙ sym (queued_accepted (store t q []) r e))
      (tested (reads_nil r))

  -- and on any table no more is touched
  pub code_untouched : AllYes (early (store t q []) (row r)) → Untouched (store t q []) (code_accepted t q r).after
  unfolding code_accepted
  code_untouched h =
      let w = written t r in
      untouched (store t q []) _ _ [] (framed_trans t w (fitted_all w (packets_of t r)) (framed_written (store t q []) r h) (framed_fitted w (packets_of t r))) refl refl

  -- the first "no" refuses, and nothing changes
  asked_refused : (f : Refusal) (q' : Queue) → refusal_number f ≡ first_no (code_questions t q r) → q' ≡ q → RowAsked t q r (Err f) q'
  asked_refused f q' e k = go (first_no (code_questions t q r)) refl
    where
      go : (m : ℕ) → first_no (code_questions t q r) ≡ m → RowAsked t q r (Err f) q'
      go zero d = absurd (omega (arith, refusal_some f, e ∙ d))
      go (suc m) d =
          let o = outcome_refused m d in
          record {
            reply = ap refused (e ∙ d) ∙ sym (ap (λ (x : Outcome). x.reply) o);
            queue = k ∙ sym (ap (λ (x : Outcome). x.after.queue) o);
          }

  -- and where there is none the call is done
  asked_done : (v : ℕ) (q' : Queue) → reads_nil r ≡ false → first_no (code_questions t q r) ≡ 0 → v ≡ value_of t r → q' ≡ appended q (packet_of t r)
      → RowAsked t q r (Ok v) q'
  asked_done v q' n e d c =
      let o = outcome_done e ∙ code_queued n in
      record {
        reply = ap value d ∙ sym (ap (λ (x : Outcome). x.reply) o);
        queue = c ∙ sym (ap (λ (x : Outcome). x.after.queue) o);
      }

  -- of a read of nil question 1 decides
  module _ (n : reads_nil r ≡ true) where
    nil_first : first_no (code_questions t q r) ≡ refused_by (in_range t q) 1 0
    nil_first = ap first_no (code_nil t q r n) ∙ nil_questions r n (store t q [])

    pub nil_refused : (a : RowAnswer) (q' : Queue) → in_range t q ≡ false → a ≡ Err Refusal.StoreOutOfRange → q' ≡ q → RowAsked t q r a q'
    nil_refused a q' h e k = rw e (asked_refused Refusal.StoreOutOfRange q' (sym (nil_first ∙ ap (λ (b : Bool). refused_by b 1 0) h)) k)

    pub nil_done : in_range t q ≡ true → RowAsked t q r (Ok 0) q
    nil_done h =
        let o = outcome_done (nil_first ∙ ap (λ (b : Bool). refused_by b 1 0) h) ∙ code_nil_accepted n in
        record { reply = sym (ap (λ (x : Outcome). x.reply) o); queue = sym (ap (λ (x : Outcome). x.after.queue) o) }

  -- an early "no" is the call's
  pub early_refused : (asked : Asked) (f : Refusal) (a : RowAnswer) (q' : Queue) → reads_nil r ≡ false → asked_number asked ≡ first_no (early (store t q []) (row r)) → asked ≡ Err f
      → a ≡ Err f → q' ≡ q → RowAsked t q r a q'
  early_refused asked f a q' n s said h k =
      let first = early_first (first_no (code_questions t q r)) (first_no (early (store t q []) (row r))) (first_no (code_late t q (packet_of t r))) asked f (questions_split t q r n) s said in
      rw h (asked_refused f q' (asked_no first said) k)

  -- the table that goes with the answer
  module _ (a : RowAnswer) (q' : Queue) (h : RowAsked t q r a q') where
    with_table : (t' : List ℕ) → t' ≡ (outcome_of t q r).after.table → RowCalled t q r a t' q'
    with_table t' e = record { reply = h.reply; table = e; queue = h.queue }

    pub done_yes : (v : ℕ) → a ≡ Ok v → first_no (code_questions t q r) ≡ 0
    done_yes v e = go (first_no (code_questions t q r)) refl
      where
        go : (m : ℕ) → first_no (code_questions t q r) ≡ m → first_no (code_questions t q r) ≡ 0
        go zero d = d
        go (suc m) d = absurd (done_or_refused v (suc m) (sym (ap row_reply e) ∙ h.reply ∙ ap (λ (x : Outcome). x.reply) (outcome_refused m d)))

    pub done_called : (v : ℕ) (t' : List ℕ) → reads_nil r ≡ false → a ≡ Ok v → t' ≡ named_fitting (written t r) (packet_of t r) → RowCalled t q r a t' q'
    done_called v t' n e w = with_table t' (w ∙ sym (ap (λ (x : Outcome). x.after.table) (outcome_done (done_yes v e) ∙ code_queued n)))

    pub refused_called : (f : Refusal) → a ≡ Err f → RowCalled t q r a t q'
    unfolding code_accepted
    refused_called f e = go (first_no (code_questions t q r)) refl
      where
        go : (m : ℕ) → first_no (code_questions t q r) ≡ m → RowCalled t q r a t q'
        go zero d =
            absurd (done_or_refused (value_of t r) (refusal_number f) (sym (ap (λ (x : Outcome). x.reply) (outcome_done d)) ∙ sym h.reply ∙ ap row_reply e))
        go (suc m) d = with_table t (sym (ap (λ (x : Outcome). x.after.table) (outcome_refused m d)))

    pub nil_called : reads_nil r ≡ true → RowCalled t q r a t q'
    nil_called n = go (first_no (code_questions t q r)) refl
      where
        go : (m : ℕ) → first_no (code_questions t q r) ≡ m → RowCalled t q r a t q'
        go zero d = with_table t (sym (ap (λ (x : Outcome). x.after.table) (outcome_done d ∙ code_nil_accepted n)))
        go (suc m) d = with_table t (sym (ap (λ (x : Outcome). x.after.table) (outcome_refused m d)))

-- the late answer is the call's, once the early questions have said "yes"
module _ (t : List ℕ) (q : Queue) (p : Packet) (asked : Asked) (late : asked_number asked ≡ first_no (code_late t q p)) where
  whole : (r : RowCall) → EarlyYes t q r p → asked_number asked ≡ first_no (code_questions t q r)
  whole r y =
      late_first (first_no (code_questions t q r)) (first_no (early (store t q []) (row r))) (first_no (code_late t q (packet_of t r))) asked (questions_split t q r y.queues)
      y.early (late ∙ ap (λ (s : Packet). first_no (code_late t q s)) y.packet)

  pub queued_refused : (v : ℕ) (f : Refusal) (a : RowAnswer) (q' : Queue) → asked ≡ Err f → a ≡ result_and asked (Ok v) → q' ≡ q → Queued t q p a q'
  queued_refused v f a q' said h k r y = rw (h, said) (asked_refused t q r f q' (asked_no (whole r y) said) k)

  pub queued_done : (v : ℕ) (a : RowAnswer) (q' : Queue) → asked ≡ Ok tt → a ≡ result_and asked (Ok v) → v ≡ value_by (kind_of p.kind) p.b p.c
      → q' ≡ appended q p → Queued t q p a q'
  queued_done v a q' said h d c r y =
      rw (h, said) (asked_done t q r v q' y.queues (sym (asked_yes (whole r y) said))
      (d ∙ ap (λ (s : Packet). value_by (kind_of s.kind) s.b s.c) y.packet ∙ packet_value t r y.queues) (c ∙ ap (appended q) y.packet))

-- the packet in the slot that the code finds
pub appended_at : (q q' : Queue) (p : Packet) (j : ℕ) → j ≡ (q.place + q.count) % slots → q' ≡ put_slot q j p q.place (q.count + 1) → q' ≡ appended q p
unfolding appended
appended_at q q' p j e h = h ∙ ap (λ (i : ℕ). put_slot q i p q.place (q.count + 1)) e
