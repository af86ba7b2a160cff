-- The five rules in their order, and the machine's audit of any store.
use Rattle.std.specs.Prelude.{Ok, Err}
use Rattle.machine.specs.declared.Finding.{Finding}
use mathlib.Core.Path.{◌≡◌, refl, sym, ap, ◌∙◌}
use mathlib.Core.Bool.{true, false, ◌&&◌}
use mathlib.Core.List.{List}
use Prim.Native.Nat.{ℕ, zero, suc}
use native.Mathlib.Omega.{arith}
use lib.ListN.{drop}
use Rattle.machine.specs.declared.Queue.{Queue}
use Rattle.machine.specs.declared.Refusal.{Refusal}
use Rattle.machine.specs.declared.Rule.{Rule}
use Rattle.machine.specs.Answers.{refusal_number, rule_number}
use Rattle.machine.specs.Audit.{cells_sound, chain_sound, other_slots_zero, packets_legal, names_counted, packets_sound, pointers_sound, all_reached, rules, audit_reply, audited}
use Rattle.machine.specs.Calls.{store, step, audit, refused, broken}
use Rattle.machine.specs.Machine.{accepted, machine}
use Rattle.machine.specs.Questions.{first_no, early, late, questions}
use Rattle.machine.specs.Queue.{waiting}
use Rattle.machine.specs.Step.{cleared, Outcome}
use Rattle.machine.specs.Table.{capacity, scratch_words}
use Rattle.machine.proofs.Kept.{machine_refused, machine_accepted}
use Rattle.machine.proofs.Answers.{refusal_some}
use Rattle.machine.proofs.Questions.{first_no_append, first_no_none, early_numbered}
use Rattle.machine.proofs.Range.{and_first, and_second}
use Rattle.machine.proofs.Scratch.{cleared_same}
use Rattle.audit_packets.specs.Packets.{replays_all}
use Rattle.audit.specs.Contract.{Judged, Audited}

-- the waiting packets of a queue that passes S3 are legal
pub packets_legal_lem : (t : List ℕ) (q : Queue) → packets_sound t q ≡ true → packets_legal t (waiting q) ≡ true
unfolding packets_sound replays_all
packets_legal_lem t q h =
    let legal = other_slots_zero q && packets_legal t (waiting q) in
    and_second (other_slots_zero q) (packets_legal t (waiting q))
    (and_first legal (replays_all t q) (and_first (legal && replays_all t q) (names_counted t (waiting q)) h))

broken_reply : (r : Rule) → audit_reply (rule_number r) ≡ broken (rule_number r)
unfolding audit_reply
broken_reply Rule.Cells = refl
broken_reply Rule.FreeChain = refl
broken_reply Rule.Packets = refl
broken_reply Rule.Pointers = refl
broken_reply Rule.Reached = refl

-- the lowest-numbered rule broken, by the first test that fails
module _ (t : List ℕ) (q : Queue) (s s' : List ℕ) (past : drop (scratch_words (capacity t)) s' ≡ drop (scratch_words (capacity t)) s) where
  judged_broken : (r : Rule) → first_no (rules t q) ≡ rule_number r → Judged t q s s' (Finding.Broken r)
  judged_broken r e = record { reply = sym (ap audit_reply e ∙ broken_reply r); past = past }

  pub cells_broken : cells_sound t ≡ false → Judged t q s s' (Finding.Broken Rule.Cells)
  cells_broken a = judged_broken Rule.Cells (unfold rules first_no in (rw a))

  module _ (a : cells_sound t ≡ true) where
    pub chain_broken : chain_sound t ≡ false → Judged t q s s' (Finding.Broken Rule.FreeChain)
    chain_broken b = judged_broken Rule.FreeChain (unfold rules first_no in (rw (a, b)))

    module _ (b : chain_sound t ≡ true) where
      pub packets_broken : packets_sound t q ≡ false → Judged t q s s' (Finding.Broken Rule.Packets)
      packets_broken c = judged_broken Rule.Packets (unfold rules first_no in (rw (a, b, c)))

      module _ (c : packets_sound t q ≡ true) where
        pub pointers_broken : pointers_sound t (waiting q) ≡ false → Judged t q s s' (Finding.Broken Rule.Pointers)
        pointers_broken d = judged_broken Rule.Pointers (unfold rules first_no in (rw (a, b, c, d)))

        module _ (d : pointers_sound t (waiting q) ≡ true) where
          pub reached_broken : all_reached t ≡ false → Judged t q s s' (Finding.Broken Rule.Reached)
          reached_broken e = judged_broken Rule.Reached (unfold rules first_no in (rw (a, b, c, d, e)))

          pub none_broken : all_reached t ≡ true → Judged t q s s' Finding.Sound
          none_broken e = record { reply = sym (ap audit_reply none ∙ (unfold audit_reply in refl)); past = past }
            where
              none : first_no (rules t q) ≡ 0
              none = unfold rules first_no in (rw (a, b, c, d, e))

-- the machine's audit, by questions 1 and 2, which are a step's
module _ (t : List ℕ) (q : Queue) (s : List ℕ) where
  abbrev asks : ℕ
  asks = first_no (early (store t q s) step)

  same_questions : first_no (early (store t q s) audit) ≡ asks
  unfolding early
  same_questions = refl

  some_no : (k : ℕ) → asks ≡ suc k → first_no (questions (store t q s) audit) ≡ suc k
  unfolding questions
  some_no k a = first_no_append (early (store t q s) audit) (late (store t q s) audit) k (same_questions ∙ a)

  -- a refusal leaves the scratch
  pub audited_refused : (r : Refusal) → refusal_number r ≡ asks → Audited t q s s (Err r)
  audited_refused r a = go (refusal_number r) refl
    where
      go : (k : ℕ) → refusal_number r ≡ k → Audited t q s s (Err r)
      go zero e = absurd (omega (arith, refusal_some r))
      go (suc k) e =
          let m = machine_refused (store t q s) audit k (some_no k (sym a ∙ e)) in record {
            reply = ap refused e ∙ sym (ap (λ (o : Outcome). o.reply) m);
            after = sym (ap (λ (o : Outcome). o.after) m);
          }

  module _ (a : asks ≡ 0) where
    accepted_audit : machine (store t q s) audit ≡ audited (store t q s)
    unfolding accepted questions
    accepted_audit =
        machine_accepted (store t q s) audit
        (first_no_none (early (store t q s) audit) (late (store t q s) audit) (early_numbered (store t q s) audit) (same_questions ∙ a)
        ∙ (unfold late first_no in refl))

    -- and a verdict clears it
    pub audited_judged : (s' : List ℕ) (f : Finding) (n : ℕ) (s'' : List ℕ) → Judged t q s s' f → n ≡ capacity t → s'' ≡ cleared (scratch_words n) s'
        → Audited t q s s'' (Ok f)
    unfolding audited
    audited_judged s' f n s'' j m k = record {
      reply = j.reply ∙ sym (ap (λ (o : Outcome). o.reply) accepted_audit);
      after = ap (store t q) (k ∙ ap (λ (i : ℕ). cleared (scratch_words i) s') m ∙ cleared_same (scratch_words (capacity t)) s s' j.past)
          ∙ sym (ap (λ (o : Outcome). o.after) accepted_audit);
    }
