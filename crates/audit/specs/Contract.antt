-- The audit's contract: for any store, the machine's reply and the machine's store afterwards.
use Rattle.std.specs.Prelude.{◌≡◌, List, ℕ, Ok, drop}
use Rattle.machine.specs.declared.Finding.{Finding}
use Rattle.machine.specs.Answers.{AuditAnswer}
use Rattle.machine.specs.declared.Queue.{Queue}
use Rattle.machine.specs.Answers.{audit_answer_reply}
use Rattle.machine.specs.Audit.{rules, audit_reply}
use Rattle.machine.specs.Calls.{audit, store}
use Rattle.machine.specs.Machine.{machine}
use Rattle.machine.specs.Questions.{first_no}
use Rattle.machine.specs.Table.{capacity, scratch_words}

-- sound, or the lowest-numbered rule broken
pub record Judged (t : List ℕ) (q : Queue) (s s' : List ℕ) (f : Finding) : Type 0 where
  pub reply : audit_answer_reply (Ok f) ≡ audit_reply (first_no (rules t q))
  pub past : drop (scratch_words (capacity t)) s' ≡ drop (scratch_words (capacity t)) s

-- table and queue are as they were; s is the scratch lent, s' what is left in it
pub record Audited (t : List ℕ) (q : Queue) (s s' : List ℕ) (r : AuditAnswer) : Type 0 where
  pub reply : audit_answer_reply r ≡ (machine (store t q s) audit).reply
  pub after : store t q s' ≡ (machine (store t q s) audit).after
