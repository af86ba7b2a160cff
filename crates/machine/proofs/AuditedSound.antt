-- The audit's reply and the record `Sound` say the same.
use mathlib.Core.Path.{◌≡◌, refl, ap}
use mathlib.Core.Logic.{◌↔◌}
use mathlib.Core.List.{List}
use Prim.Native.Nat.{ℕ, zero, suc, ◌≤◌}
use native.Mathlib.Omega.{arith}
use lib.ListN.{length}
use borrow.Author.Tests.{le-leb, leb-true}
use Rattle.machine.specs.declared.Queue.{Queue}
use Rattle.machine.specs.Table.{capacity, scratch_words}
use Rattle.machine.specs.Calls.{audit, refused, sound, store}
use Rattle.machine.specs.Questions.{first_no, scratch_enough, early, late, questions}
use Rattle.machine.specs.Audit.{rules, audit_reply, audited, Sound}
use Rattle.machine.specs.Machine.{accepted, machine}
use Rattle.machine.specs.AuditedSound.{AuditedSound}
use Rattle.machine.proofs.Questions.{Numbered, AllYes, first_no_all, first_no_zero}
use Rattle.machine.proofs.Kept.{machine_cases, early_yes, gives_machine}

none_broken : (n : ℕ) → audit_reply n ≡ sound → n ≡ 0
unfolding audit_reply
none_broken zero h = refl
none_broken (suc n) h = cc

not_refused : (n : ℕ) → refused n ≡ sound → ⊥
not_refused n h = let z : ◌≡◌ {A = ℕ} 0 1 = cc in omega arith

rules_numbered : (t : List ℕ) (q : Queue) → Numbered (rules t q)
unfolding rules
rules_numbered t q = (omega arith, (omega arith, (omega arith, (omega arith, (omega arith, tt)))))

module _ (t : List ℕ) (q : Queue) (s : List ℕ) where
  abbrev Found : Type 0
  Found = Sound t q × (scratch_words (capacity t) ≤ length s)

  asked : Found → first_no (questions (store t q s) audit) ≡ 0
  unfolding questions early late scratch_enough
  asked h = first_no_zero (questions (store t q s) audit) (h.0.shape, (le-leb (scratch_words (capacity t)) (length s) h.1, tt))

  kept : Found → first_no (rules t q) ≡ 0
  unfolding rules
  kept h = let k = h.0 in first_no_zero (rules t q) (k.cells, (k.chain, (k.packets, (k.pointed, (k.live, tt)))))

  found : first_no (questions (store t q s) audit) ≡ 0 → AllYes (rules t q) → Found
  unfolding rules early scratch_enough
  found e k =
      let y = early_yes (store t q s) audit e in (
        record { shape = y.0; cells = k.0; chain = k.1.0; packets = k.1.1.0; pointed = k.1.1.1.0; live = k.1.1.1.1.0 },
        leb-true (scratch_words (capacity t)) (length s) y.1.0,
      )

  -- of the machine's own audit: an accepted one replies by the rules alone
  pub machine_audits : ((machine (store t q s) audit).reply ≡ sound) ↔ Found
  unfolding accepted audited
  machine_audits = machine_cases (store t q s) audit (λ o. (o.reply ≡ sound) ↔ Found)
      (λ e. (
        λ r. found e (first_no_all (rules t q) (rules_numbered t q) (none_broken (first_no (rules t q)) r)),
        λ h. unfold audit_reply in ap audit_reply (kept h),
      ))
      (λ n e. (λ r. absurd (not_refused (suc n) r), λ h. absurd (omega (arith, asked h))))

pub audited_sound : AuditedSound
audited_sound t q s r after p = rw (gives_machine (store t q s) audit r after (p.exact tt)).0 (machine_audits t q s)
