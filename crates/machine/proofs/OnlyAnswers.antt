-- Where the promise leaves one answer: a test for it that computes, and from what the machine says there the theorem for each entry of a table.
use mathlib.Core.Path.{◌≡◌, refl, sym, ap, ◌∙◌}
use mathlib.Core.Logic.{inl, inr, ⊎_elim}
use mathlib.Core.Bool.{Bool, true, false, ◌&&◌, ◌||◌}
use mathlib.Core.List.{List, [], ◌∷◌, map}
use Prim.Native.Nat.{ℕ, zero, suc, ◌<◌}
use native.Mathlib.Omega.{arith}
use lib.Dec.{eqb, ltb}
use borrow.Author.Tests.{eqb-true, ltb-true}
use Rattle.machine.specs.Calls.{Call, fresh, row, step, audit, read, write, Reply, refused, broken, Store, reads_nil}
use Rattle.machine.specs.Step.{Outcome, outcome}
use Rattle.machine.specs.Questions.{Question, ask, in_range, first_no, early, questions, text_pairs}
use Rattle.machine.specs.Audit.{rules, audit_reply, audited, Sound}
use Rattle.machine.specs.Machine.{accepted, machine}
use Rattle.machine.specs.Promise.{Decided, ByMachine}
use Rattle.machine.specs.WrongAnswers.{noes, Entry, refuses, finds, gives, OnlyAnswer, audited_store, Only, AllOnly}
use Rattle.machine.proofs.Range.{tested, or_true, or_right, and_first, and_second}
use Rattle.machine.proofs.Questions.{first_no_yes, first_no_no, first_no_all}
use Rattle.machine.proofs.Kept.{gives_machine, kept, machine_refused, machine_accepted}

-- question 1 and the five rules
unfoldable pub is_sound : Store → Bool
is_sound s = eqb (first_no (ask 1 (in_range s.table s.queue) ∷ rules s.table s.queue)) 0

unfoldable pub is_decided : Store → Call → Bool
is_decided s (fresh c) = true
is_decided s (row r) = is_sound s || reads_nil r
is_decided s step = eqb s.queue.count 0 || is_sound s
is_decided s audit = true
is_decided s (read text) = eqb (text_pairs text) 0 || is_sound s
is_decided s (write w room) = true

-- one of the early questions says "no", or the papers decide
unfoldable pub is_settled : Store → Call → Bool
is_settled s call = ltb 0 (first_no (early s call)) || is_decided s call

sound_is : (s : Store) → is_sound s ≡ true → Sound s.table s.queue
unfolding is_sound rules
sound_is s h =
    let ks = ask 1 (in_range s.table s.queue) ∷ rules s.table s.queue in
    let y = first_no_all ks (omega arith, (omega arith, (omega arith, (omega arith, (omega arith, (omega arith, tt)))))) (eqb-true (first_no ks) 0 h) in
    record { shape = y.0; cells = y.1.0; chain = y.1.1.0; packets = y.1.1.1.0; pointed = y.1.1.1.1.0; live = y.1.1.1.1.1.0 }

decided_is : (s : Store) (call : Call) → is_decided s call ≡ true → Decided s call
unfolding is_decided
decided_is s (fresh c) h = tt
decided_is s (row r) h = ⊎_elim (λ e. inl (sound_is s e)) (λ e. inr e) (or_true (is_sound s) (reads_nil r) h)
decided_is s step h =
    ⊎_elim (λ e. inr (eqb-true s.queue.count 0 e)) (λ e. inl (sound_is s e)) (or_true (eqb s.queue.count 0) (is_sound s) h)
decided_is s audit h = tt
decided_is s (read text) h =
    ⊎_elim (λ e. inr (eqb-true (text_pairs text) 0 e)) (λ e. inl (sound_is s e)) (or_true (eqb (text_pairs text) 0) (is_sound s) h)
decided_is s (write w room) h = tt

-- where it is settled, the machine's answer is the only one
pub only_machine : (s : Store) (call : Call) → is_settled s call ≡ true → OnlyAnswer s call (machine s call).reply (machine s call).after
unfolding is_settled
only_machine s call h r s' p =
    ⊎_elim (λ e. early_no (first_no (early s call)) refl (ltb-true 0 (first_no (early s call)) e))
    (λ e. gives_machine s call r s' (p.exact (decided_is s call e)))
    (or_true (ltb 0 (first_no (early s call))) (is_decided s call) h)
  where
    early_no : (k : ℕ) → first_no (early s call) ≡ k → 0 < k → ByMachine s call r s'
    early_no zero e l = absurd (omega arith)
    early_no (suc n) e l =
        let g = p.asked n e in
        let m = (kept s call).asked n e in
        (g.0 ∙ sym m.0, g.1 ∙ sym m.1)

-- so it is, where the machine gives the outcome o
by_outcome : (s : Store) (call : Call) (o : Outcome) → machine s call ≡ o → (r : Reply) (s' : Store) → ByMachine s call r s' → (r ≡ o.reply) × (s' ≡ o.after)
by_outcome s call o e r s' m = (m.0 ∙ ap (λ (x : Outcome). x.reply) e, m.1 ∙ ap (λ (x : Outcome). x.after) e)

only_of : (s : Store) (call : Call) (o : Outcome) → is_settled s call ≡ true → machine s call ≡ o → OnlyAnswer s call o.reply o.after
only_of s call o h e r s' p = by_outcome s call o e r s' (only_machine s call h r s' p)

pub only_decided : (s : Store) (call : Call) (o : Outcome) → Decided s call → machine s call ≡ o → OnlyAnswer s call o.reply o.after
only_decided s call o d e r s' p = by_outcome s call o e r s' (gives_machine s call r s' (p.exact d))

-- the first of those that say "no"
noes_yes : (k : Question) (ks : List Question) → k.answer ≡ true → noes (k ∷ ks) ≡ noes ks
unfolding noes
noes_yes k ks h = rw h

noes_no : (k : Question) (ks : List Question) → k.answer ≡ false → noes (k ∷ ks) ≡ k.number ∷ noes ks
unfolding noes
noes_no k ks h = rw h

no_noes : (n : ℕ) (ns : List ℕ) → noes [] ≡ n ∷ ns → ⊥
unfolding noes
no_noes n ns h = let z : ◌≡◌ {A = ℕ} 0 1 = cc in omega arith

first_of : (ks : List Question) (n : ℕ) (ns : List ℕ) → noes ks ≡ n ∷ ns → first_no ks ≡ n
first_of [] n ns h = absurd (no_noes n ns h)
first_of (k ∷ ks) n ns h =
    ⊎_elim (λ e. first_no_yes k ks e ∙ first_of ks n ns (sym (noes_yes k ks e) ∙ h))
    (λ e. first_no_no k ks e ∙ same_head (sym (noes_no k ks e) ∙ h)) (tested k.answer)
  where
    same_head : k.number ∷ noes ks ≡ n ∷ ns → k.number ≡ n
    same_head e = cc

pub only_first : (s : Store) (call : Call) (n : ℕ) (ns : List ℕ) → Decided s call → noes (questions s call) ≡ suc n ∷ ns
    → OnlyAnswer s call (refused (suc n)) s
only_first s call n ns d e = only_decided s call (outcome (refused (suc n)) s) d (machine_refused s call n (first_of (questions s call) (suc n) ns e))

only_refused : (s : Store) (call : Call) (n : ℕ) (ns : List ℕ) → 0 < n → is_settled s call ≡ true → noes (questions s call) ≡ n ∷ ns
    → OnlyAnswer s call (refused n) s
only_refused s call zero ns l h e = absurd (omega arith)
only_refused s call (suc n) ns l h e =
    only_of s call (outcome (refused (suc n)) s) h (machine_refused s call n (first_of (questions s call) (suc n) ns e))

only_found : (s : Store) (n : ℕ) (ns : List ℕ) → 0 < n → first_no (questions s audit) ≡ 0 → noes (rules s.table s.queue) ≡ n ∷ ns
    → OnlyAnswer s audit (broken n) (audited_store s)
unfolding is_settled is_decided accepted audited audit_reply
only_found s zero ns l h e = absurd (omega arith)
only_found s (suc n) ns l h e = only_of s audit (outcome (broken (suc n)) (audited_store s)) settled (machine_accepted s audit h ∙ says)
  where
    settled : is_settled s audit ≡ true
    settled = or_right (ltb 0 (first_no (early s audit))) refl

    says : accepted s audit ≡ outcome (broken (suc n)) (audited_store s)
    says = rw (first_of (rules s.table s.queue) (suc n) ns e)

-- what is computed of an entry, and what it must be
pub data Seen : Type 0 where
  noted : Bool → List ℕ → Seen
  given : Bool → Outcome → Seen

unfoldable pub computed : Entry → Seen
computed (refuses s call n ns) = noted (is_settled s call && ltb 0 n) (noes (questions s call))
computed (finds s n ns) = noted (eqb (first_no (questions s audit)) 0 && ltb 0 n) (noes (rules s.table s.queue))
computed (gives s call r s') = given (is_settled s call) (machine s call)

unfoldable pub expected : Entry → Seen
expected (refuses s call n ns) = noted true (n ∷ ns)
expected (finds s n ns) = noted true (n ∷ ns)
expected (gives s call r s') = given true (outcome r s')

module _ {b c : Bool} where
  noted_first : {xs ys : List ℕ} → noted b xs ≡ noted c ys → b ≡ c
  noted_first h = cc

  noted_second : {xs ys : List ℕ} → noted b xs ≡ noted c ys → xs ≡ ys
  noted_second h = cc

  given_first : {o p : Outcome} → given b o ≡ given c p → b ≡ c
  given_first h = cc

  given_second : {o p : Outcome} → given b o ≡ given c p → o ≡ p
  given_second h = cc

only : (e : Entry) → computed e ≡ expected e → Only e
unfolding computed expected
only (refuses s call n ns) h =
    let b = noted_first h in
    let e = noted_second h in
    (e, only_refused s call n ns (ltb-true 0 n (and_second (is_settled s call) (ltb 0 n) b)) (and_first (is_settled s call) (ltb 0 n) b) e)
only (finds s n ns) h =
    let b = noted_first h in
    let e = noted_second h in
    let yes = eqb (first_no (questions s audit)) 0 in
    (e, only_found s n ns (ltb-true 0 n (and_second yes (ltb 0 n) b)) (eqb-true (first_no (questions s audit)) 0 (and_first yes (ltb 0 n) b)) e)
only (gives s call r s') h = only_of s call (outcome r s') (given_first h) (given_second h)

pub all_only : (es : List Entry) → map computed es ≡ map expected es → AllOnly es
all_only [] h = tt
all_only (e ∷ es) h = (only e (heads h), all_only es (tails h))
  where
    heads : computed e ∷ map computed es ≡ expected e ∷ map expected es → computed e ≡ expected e
    heads k = cc

    tails : computed e ∷ map computed es ≡ expected e ∷ map expected es → map computed es ≡ map expected es
    tails k = cc
