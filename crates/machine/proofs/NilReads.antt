-- A read of nil (document 02, A1): what the definition makes of it, and that no other answer keeps the promise.
use mathlib.Core.Path.{◌≡◌, refl, sym, ap, subst, ◌∙◌}
use mathlib.Core.Logic.{inr, ⊎_elim}
use mathlib.Core.Bool.{Bool, true, false, false≢true}
use mathlib.Core.List.{List}
use Prim.Native.Nat.{ℕ}
use borrow.Author.Tests.{eqb-true}
use Rattle.machine.specs.declared.Queue.{Queue}
use Rattle.machine.specs.Range.{every_of}
use Rattle.machine.specs.Words.{is_nil, is_legal}
use Rattle.machine.specs.Queue.{appended}
use Rattle.machine.specs.Packets.{plus}
use Rattle.machine.specs.Calls.{RowCall, car, cdr, cons, set_left, set_right, up, down, row, value, Store, store, field, packet_of, reads_nil, written, word_read, value_of}
use Rattle.machine.specs.Step.{named, Outcome, outcome}
use Rattle.machine.specs.Questions.{refused_by, first_no, in_range, words_legal, x_is_cell, ask_read, early_row, early, late_queued, late_row, late, questions}
use Rattle.machine.specs.Machine.{accepted}
use Rattle.machine.specs.WrongAnswers.{OnlyAnswer}
use Rattle.machine.proofs.Range.{tested}
use Rattle.machine.proofs.Questions.{AllYes}
use Rattle.machine.proofs.Kept.{gives_machine, machine_accepted}

-- there are two of them
pub nil_cases : (r : RowCall) → reads_nil r ≡ true → (P : RowCall → Type 0) → P (car 0) → P (cdr 0) → P r
unfolding reads_nil is_nil
nil_cases (car x) e P a d = rw (eqb-true x 0 e) a
nil_cases (cdr x) e P a d = rw (eqb-true x 0 e) d
nil_cases (cons x y) e P a d = absurd (false≢true e)
nil_cases (set_left x y) e P a d = absurd (false≢true e)
nil_cases (set_right x y) e P a d = absurd (false≢true e)
nil_cases (up x n) e P a d = absurd (false≢true e)
nil_cases (down x n) e P a d = absurd (false≢true e)

-- accepted they reply nil and change nothing
module _ (r : RowCall) (e : reads_nil r ≡ true) where
  pub nil_accepted : (s : Store) → accepted s (row r) ≡ outcome (value 0) s
  unfolding accepted written value_of word_read reads_nil is_nil
  nil_accepted s = nil_cases r e (λ k. accepted s (row k) ≡ outcome (value 0) s) refl refl

  -- question 1 alone can refuse them
  pub nil_questions : (s : Store) → first_no (questions s (row r)) ≡ refused_by (in_range s.table s.queue) 1 0
  unfolding questions first_no early early_row late late_row words_legal every_of is_legal reads_nil is_nil
  nil_questions s = nil_cases r e (λ k. first_no (questions s (row k)) ≡ refused_by (in_range s.table s.queue) 1 0) refl refl

  pub only_nil : (s : Store) → in_range s.table s.queue ≡ true → OnlyAnswer s (row r) (value 0) s
  only_nil s h reply s' p =
      let g = gives_machine s (row r) reply s' (p.exact (inr e)) in
      let m = machine_accepted s (row r) (nil_questions s ∙ ap (λ (b : Bool). refused_by b 1 0) h) ∙ nil_accepted s in
      (g.0 ∙ ap (λ (o : Outcome). o.reply) m, g.1 ∙ ap (λ (o : Outcome). o.after) m)

-- any other read is of a cell, and gives the word in its field
module _ (t : List ℕ) (x : ℕ) (e : is_nil x ≡ false) where
  pub read_cell : AllYes (ask_read t x) → x_is_cell t x ≡ true
  read_cell h = (rw e at h).0

  pub word_read_lem : (k : ℕ) → word_read t x k ≡ field t x k
  unfolding word_read
  word_read_lem k = rw e

-- and any other row call queues its packet
pub late_queued_lem : (t : List ℕ) (q : Queue) (r : RowCall) → reads_nil r ≡ false → late_row t q r ≡ late_queued t q r
unfolding late_row
late_queued_lem t q r e = rw e

-- what an accepted row call gives, by whether it reads nil
abbrev pub queued_outcome : Store → RowCall → Outcome
queued_outcome s r =
    outcome (value (value_of s.table r)) (store (named plus (written s.table r) (packet_of s.table r)) (appended s.queue (packet_of s.table r)) s.scratch)

pub queued_accepted : (s : Store) (r : RowCall) → reads_nil r ≡ false → accepted s (row r) ≡ queued_outcome s r
unfolding accepted
queued_accepted s r e = rw e

pub row_cases : (s : Store) (r : RowCall) (P : Outcome → Type 0) → (reads_nil r ≡ true → P (outcome (value 0) s))
    → (reads_nil r ≡ false → P (queued_outcome s r)) → P (accepted s (row r))
row_cases s r P nil queued =
    ⊎_elim (λ e. subst P (sym (nil_accepted r e s)) (nil e)) (λ e. subst P (sym (queued_accepted s r e)) (queued e)) (tested (reads_nil r))
