-- Demand 3: the facts carried from call to call give every clause.
use mathlib.Core.Path.{◌≡◌, refl}
use mathlib.Core.Logic.{◌⊎◌, inl, inr, ⊎_elim}
use mathlib.Core.Bool.{true, false, false≢true}
use mathlib.Core.List.{List, [], ◌∷◌}
use Prim.Native.Nat.{ℕ, suc, ◌<◌}
use native.Mathlib.Omega.{arith}
use lib.Dec.{ltb}
use borrow.Author.Tests.{ltb-true, eqb-true, eq-eqb}
use Rattle.machine.specs.declared.Queue.{Queue}
use Rattle.machine.specs.Table.{root_count, capacity, word_at, in_use, is_free}
use Rattle.machine.specs.Queue.{Packet, waiting}
use Rattle.machine.specs.Packets.{root, plus, minus, is_named}
use Rattle.machine.specs.Reached.{is_root_by_queue, begun, onward, ReachedByQueue, ReachedFrom}
use Rattle.machine.specs.Calls.{Call, fresh, row, step, audit, read, write, Reply, value, refused, Store, store}
use Rattle.machine.specs.Step.{step_with, step_from, stepped}
use Rattle.machine.specs.Questions.{first_no, questions}
use Rattle.machine.specs.Audit.{audited}
use Rattle.machine.specs.Machine.{text_read, accepted, machine}
use Rattle.machine.specs.Promise.{Promise}
use Rattle.machine.proofs.Range.{tested, or_true}
use Rattle.machine.proofs.Kept.{machine_cases, gives_machine}
use Rattle.machine.proofs.NilReads.{row_cases}
use Rattle.machine.proofs.AuditedSound.{audited_sound}
use Rattle.soundness.specs.Demand3.{Link, Joined, Begun, table_after, queue_after, Holds, holds, moved, answers, holds_from, holds_after, Held, NoneLost, NoneLeft, ExactWhenDone, Clauses, Demand3}
use Rattle.soundness.proofs.PacketKinds.{unnamed_waiting}
use Rattle.soundness.proofs.Facts.{Facts, sound_facts, sound_live}
use Rattle.soundness.proofs.ReachedCells.{counted_used, pointed_used}
use Rattle.soundness.proofs.CallSound.{decided, value_accepted}
use Rattle.soundness.proofs.CodeTests.{pointers_counted}
use Rattle.soundness.proofs.RootsAreHolds.{Agrees, fresh_agrees, nil_agrees, row_agrees, step_agrees, read_agrees}

-- the machine's own calls carry the facts on
refused_agrees : (t : List ℕ) (q : Queue) (h : ℕ → Holds) (call : Call) (n : ℕ) → Agrees t q h → Agrees t q (λ x. moved x call (refused n) (h x))
unfolding moved
refused_agrees t q h (fresh c) n a = a
refused_agrees t q h (row r) n a = a
refused_agrees t q h step n a = a
refused_agrees t q h audit n a = a
refused_agrees t q h (read text) n a = a
refused_agrees t q h (write w room) n a = a

stepped_agrees : (s : Store) (h : ℕ → Holds) → Agrees s.table s.queue h → (ps : List Packet) → waiting s.queue ≡ ps
    → Agrees (step_from s ps).after.table (step_from s ps).after.queue h
unfolding step_from step_with
stepped_agrees s h a [] e = a
stepped_agrees s h a (p ∷ ps) e = step_agrees s.table s.queue p ps h a e

accepted_agrees : (s : Store) (call : Call) (h : ℕ → Holds) → Agrees s.table s.queue h → first_no (questions s call) ≡ 0
    → Agrees (accepted s call).after.table (accepted s call).after.queue (λ x. moved x call (accepted s call).reply (h x))
unfolding moved accepted text_read stepped audited
accepted_agrees s (fresh c) h a e = fresh_agrees s c e
accepted_agrees s (row r) h a e =
    row_cases s r (λ o. Agrees o.after.table o.after.queue (λ x. moved x (row r) o.reply (h x))) (λ n. nil_agrees s.table s.queue r h n a)
    (λ n. row_agrees s r h n a e)
accepted_agrees s step h a e = stepped_agrees s h a (waiting s.queue) refl
accepted_agrees s audit h a e = a
accepted_agrees s (read text) h a e = read_agrees s text h a e
accepted_agrees s (write w room) h a e = a

machine_agrees : (s : Store) (call : Call) (h : ℕ → Holds) → Agrees s.table s.queue h
    → Agrees (machine s call).after.table (machine s call).after.queue (λ x. moved x call (machine s call).reply (h x))
machine_agrees s call h a = machine_cases s call (λ o. Agrees o.after.table o.after.queue (λ x. moved x call o.reply (h x)))
    (accepted_agrees s call h a) (λ n e. refused_agrees s.table s.queue h call (suc n) a)

-- whoever keeps the promise carries them on too, since on a sound store all that a call gives is decided
pub promise_agrees : (s : Store) (call : Call) (r : Reply) (after : Store) (h : ℕ → Holds) → Promise s call r after → Agrees s.table s.queue h
    → Agrees after.table after.queue (λ x. moved x call r (h x))
promise_agrees s call r after h p a =
    let e = gives_machine s call r after (p.exact (decided s call a.whole.sound)) in
    rw (e.0, e.1) (machine_agrees s call h a)

-- an accepted fresh of any store starts them
begun_agrees : (s : Store) (c w : ℕ) (after : Store) → Promise s (fresh c) (value w) after → Agrees after.table after.queue (λ x. holds 0 0)
unfolding accepted
begun_agrees s c w after p = let a = value_accepted s (fresh c) w after tt p in rw a.after (fresh_agrees s c a.asked)

links_agree : (t : List ℕ) (q : Queue) (h : ℕ → Holds) (ls : List Link) → Agrees t q h → Joined t q ls
    → Agrees (table_after t ls) (queue_after q ls) (λ x. holds_from (h x) (answers ls) x)
unfolding holds_from
links_agree t q h [] a j = a
links_agree t q h (l ∷ ls) a j =
    links_agree l.after.table l.after.queue (λ x. moved x l.call l.reply (h x)) ls
    (promise_agrees (store t q l.scratch) l.call l.reply l.after h j.0 a) j.1

-- the clauses
module _ (t : List ℕ) (q : Queue) (h : ℕ → Holds) (a : Agrees t q h) where
  abbrev ps : List Packet
  ps = waiting q

  f : Facts t ps
  f = sound_facts t q a.whole.sound

  -- a held cell is in use
  held_used : (i : ℕ) → i < capacity t → Held t q h i → in_use t i ≡ true
  held_used i l g = counted_used t ps f i l (omega (arith, a.roots i l))

  pub from_held : (j : ℕ) → Held t q h j → {i : ℕ} → ReachedFrom t j i → (i < capacity t) × (in_use t i ≡ true)
  from_held j g (begun {i = i} l e) = let d : j ≡ i = eqb-true j i e in (l, held_used i l (rw d at g))
  from_held j g (onward {j = k} {i = i} r l e) = let w = from_held j g r in (l, pointed_used t ps f k i w.0 l w.1 e)

  -- what is reached is reached from a root
  from_root : {i : ℕ} → ReachedByQueue t ps i → (j : ℕ) × (j < capacity t) × (is_root_by_queue t ps j ≡ true) × ReachedFrom t j i
  from_root (begun {i = i} l e) = (i, l, e, begun l (eq-eqb i i refl))
  from_root (onward {i = i} r l e) = let w = from_root r in (w.0, w.1, w.2, onward w.3 l e)

  root_held : (j : ℕ) → j < capacity t → is_root_by_queue t ps j ≡ true → Held t q h j ⊎ (is_named ps (suc j) ≡ true)
  unfolding is_root_by_queue
  root_held j l e =
      ⊎_elim (λ n. inr n)
      (λ n. ⊎_elim (λ c. inl (unnamed_held n (ltb-true 0 (word_at t j root_count) c))) (λ c. inr c) (or_true (ltb 0 (word_at t j root_count)) (is_named ps (suc j)) e))
      (tested (is_named ps (suc j)))
    where
      unnamed_held : is_named ps (suc j) ≡ false → 0 < word_at t j root_count → Held t q h j
      unnamed_held n c = omega (arith, a.roots j l, unnamed_waiting ps (suc j) n root plus, unnamed_waiting ps (suc j) n root minus)

  none_lost : NoneLost t q h
  unfolding is_free
  none_lost j i g r = rw (from_held j g r).1

  none_left : NoneLeft t q h
  none_left i l e =
      let w = from_root (sound_live t q a.whole.sound i l e) in
      (w.0, root_held w.0 w.1 w.2, w.3)

  pub exact_when_done : ExactWhenDone t q h
  exact_when_done z i l = (there, λ w. (from_held w.0 w.1 w.2).1)
    where
      none : (x : ℕ) → is_named ps x ≡ true → ⊥
      none x n = false≢true (unfold is_named in rw z at n)

      there : in_use t i ≡ true → (j : ℕ) × Held t q h j × ReachedFrom t j i
      there e = let w = none_left i l e in (w.0, ⊎_elim (λ g. g) (λ n. absurd (none (suc w.0) n)) w.1, w.2)

  pub clauses : Clauses t q h
  clauses = record {
    none_owed = a.owed;
    roots_are_holds = a.roots;
    cells_are_pointers = pointers_counted t q a.whole.sound;
    none_lost = none_lost;
    none_left = none_left;
    exact_when_done = exact_when_done;
    audits_sound = λ s r after l p. (audited_sound t q s r after p).1 (a.whole.sound, l);
  }

-- every list that demand 3 covers carries the facts, a sound store among them, to its end
pub covered : (t : List ℕ) (q : Queue) (ls : List Link) → Begun ls → Joined t q ls → Agrees (table_after t ls) (queue_after q ls) (holds_after ls)
unfolding moved holds_from
covered t q [] b j = absurd b
covered t q (l ∷ ls) b j =
    links_agree l.after.table l.after.queue (λ x. moved x l.call l.reply (holds 0 0)) ls
    (rw (b.2, b.3) (begun_agrees (store t q l.scratch) b.0 b.1 l.after (rw (b.2, b.3) at j.0))) j.1

pub demand3 : Demand3
demand3 t q ls b j = clauses (table_after t ls) (queue_after q ls) (holds_after ls) (covered t q ls b j)
