-- What the questions give where a row call that queues a packet is accepted.
use mathlib.Core.Path.{◌≡◌, sym, ap, ◌∙◌}
use mathlib.Core.Logic.{inl, inr, ⊎_elim}
use mathlib.Core.Bool.{true, false, ◌||◌}
use mathlib.Core.List.{List, [], ◌∷◌, ◌++◌}
use Prim.Native.Nat.{ℕ, suc, ◌+◌, ◌≤◌, ◌<◌}
use native.Mathlib.Omega.{arith}
use lib.Dec.{eqb}
use borrow.Author.Tests.{le-leb, leb-true, ltb-true, eqb-true}
use Rattle.machine.specs.declared.Queue.{Queue}
use Rattle.machine.specs.Words.{ceiling}
use Rattle.machine.specs.Table.{root_count, capacity, word_at}
use Rattle.machine.specs.Queue.{Arrays, Packet, slots, appended, waiting}
use Rattle.machine.specs.Packets.{root, plus, minus, uses, waiting_change}
use Rattle.machine.specs.Counts.{held_at_least, held_at_most}
use Rattle.machine.specs.Calls.{RowCall, car, cdr, cons, set_left, set_right, up, down, row, Store, packet_of, reads_nil, written}
use Rattle.machine.specs.Questions.{Question, first_no, held_enough, slot_empty, held_within, pointers_within, early_row, early, ask_free, late_queued, late, questions}
use Rattle.machine.proofs.Range.{or_true, every_at, every_all}
use Rattle.machine.proofs.Ring.{waiting_appended}
use Rattle.machine.proofs.Undo.{within_is}
use Rattle.machine.proofs.Questions.{Numbered, AllYes, first_no_none, first_no_all, first_no_zero, early_numbered}
use Rattle.machine.proofs.Kept.{early_yes}
use Rattle.machine.proofs.NilReads.{late_queued_lem}
use Rattle.soundness.proofs.Views.{shown, WithinView, pointers_seen}
use Rattle.soundness.proofs.NewPacket.{HeldFor}

-- questions 6, 9 and 10 about a call with the packet p that makes the table u of t
pub record Passed (t u : List ℕ) (ps : List Packet) (p : Packet) : Type 0 where
  pub held : HeldFor t ps p
  pub most : (i : ℕ) → i < capacity u
      → word_at u i root_count + waiting_change root plus (suc i) (ps ++ (p ∷ [])) ≤ ceiling + waiting_change root minus (suc i) (ps ++ (p ∷ []))
  pub within : WithinView (capacity u) (shown u)

-- all questions of a row call, which is no read of nil
pub record RowYes (t : List ℕ) (q : Queue) (r : RowCall) : Type 0 where
  pub queues : reads_nil r ≡ false
  pub early : AllYes (early_row t r)
  pub slot : q.count < slots
  pub free : AllYes (ask_free t r)
  pub passed : Passed t (written t r) (waiting q) (packet_of t r)

late_numbered : (t : List ℕ) (q : Queue) (r : RowCall) → Numbered (late_queued t q r)
unfolding ask_free
late_numbered t q (car x) = (omega arith, (omega arith, (omega arith, (omega arith, tt))))
late_numbered t q (cdr x) = (omega arith, (omega arith, (omega arith, (omega arith, tt))))
late_numbered t q (cons x y) = (omega arith, (omega arith, (omega arith, (omega arith, (omega arith, tt)))))
late_numbered t q (set_left x y) = (omega arith, (omega arith, (omega arith, (omega arith, tt))))
late_numbered t q (set_right x y) = (omega arith, (omega arith, (omega arith, (omega arith, tt))))
late_numbered t q (up x n) = (omega arith, (omega arith, (omega arith, (omega arith, tt))))
late_numbered t q (down x n) = (omega arith, (omega arith, (omega arith, (omega arith, tt))))

yes_first : (ks ls : List Question) → AllYes (ks ++ ls) → AllYes ks
yes_first [] ls h = tt
yes_first (k ∷ ks) ls h = (h.0, yes_first ks ls h.1)

yes_second : (ks ls : List Question) → AllYes (ks ++ ls) → AllYes ls
yes_second [] ls h = h
yes_second (k ∷ ks) ls h = yes_second ks ls h.1

late_yes : (s : Store) (r : RowCall) → reads_nil r ≡ false → first_no (questions s (row r)) ≡ 0 → AllYes (late_queued s.table s.queue r)
unfolding questions late
late_yes s r n h =
    first_no_all (late_queued s.table s.queue r) (late_numbered s.table s.queue r)
    (sym (first_no_none (early s (row r)) (late s (row r)) (early_numbered s (row r)) (first_no_zero (early s (row r)) (early_yes s (row r) h))
    ∙ ap first_no (late_queued_lem s.table s.queue r n)) ∙ h)

pub held_test : (t : List ℕ) (ps : List Packet) (p : Packet) → held_enough t ps p ≡ true → HeldFor t ps p
unfolding held_enough held_at_least
held_test t ps p h i l =
    ⊎_elim (λ e. inl (eqb-true (uses p (suc i)) 0 e))
    (λ e. inr (leb-true (waiting_change root minus (suc i) ps + uses p (suc i)) (word_at t i root_count + waiting_change root plus (suc i) ps) e))
    (or_true (eqb (uses p (suc i)) 0) (held_at_least t ps i (uses p (suc i)))
    (every_at (capacity t) (λ j. eqb (uses p (suc j)) 0 || held_at_least t ps j (uses p (suc j))) h i l))

pub most_test : (t : List ℕ) (ps : List Packet) → held_within t ps ≡ true → (i : ℕ) → i < capacity t
    → word_at t i root_count + waiting_change root plus (suc i) ps ≤ ceiling + waiting_change root minus (suc i) ps
unfolding held_within held_at_most
most_test t ps h i l =
    leb-true (word_at t i root_count + waiting_change root plus (suc i) ps) (ceiling + waiting_change root minus (suc i) ps)
    (every_at (capacity t) (λ j. held_at_most t ps j ceiling) h i l)

pub most_all : (t : List ℕ) (ps : List Packet)
    → ((i : ℕ) → i < capacity t → word_at t i root_count + waiting_change root plus (suc i) ps ≤ ceiling + waiting_change root minus (suc i) ps) → held_within t ps ≡ true
unfolding held_within held_at_most
most_all t ps h = every_all (capacity t) (λ j. held_at_most t ps j ceiling) (λ i l. le-leb _ _ (h i l))

within_test : (u : List ℕ) → pointers_within u ≡ true → WithinView (capacity u) (shown u)
within_test u h i l = omega (arith, (within_is u).0 h i l, pointers_seen u i)

pub row_yes : (s : Store) (r : RowCall) → reads_nil r ≡ false → Arrays s.queue → first_no (questions s (row r)) ≡ 0 → RowYes s.table s.queue r
unfolding slot_empty early
row_yes s r n a h =
    let t = s.table in
    let q = s.queue in
    let p = packet_of t r in
    let y = late_yes s r n h in
    let slot : q.count < slots = ltb-true q.count slots y.1.0 in
    let e = yes_second (ask_free t r) _ y.1.1 in
    record {
      queues = n;
      early = (early_yes s (row r) h).1;
      slot = slot;
      free = yes_first (ask_free t r) _ y.1.1;
      passed = record {
        held = held_test t (waiting q) p y.0;
        most = rw (waiting_appended q p a slot) at (most_test (written t r) (waiting (appended q p)) e.0);
        within = within_test (written t r) e.1.0;
      };
    }
