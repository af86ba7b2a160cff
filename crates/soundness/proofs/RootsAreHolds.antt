-- Root counts with their waiting changes stay the holds: each row call tells what its packet lists, and a cons its new cell's 1.
use mathlib.Core.Path.{◌≡◌, ◌∙◌}
use mathlib.Core.Logic.{⊎_elim}
use mathlib.Core.Bool.{true, false}
use mathlib.Core.List.{List, ◌∷◌}
use Prim.Native.Nat.{ℕ, suc, pred, ◌+◌, ◌≤◌, ◌<◌}
use native.Mathlib.Omega.{arith}
use borrow.Author.Tests.{leb-true}
use Rattle.notation.specs.Parse.{parse, meaning}
use Rattle.machine.specs.declared.Queue.{Queue}
use Rattle.machine.specs.Range.{matching}
use Rattle.machine.specs.Table.{left, right, root_count, capacity, word_at}
use Rattle.machine.specs.Queue.{Packet, empty_queue, appended, taken, waiting}
use Rattle.machine.specs.Packets.{kind_of, root, plus, minus, changes_of, changes, moved_by, uses_of, uses, waiting_change}
use Rattle.machine.specs.Calls.{fresh, read, RowCall, car, cdr, cons, set_left, set_right, up, down, row, Store, packet_of, reads_nil, written, value_of, fresh_table}
use Rattle.machine.specs.Step.{named, apply_packet}
use Rattle.machine.specs.Questions.{first_no, ask_free, questions}
use Rattle.machine.specs.Texts.{build_by}
use Rattle.machine.specs.Machine.{consed, accepted}
use Rattle.machine.proofs.Table.{word_other}
use Rattle.machine.proofs.Ring.{arrays_appended, arrays_taken, waiting_appended}
use Rattle.machine.proofs.Range.{matching_other}
use Rattle.machine.proofs.Names.{named_capacity, named_root}
use Rattle.machine.proofs.RootsByCell.{Counted, sound_counted}
use Rattle.machine.proofs.NilReads.{nil_cases, word_read_lem}
use Rattle.machine.proofs.Replay.{replays_uses}
use Rattle.soundness.specs.Demand3.{Holds, holds, gains, gives, NoneOwed, RootsAreHolds}
use Rattle.soundness.specs.Whole.{Whole}
use Rattle.machine.proofs.Lists.{waiting_snoc}
use Rattle.soundness.proofs.PacketKinds.{moves, waiting_cons}
use Rattle.soundness.proofs.Facts.{Facts, slots_of, sound_facts}
use Rattle.soundness.proofs.ZeroSlots.{waiting_empty}
use Rattle.soundness.proofs.FreshSound.{fresh_roots}
use Rattle.soundness.proofs.HeldCounts.{replayed_sum}
use Rattle.soundness.proofs.RowQuestions.{RowYes, row_yes}
use Rattle.soundness.proofs.RowWrites.{cons_root, row_wrote}
use Rattle.soundness.proofs.RowSound.{row_sound}
use Rattle.soundness.proofs.OldestPacket.{applied_root}
use Rattle.soundness.proofs.NameCounts.{packet_capacity, packet_word, packet_facts, packet_counted}
use Rattle.soundness.proofs.FreedCells.{swept_capacity, swept_root}
use Rattle.soundness.proofs.StepSound.{step_table, waiting_rest, step_sound}
use Rattle.soundness.proofs.CallSound.{fresh_yes, fresh_whole, text_built}

-- a call gives up no more holds than question 6 asks for
gives_uses : (t : List ℕ) (r : RowCall) (x : ℕ) → gives r x ≤ uses (packet_of t r) x
unfolding gives packet_of uses uses_of kind_of
gives_uses t (car y) x = omega arith
gives_uses t (cdr y) x = omega arith
gives_uses t (cons y z) x = omega arith
gives_uses t (set_left y z) x = omega arith
gives_uses t (set_right y z) x = omega arith
gives_uses t (up y n) x = omega arith
gives_uses t (down y n) x = omega arith

-- root count, packet and history of one call
row_moves : (t : List ℕ) (q : Queue) (f : Facts t (waiting q)) (r : RowCall) → RowYes t q r → (i : ℕ) → i < capacity t
    → word_at (written t r) i root_count + moves root plus (packet_of t r) (suc i) + gives r (suc i)
    ≡ word_at t i root_count + gains r (value_of t r) (suc i) + moves root minus (packet_of t r) (suc i)
unfolding gains gives packet_of reads_nil value_of changes changes_of moved_by kind_of ask_free
row_moves t q f (car x) y i l = unfold written in rw (word_read_lem t x y.queues left) (omega arith)
row_moves t q f (cdr x) y i l = unfold written in rw (word_read_lem t x y.queues right) (omega arith)
row_moves t q f (cons x z) y i l = omega (arith, cons_root t (waiting q) f x z i y.free.0 l)
row_moves t q f (set_left x z) y i l = unfold written in omega (arith, word_other t (pred x) left z i root_count (omega arith) (omega arith) (λ _ e. omega arith))
row_moves t q f (set_right x z) y i l = unfold written in omega (arith, word_other t (pred x) right z i root_count (omega arith) (omega arith) (λ _ e. omega arith))
row_moves t q f (up x n) y i l = unfold written in omega arith
row_moves t q f (down x n) y i l = unfold written in omega arith

-- what is carried from call to call
pub record Agrees (t : List ℕ) (q : Queue) (h : ℕ → Holds) : Type 0 where
  pub whole : Whole t q
  pub roots : RootsAreHolds t q h
  pub owed : NoneOwed t q h

pub fresh_agrees : (s : Store) (c : ℕ) → first_no (questions s (fresh c)) ≡ 0 → Agrees (fresh_table c s.table) empty_queue (λ x. holds 0 0)
fresh_agrees s c e = record {
  whole = fresh_whole s c e;
  roots = rw waiting_empty (λ (i : ℕ) (l : i < capacity (fresh_table c s.table)).
      unfold waiting_change in omega (arith, fresh_roots c s.table (fresh_yes s c e).room i l));
  owed = λ i l. omega arith;
}

-- a read of nil moves no hold
pub nil_moves : (r : RowCall) → reads_nil r ≡ true → (i : ℕ) → (gains r 0 (suc i) ≡ 0) × (gives r (suc i) ≡ 0)
unfolding gains gives
nil_moves r e i = nil_cases r e (λ k. (gains k 0 (suc i) ≡ 0) × (gives k (suc i) ≡ 0)) (none, none) (none, none)
  where
    none : matching 0 (suc i) 1 ≡ 0
    none = matching_other 0 (suc i) 1 (λ d. omega arith)

pub nil_agrees : (t : List ℕ) (q : Queue) (r : RowCall) (h : ℕ → Holds) → reads_nil r ≡ true → Agrees t q h
    → Agrees t q (λ x. holds ((h x).gained + gains r 0 x) ((h x).given + gives r x))
nil_agrees t q r h e a = record {
  whole = a.whole;
  roots = λ i l. omega (arith, a.roots i l, (nil_moves r e i).0, (nil_moves r e i).1);
  owed = λ i l. omega (arith, a.owed i l, (nil_moves r e i).0, (nil_moves r e i).1);
}

pub row_agrees : (s : Store) (r : RowCall) (h : ℕ → Holds) → reads_nil r ≡ false → Agrees s.table s.queue h → first_no (questions s (row r)) ≡ 0
    → Agrees (named plus (written s.table r) (packet_of s.table r)) (appended s.queue (packet_of s.table r))
    (λ x. holds ((h x).gained + gains r (value_of s.table r) x) ((h x).given + gives r x))
unfolding accepted
row_agrees s r h n a e = record {
  whole = record { sound = row_sound s r n w.sound w.arrays e; arrays = arrays_appended q p w.arrays };
  roots = rw (waiting_appended q p w.arrays y.slot, same) (λ (i : ℕ) (l : i < capacity t).
      omega (arith, a.roots i l, named_root plus (written t r) p i, row_moves t q f r y i l, waiting_snoc root plus (suc i) (waiting q) p, waiting_snoc root minus (suc i) (waiting q) p));
  owed = rw same (λ (i : ℕ) (l : i < capacity t).
      ⊎_elim (λ z. omega (arith, a.owed i l, gives_uses t r (suc i))) (λ z. omega (arith, a.owed i l, a.roots i l, gives_uses t r (suc i)))
      (y.passed.held i l));
}
  where
    t : List ℕ
    t = s.table

    q : Queue
    q = s.queue

    p : Packet
    p = packet_of t r

    w : Whole t q
    w = a.whole

    y : RowYes t q r
    y = row_yes s r n w.arrays e

    f : Facts t (waiting q)
    f = sound_facts t q w.sound

    same : capacity (named plus (written t r) p) ≡ capacity t
    same = named_capacity plus (written t r) p ∙ (row_wrote t (waiting q) f r y.early y.passed.held y.free).same_capacity

pub step_agrees : (t : List ℕ) (q : Queue) (p : Packet) (ps : List Packet) (h : ℕ → Holds) → Agrees t q h → waiting q ≡ p ∷ ps
    → Agrees (step_table t p) (taken q) h
step_agrees t q p ps h a e = record {
  whole = record { sound = step_sound t q p ps w.sound w.arrays e; arrays = arrays_taken q w.arrays };
  roots = rw (waiting_rest q p ps (slots_of t q w.sound) e, same) (λ (i : ℕ) (l : i < capacity t).
      omega (
        arith,
        rw e at (a.roots i l),
        waiting_cons root plus (suc i) p ps,
        waiting_cons root minus (suc i) p ps,
        swept_root u ps g d i (rw (packet_capacity t p ps f) l),
        packet_word t p ps f i root_count (omega arith) (omega arith),
        applied_root t p ps f i l,
        replayed_sum (suc i) (word_at t i root_count) p (leb-true (uses p (suc i)) (word_at t i root_count)
            (replays_uses (suc i) (word_at t i root_count) p ps (f.replay i l))),
      ));
  owed = rw same a.owed;
}
  where
    w : Whole t q
    w = a.whole

    f : Facts t (p ∷ ps)
    f = rw e at (sound_facts t q w.sound)

    u : List ℕ
    u = apply_packet t p

    g : Facts u ps
    g = packet_facts t p ps f

    d : Counted u ps
    d = packet_counted t p ps f (rw e at (sound_counted t q w.sound))

    same : capacity (step_table t p) ≡ capacity t
    same = swept_capacity u ps g d ∙ packet_capacity t p ps f

-- a text read gains one hold of its word
pub read_agrees : (s : Store) (text : List ℕ) (h : ℕ → Holds) → Agrees s.table s.queue h → first_no (questions s (read text)) ≡ 0
    → Agrees (build_by consed s (meaning (parse text))).after.table (build_by consed s (meaning (parse text))).after.queue
    (λ x. holds ((h x).gained + matching (build_by consed s (meaning (parse text))).word x 1) (h x).given)
read_agrees s text h a e =
    let b = (text_built s text a.whole e).1 in
    record {
      whole = b.ready.whole;
      roots = rw b.stands.same_capacity (λ (i : ℕ) (l : i < capacity s.table). omega (arith, a.roots i l, b.gains i l));
      owed = rw b.stands.same_capacity (λ (i : ℕ) (l : i < capacity s.table). omega (arith, a.owed i l));
    }
