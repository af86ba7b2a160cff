-- What the store's promises make of a line: from a clean store through one hold back to a clean store.
use mathlib.Core.Path.{◌≡◌, refl, ap, ◌∙◌}
use mathlib.Core.Logic.{inr, ⊎_elim}
use mathlib.Core.Bool.{true, false, ◌||◌}
use mathlib.Core.List.{List, []}
use Prim.Native.Nat.{ℕ, suc, ◌+◌, ◌-◌, ◌≤◌, ◌<◌, zero-le}
use native.Mathlib.Omega.{arith}
use lib.Dec.{eqb}
use lib.ListN.{length}
use borrow.Author.Tests.{le-leb, lt-ltb}
use Rattle.machine.specs.declared.Queue.{Queue}
use Rattle.machine.specs.Range.{matching, every_of}
use Rattle.machine.specs.Words.{is_nil, is_cell, is_legal}
use Rattle.machine.specs.Table.{root_count, capacity, scratch_words, word_at, in_use}
use Rattle.machine.specs.Queue.{Packet, slots, waiting}
use Rattle.machine.specs.Packets.{kind_of, root, cell, plus, minus, changes_of, changes, moved_by, uses_of, uses, waiting_change}
use Rattle.machine.specs.Counts.{held_at_least}
use Rattle.machine.specs.Calls.{row, step, down, Reply, value, store, packet_of, reads_nil, value_of}
use Rattle.machine.specs.Questions.{first_no, number_in_range, words_legal, x_is_cell, held_enough, slot_empty, early_row, early, ask_free, late_row, late, questions}
use Rattle.machine.specs.Step.{Outcome}
use Rattle.machine.specs.Audit.{Sound}
use Rattle.machine.specs.Machine.{accepted}
use Rattle.machine.specs.Promise.{Promise}
use Rattle.machine.proofs.Range.{tested, or_right, every_all, matching_other}
use Rattle.machine.proofs.Words.{index_cell}
use Rattle.machine.proofs.Questions.{AllYes, first_no_zero}
use Rattle.machine.proofs.Kept.{machine_accepted, gives_machine}
use Rattle.soundness.specs.Demand3.{Holds, holds, gains, gives, moved}
use Rattle.soundness.proofs.PacketKinds.{moves}
use Rattle.soundness.proofs.Facts.{sound_facts, free_zero}
use Rattle.soundness.proofs.NewPacket.{HeldFor}
use Rattle.soundness.proofs.CallSound.{decided}
use Rattle.soundness.proofs.RaisedCells.{question9, question10}
use Rattle.soundness.proofs.RootsAreHolds.{Agrees}
use Rattle.soundness.proofs.Theorem.{promise_agrees, exact_when_done}
use Rattle.soundness.proofs.Reliable.{step_takes, none_waits}
use Rattle.rule_lines.specs.Answers.{store_cells}
use Rattle.rule_lines.specs.Stores.{Clean, Holding}

pub nil_unheld : (i : ℕ) → matching 0 (suc i) 1 ≡ 0
nil_unheld i = matching_other 0 (suc i) 1 (λ e. omega arith)

pub nil_legal : is_legal store_cells 0 ≡ true
unfolding is_legal is_nil
nil_legal = refl

-- a clean store carries the facts of demand 3 with no hold
pub clean_agrees : {t : List ℕ} {q : Queue} {scratch : List ℕ} → Clean t q scratch → Agrees t q (λ x. holds 0 0)
clean_agrees {t} {q} c =
    let f = sound_facts t q c.whole.sound in
    record {
      whole = c.whole;
      roots = rw (none_waits q c.idle) (λ (i : ℕ) (l : i < capacity t).
          unfold waiting_change in omega (arith, free_zero t (waiting q) f i root_count l (c.free i l) (omega arith) (omega arith)));
      owed = λ i l. omega arith;
    }

module _ {w : ℕ} {t : List ℕ} {q : Queue} {scratch : List ℕ} (h : Holding w t q scratch) where
  abbrev only : ℕ → Holds
  only x = holds (matching w x 1) 0

  pub holding_agrees : Agrees t q only
  holding_agrees = record { whole = h.whole; roots = h.once; owed = λ i l. zero-le }

  -- a step takes one packet and moves no hold
  pub step_holding : {r : Reply} {t' : List ℕ} {q' : Queue} {scratch' : List ℕ} → Promise (store t q scratch) step r (store t' q' scratch')
      → Holding w t' q' scratch' × (q'.count ≡ q.count - 1)
  unfolding moved
  step_holding {r} {t'} {q'} {scratch'} p =
      let a = promise_agrees (store t q scratch) step r (store t' q' scratch') only p holding_agrees in
      let enough : scratch_words (capacity t) ≤ length scratch = rw h.size h.lent in (
        record {
          whole = a.whole;
          size = p.bounded.same_capacity ∙ h.size;
          lent = rw p.bounded.scratch_length h.lent;
          legal = h.legal;
          once = a.roots;
        },
        step_takes t q scratch h.whole.sound enough r (store t' q' scratch') p,
      )

  -- a word that is no cell needs no hold
  pub no_cell_holding : is_cell store_cells w ≡ false → Holding 0 t q scratch
  no_cell_holding e = record {
    whole = h.whole;
    size = h.size;
    lent = h.lent;
    legal = nil_legal;
    once = λ i l. omega (arith, h.once i l, nil_unheld i, unheld i l);
  }
    where
      unheld : (i : ℕ) → i < capacity t → matching w (suc i) 1 ≡ 0
      unheld i l =
          matching_other w (suc i) 1 (λ d. no_clash (rw (d, index_cell store_cells i (rw h.size at l)) at e))
        where
          no_clash : true ≡ false → ⊥
          no_clash z = let y : ◌≡◌ {A = ℕ} 0 1 = cc in omega arith

  -- a cell's hold is given up: no question says "no"
  module _ (is : is_cell store_cells w ≡ true) (idle : q.count ≡ 0) where
    abbrev p : Packet
    p = packet_of t (down w 1)

    abbrev ps : List Packet
    ps = waiting q

    sound : Sound t q
    sound = h.whole.sound

    named : (i : ℕ) → uses p (suc i) ≡ matching w (suc i) 1
    unfolding packet_of uses uses_of kind_of
    named i = refl

    held : HeldFor t ps p
    held i l = inr (omega (arith, h.once i l, named i))

    six : held_enough t ps p ≡ true
    unfolding held_enough held_at_least
    six = every_all (capacity t) (λ i. eqb (uses p (suc i)) 0 || held_at_least t ps i (uses p (suc i)))
        (λ i l. or_right (eqb (uses p (suc i)) 0)
        (le-leb (waiting_change root minus (suc i) ps + uses p (suc i)) (word_at t i root_count + waiting_change root plus (suc i) ps) (omega (arith, h.once i l, named i))))

    early_yes : AllYes (early_row t (down w 1))
    unfolding early_row number_in_range words_legal every_of x_is_cell
    early_yes = rw h.size (refl, (rw h.legal refl, (is, tt)))

    free_yes : AllYes (ask_free t (down w 1))
    unfolding ask_free
    free_yes = tt

    -- nothing rises
    rises : (i : ℕ) → (moves root plus p (suc i) ≡ 0) × (moves cell plus p (suc i) ≡ 0)
    unfolding packet_of changes changes_of moved_by kind_of
    rises i = (refl, refl)

    slot : q.count < slots
    slot = omega arith

    asked : first_no (questions (store t q []) (row (down w 1))) ≡ 0
    unfolding questions early early_row late late_row reads_nil ask_free slot_empty
    asked =
        let nine = (question9 t q sound (down w 1) early_yes held free_yes h.whole.arrays slot).1 (λ i l z. absurd (omega (arith, (rises i).0))) in
        let ten = (question10 t q sound (down w 1) early_yes held free_yes).1 (λ i l z. absurd (omega (arith, (rises i).1))) in
        let e = early_yes in
        first_no_zero (questions (store t q []) (row (down w 1)))
        (sound.shape, (e.0, (e.1.0, (e.1.1.0, (six, (lt-ltb q.count slots slot, (nine, (ten, tt))))))))

    pub down_holding : {r : Reply} {t' : List ℕ} {q' : Queue} → Promise (store t q []) (row (down w 1)) r (store t' q' []) → Holding 0 t' q' scratch
    unfolding moved gains gives accepted reads_nil value_of
    down_holding {r} {t'} {q'} d =
        let g = gives_machine (store t q []) (row (down w 1)) r (store t' q' []) (d.exact (decided (store t q []) (row (down w 1)) sound)) in
        let e : r ≡ value 0 = g.0 ∙ ap (λ (o : Outcome). o.reply) (machine_accepted (store t q []) (row (down w 1)) asked) in
        let a = promise_agrees (store t q []) (row (down w 1)) (value 0) (store t' q' []) only (rw e at d) holding_agrees in
        record {
          whole = a.whole;
          size = d.bounded.same_capacity ∙ h.size;
          lent = h.lent;
          legal = nil_legal;
          once = λ i l. omega (arith, a.roots i l, nil_unheld i);
        }

-- with nothing held and nothing waiting no cell is in use
pub done_clean : {t : List ℕ} {q : Queue} {scratch : List ℕ} → Holding 0 t q scratch → q.count ≡ 0 → Clean t q scratch
done_clean {t} {q} h z = record {
  whole = h.whole;
  size = h.size;
  lent = h.lent;
  idle = z;
  free = λ i l. ⊎_elim (λ e. absurd (none i l e)) (λ e. e) (tested (in_use t i));
}
  where
    none : (i : ℕ) → i < capacity t → in_use t i ≡ true → ⊥
    none i l e =
        let k = (exact_when_done t q (only h) (holding_agrees h) (none_waits q z) i l).0 e in
        omega (arith, k.1, nil_unheld k.0)
