-- What a row programmer can rely on follows from the facts that demand 3 carries, and from the fields.
use mathlib.Core.Path.{◌≡◌, refl, sym, ap, ap₂, subst, ◌∙◌}
use mathlib.Core.Logic.{◌↔◌, inl, ⊎_elim}
use mathlib.Core.Bool.{true}
use mathlib.Core.List.{List, [], ◌∷◌}
use Prim.Native.Nat.{ℕ, suc, pred, ◌+◌, ◌-◌, ◌≤◌, ◌<◌}
use native.Mathlib.Omega.{arith}
use lib.ListN.{length}
use borrow.Author.Tests.{le-leb, leb-true}
use Rattle.machine.specs.declared.Queue.{Queue}
use Rattle.machine.specs.Table.{left, right, root_count, capacity, first_free, scratch_words, word_at, in_use, is_free}
use Rattle.machine.specs.Queue.{Packet, put_slot, taken, packets_from, waiting}
use Rattle.machine.specs.Packets.{root, plus, minus, waiting_change}
use Rattle.machine.specs.Counts.{held_at_least}
use Rattle.machine.specs.Reached.{points_to, begun, onward, ReachedFrom}
use Rattle.machine.specs.Calls.{row, step, read, cons, Reply, value, refused, Store, store, packet_of, reads_nil, value_of}
use Rattle.machine.specs.Step.{step_with, step_from, stepped}
use Rattle.machine.specs.Questions.{first_no, scratch_enough, cell_free, early_row, early, ask_free, late_row, late, questions}
use Rattle.machine.specs.Audit.{Sound}
use Rattle.machine.specs.Machine.{text_read, accepted, machine}
use Rattle.machine.specs.Promise.{Promise}
use Rattle.machine.proofs.Range.{tested, exists_some}
use Rattle.machine.proofs.Table.{not_in_use_free}
use Rattle.machine.proofs.Ring.{length_waiting}
use Rattle.machine.proofs.Questions.{first_no_zero, first_no_other}
use Rattle.machine.proofs.Kept.{machine_accepted, machine_cases, gives_machine}
use Rattle.machine.proofs.NilReads.{only_nil, row_cases}
use Rattle.machine.proofs.RootsByCell.{sound_counted, roots_by_cell}
use Rattle.soundness.specs.Demand3.{Link, Joined, table_after, queue_after, Holds, holds, moved, holds_after, Held}
use Rattle.soundness.specs.Reliable.{Fields, fields, put, fields_after, FieldsStand, RepliesField, Steps, ReadsBack, Told, EndsInNil, NewIsFree, HeldByHolds, Drains, FullOfHeld, ReadsText, NoneClipped, Relied, Reliable}
use Rattle.soundness.proofs.Facts.{sound_facts}
use Rattle.soundness.proofs.FreeChain.{chain_some}
use Rattle.soundness.proofs.RowQuestions.{row_yes}
use Rattle.soundness.proofs.Cons.{was_free}
use Rattle.soundness.proofs.RowWrites.{cons_case}
use Rattle.soundness.proofs.CallSound.{decided, value_accepted, text_built}
use Rattle.soundness.proofs.RootsAreHolds.{Agrees, nil_moves}
use Rattle.soundness.proofs.Theorem.{promise_agrees, from_held, exact_when_done, covered}
use Rattle.soundness.proofs.FieldsStand.{row_replies, nil_replies, promise_put, fields_stand}
use Rattle.soundness.proofs.Unclipped.{none_clipped}

same_value : (m n : ℕ) → value m ≡ value n → m ≡ n
same_value m n e = cc

same_holds : (h : Holds) → holds (h.gained + 0) (h.given + 0) ≡ h
same_holds h = ap₂ holds (omega arith) (omega arith)

-- one step with enough scratch takes one packet, if any waits
module _ (t : List ℕ) (q : Queue) (s : List ℕ) (h : Sound t q) (enough : scratch_words (capacity t) ≤ length s) where
  asked : first_no (questions (store t q s) step) ≡ 0
  unfolding questions early late scratch_enough
  asked = first_no_zero (questions (store t q s) step) (h.shape, (le-leb (scratch_words (capacity t)) (length s) enough, tt))

  one_less : (ps : List Packet) → waiting q ≡ ps → (step_from (store t q s) ps).after.queue.count ≡ q.count - 1
  unfolding step_from step_with taken put_slot
  one_less [] e = omega (arith, length_waiting q, ap length e)
  one_less (p ∷ ps) e = refl

  pub step_takes : (r : Reply) (after : Store) → Promise (store t q s) step r after → after.queue.count ≡ q.count - 1
  unfolding accepted stepped
  step_takes r after p =
      rw ((gives_machine (store t q s) step r after (p.exact (decided (store t q s) step h))).1, machine_accepted (store t q s) step asked)
      (one_less (waiting q) refl)

-- what steps alone leave of a table t and a queue q: holds and fields as they are told, and fewer packets
record Stepped (t : List ℕ) (q : Queue) (h : ℕ → Holds) (g : ℕ → Fields) (ls : List Link) : Type 0 where
  agrees : Agrees (table_after t ls) (queue_after q ls) h
  stand : FieldsStand (table_after t ls) g
  same : capacity (table_after t ls) ≡ capacity t
  count : (queue_after q ls).count ≡ q.count - length ls

no_text : (bytes : List ℕ) → step ≡ read bytes → ⊥
no_text bytes e = let z : ◌≡◌ {A = ℕ} 0 1 = cc in omega arith

steps_leave : (t : List ℕ) (q : Queue) (h : ℕ → Holds) (g : ℕ → Fields) (ls : List Link) → Agrees t q h → FieldsStand t g → Joined t q ls
    → Steps (scratch_words (capacity t)) ls → Stepped t q h g ls
unfolding moved put
steps_leave t q h g [] a f j n = record { agrees = a; stand = f; same = refl; count = omega arith }
steps_leave t q h g (l ∷ ls) a f j n =
    let s = store t q l.scratch in
    let p = rw n.0 at j.0 in
    let c = p.bounded.same_capacity in
    let rest = steps_leave l.after.table l.after.queue h g ls (promise_agrees s step l.reply l.after h p a)
    (promise_put s step l.reply l.after g p a.whole f no_text) j.1 (rw c n.2) in
    record {
      agrees = rest.agrees;
      stand = rest.stand;
      same = rest.same ∙ c;
      count = omega (arith, rest.count, step_takes t q l.scratch a.whole.sound n.1 l.reply l.after p);
    }

pub none_waits : (q : Queue) → q.count ≡ 0 → waiting q ≡ []
unfolding waiting packets_from
none_waits q e = rw e

same_points : (t u : List ℕ) (n i : ℕ) → word_at u n left ≡ word_at t n left → word_at u n right ≡ word_at t n right → points_to t n i ≡ true
    → points_to u n i ≡ true
unfolding points_to
same_points t u n i l r e = rw (l, r) e

-- where the same cells are held and the same fields told, the same cells are reached from held ones
held_reach : (t : List ℕ) (q : Queue) (u : List ℕ) (v : Queue) (h : ℕ → Holds) (g : ℕ → Fields) → Agrees t q h → Agrees u v h → FieldsStand t g
    → FieldsStand u g → capacity u ≡ capacity t → (j : ℕ) → Held t q h j → {i : ℕ} → ReachedFrom t j i → ReachedFrom u j i
held_reach t q u v h g a b f d c j k (begun {i = i} l e) = let m : i < capacity u = rw c l in begun m e
held_reach t q u v h g a b f d c j k (onward {j = n} {i = i} r l e) =
    let x = held_reach t q u v h g a b f d c j k r in
    let o = from_held t q h a j k r in
    let w = from_held u v h b j k x in
    let m : i < capacity u = rw c l in
    let old = f n o.0 o.1 in
    let new = d n w.0 w.1 in
    onward x m (same_points t u n i (new.0 ∙ sym old.0) (new.1 ∙ sym old.1) e)

module _ (t : List ℕ) (q : Queue) (h : ℕ → Holds) (g : ℕ → Fields) (a : Agrees t q h) (f : FieldsStand t g) where
  reads_back : ReadsBack t q g
  reads_back s r w after p =
      let y = value_accepted (store t q s) (row r) w after (inl a.whole.sound) p in
      row_cases (store t q s) r (λ o. o.reply ≡ value w → RepliesField g r w) (λ n e. subst (RepliesField g r) (same_value 0 w e) (nil_replies r n g))
      (λ n e. subst (RepliesField g r) (same_value (value_of t r) w e)
      (row_replies t q (sound_facts t q a.whole.sound) g f r (row_yes (store t q s) r n a.whole.arrays y.asked))) y.reply

  told : Told t q g
  told = record { fields_stand = f; reads_back = reads_back }

-- the fields that a table has
abbrev own : List ℕ → ℕ → Fields
own t c = fields (word_at t (pred c) left) (word_at t (pred c) right)

own_stand : (t : List ℕ) → FieldsStand t (own t)
own_stand t i l u = let e : i ≡ pred (suc i) = omega arith in (ap (λ (j : ℕ). word_at t j left) e, ap (λ (j : ℕ). word_at t j right) e)

module _ (t : List ℕ) (q : Queue) (h : ℕ → Holds) (a : Agrees t q h) where
  abbrev g : ℕ → Fields
  g = own t

  f : FieldsStand t g
  f = own_stand t

  ends_in_nil : EndsInNil t q h
  unfolding moved
  ends_in_nil s r reply after n p =
      let o = only_nil r n (store t q s) a.whole.sound.shape reply after p in
      (o.0, o.1, λ i. rw (o.0, (nil_moves r n i).0, (nil_moves r n i).1) (same_holds (h (suc i))))

  new_is_free : NewIsFree t q h
  unfolding accepted reads_nil value_of packet_of ask_free
  new_is_free s x y w after p =
      let k = value_accepted (store t q s) (row (cons x y)) w after (inl a.whole.sound) p in
      let e : first_free t ≡ w = same_value (first_free t) w k.reply in
      let c = sound_facts t q a.whole.sound in
      let z = (row_yes (store t q s) (cons x y) refl a.whole.arrays k.asked).free.0 in
      rw e at (cons_case t c.free c.chain (chain_some t c.free c.chain z) x y
      (λ u m. (i : ℕ) × (m.c ≡ suc i) × (i < capacity t) × (is_free t i ≡ true))
      (λ new rest d. (new, refl, d.linked.1, not_in_use_free t new (was_free t (waiting q) c new rest d x y))))

  held_by_holds : HeldByHolds t q h
  unfolding held_at_least
  held_by_holds i n l =
      let low = waiting_change root minus (suc i) (waiting q) + n in
      let high = word_at t i root_count + waiting_change root plus (suc i) (waiting q) in
      (λ e. omega (arith, a.roots i l, leb-true low high e), λ e. le-leb low high (omega (arith, a.roots i l)))

  drains : Drains t q h
  drains ls j n e = (none, λ i l. (there i l, back i l))
    where
      k : Stepped t q h g ls
      k = steps_leave t q h g ls a f j n

      none : waiting (queue_after q ls) ≡ []
      none = none_waits (queue_after q ls) (omega (arith, k.count))

      exact : (i : ℕ) → i < capacity t → (in_use (table_after t ls) i ≡ true) ↔ ((j : ℕ) × Held t q h j × ReachedFrom (table_after t ls) j i)
      exact i l = exact_when_done (table_after t ls) (queue_after q ls) h k.agrees none i (rw k.same l)

      there : (i : ℕ) → i < capacity t → in_use (table_after t ls) i ≡ true → (j : ℕ) × Held t q h j × ReachedFrom t j i
      there i l u =
          let w = (exact i l).0 u in
          (w.0, w.1, held_reach (table_after t ls) (queue_after q ls) t q h g k.agrees a k.stand f (sym k.same) w.0 w.1 w.2)

      back : (i : ℕ) → i < capacity t → ((j : ℕ) × Held t q h j × ReachedFrom t j i) → in_use (table_after t ls) i ≡ true
      back i l w =
          (exact i l).1 (w.0, w.1, held_reach t q (table_after t ls) (queue_after q ls) h g a k.agrees f k.stand k.same w.0 w.1 w.2)

  -- only question 8 has the number 8
  cells_used : (s : List ℕ) (x y : ℕ) → (machine (store t q s) (row (cons x y))).reply ≡ refused 8 → cell_free t ≡ true → ⊥
  unfolding accepted questions early early_row late late_row reads_nil ask_free
  cells_used s x y r free = machine_cases (store t q s) (row (cons x y)) (λ o. o.reply ≡ refused 8 → ⊥) (λ _. no_value)
      (λ n e d. first_no_other 7 (questions (store t q s) (row (cons x y))) (
        (λ e. absurd (omega arith)),
        (
          (λ e. absurd (omega arith)),
          (
            (λ e. absurd (omega arith)),
            (
              (λ e. absurd (omega arith)),
              ((λ e. absurd (omega arith)), ((λ e. free), ((λ e. absurd (omega arith)), ((λ e. absurd (omega arith)), tt)))),
            ),
          ),
        ),
      ) (e ∙ same_number (suc n) 8 d)) r
    where
      no_value : {w n : ℕ} → value w ≡ refused n → ⊥
      no_value e = let z : ◌≡◌ {A = ℕ} 0 1 = cc in omega arith

      same_number : (m n : ℕ) → refused m ≡ refused n → m ≡ n
      same_number m n e = cc

  full_of_held : FullOfHeld t q h
  unfolding cell_free
  full_of_held z s x y after p i l =
      (exact_when_done t q h a z i l).0
      (⊎_elim (λ u. u) (λ u. absurd (cells_used s x y (sym (gives_machine (store t q s) (row (cons x y)) (refused 8) after (p.exact (inl a.whole.sound))).0)
      (exists_some (capacity t) (is_free t) i l (not_in_use_free t i u)))) (tested (in_use t i)))

  reads_text : ReadsText t q h
  unfolding accepted text_read
  reads_text s bytes w after p =
      let k = value_accepted (store t q s) (read bytes) w after (inl a.whole.sound) p in
      let b = (text_built (store t q s) bytes a.whole k.asked).1 in
      rw k.after (rw (same_value _ w k.reply) at b.opens, b.stands)

  relied : NoneClipped t → Relied t q h
  relied unclipped = record {
    ends_in_nil = ends_in_nil;
    new_is_free = new_is_free;
    held_by_holds = held_by_holds;
    drains = drains;
    full_of_held = full_of_held;
    reads_text = reads_text;
    none_clipped = unclipped;
    names_told = (sound_counted t q a.whole.sound, roots_by_cell t q a.whole.sound);
  }

pub reliable : Reliable
reliable t q ls b j =
    let a = covered t q ls b j in (
      relied (table_after t ls) (queue_after q ls) (holds_after ls) a (none_clipped t q ls b j),
      λ n. told (table_after t ls) (queue_after q ls) (holds_after ls) (fields_after ls) a (fields_stand t q ls b j n),
    )
