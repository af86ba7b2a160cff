-- A row call whose operands are held is accepted on a store at rest, and the step after it leaves the store at rest.
use mathlib.Core.Path.{◌≡◌, refl, sym, ap, ◌∙◌}
use mathlib.Core.Logic.{inr}
use mathlib.Core.Bool.{Bool, true, false, cond, ◌||◌}
use mathlib.Core.List.{List, [], ◌∷◌, ◌++◌}
use Prim.Native.Nat.{ℕ, zero, suc, ◌+◌, ◌≤◌, ◌<◌, zero-le}
use native.Mathlib.Omega.{arith}
use lib.Dec.{eqb}
use lib.ListN.{length, replicate}
use borrow.Author.Tests.{le-leb, lt-ltb}
use Rattle.machine.specs.declared.Queue.{Queue}
use Rattle.machine.specs.Range.{matching, occurrences}
use Rattle.machine.specs.Table.{left, right, root_count, capacity, scratch_words, word_at, in_use}
use Rattle.machine.specs.Queue.{Packet, slots, put_slot, empty_queue, appended, waiting}
use Rattle.machine.specs.Packets.{kind_of, Counter, root, cell, Direction, plus, minus, changes_of, changes, moved_by, uses_of, uses, waiting_change}
use Rattle.machine.specs.Counts.{held_at_least}
use Rattle.machine.specs.Calls.{row, step, audit, read, RowCall, car, cdr, cons, set_left, set_right, up, down, Reply, value, refused, Store, store, packet_of, reads_nil, written, value_of}
use Rattle.machine.specs.Questions.{Question, ask, first_no, in_range, scratch_enough, held_enough, slot_empty, cell_free, held_within, pointers_within, early_row, early, ask_free, late_queued, late_row, late, questions}
use Rattle.machine.specs.Step.{cleared, Outcome, step_with, step_from, stepped}
use Rattle.machine.specs.Audit.{Sound, audited}
use Rattle.machine.specs.Machine.{accepted, machine}
use Rattle.machine.specs.Promise.{Promise}
use Rattle.machine.proofs.Range.{or_right, every_all, occurrences_append}
use Rattle.machine.proofs.Ring.{length_waiting}
use Rattle.machine.proofs.Lists.{at_most_one}
use Rattle.machine.proofs.Questions.{Numbered, AllYes, first_no_yes, first_no_no, first_no_none, first_no_all, first_no_zero, early_numbered}
use Rattle.machine.proofs.Kept.{machine_accepted, machine_refused, machine_cases, gives_machine}
use Rattle.machine.proofs.NilReads.{late_queued_lem, queued_outcome, queued_accepted, word_read_lem}
use Rattle.soundness.specs.Demand3.{Holds, holds, gains, gives, moved}
use Rattle.soundness.specs.Reliable.{Fields, puts, put, FieldsStand, RepliesField}
use Rattle.soundness.proofs.PacketKinds.{moves}
use Rattle.soundness.proofs.Facts.{sound_facts}
use Rattle.soundness.proofs.FreeChain.{chain_some}
use Rattle.soundness.proofs.NewPacket.{HeldFor}
use Rattle.soundness.proofs.RowQuestions.{row_yes}
use Rattle.soundness.proofs.Cons.{was_free}
use Rattle.soundness.proofs.RowWrites.{cons_case}
use Rattle.soundness.proofs.NameCounts.{packet_capacity}
use Rattle.soundness.proofs.CallSound.{decided}
use Rattle.soundness.proofs.CodeTests.{pointers_counted}
use Rattle.soundness.proofs.RaisedCells.{question9, question10}
use Rattle.soundness.proofs.RootsAreHolds.{Agrees}
use Rattle.soundness.proofs.Theorem.{promise_agrees}
use Rattle.soundness.proofs.FieldsStand.{row_replies, promise_put}
use Rattle.soundness.proofs.Reliable.{step_takes, none_waits}
use Rattle.resting.proofs.CellsInUse.{none_free}
use Rattle.resting.specs.Rests.{needs, leaves, stored, New, Rests, cells_in_use, Allowed}
use Rattle.resting.specs.Settling.{word_of, Settled, Settles, Fills}

-- x n times
occurrences_replicate : (n x c : ℕ) → occurrences c (replicate n x) ≡ matching x c n
unfolding occurrences matching
occurrences_replicate zero x c = go (eqb x c)
  where
    go : (b : Bool) → ◌≡◌ {A = ℕ} 0 (cond b 0 0)
    go true = refl
    go false = refl
occurrences_replicate (suc n) x c = ap (λ (m : ℕ). matching x c 1 + m) (occurrences_replicate n x c) ∙ go (eqb x c)
  where
    go : (b : Bool) → ◌≡◌ {A = ℕ} (cond b 1 0 + cond b n 0) (cond b (suc n) 0)
    go true = omega arith
    go false = refl

-- no word stands more often in a list than the list is long
pub occurrences_most : (x : ℕ) (xs : List ℕ) → occurrences x xs ≤ length xs
unfolding occurrences matching
occurrences_most x [] = omega arith
occurrences_most x (w ∷ xs) = omega (arith, at_most_one (eqb w x), occurrences_most x xs)

-- what a call names, lowers and raises, by the words that it needs, leaves and stores
needs_uses : (t : List ℕ) (r : RowCall) (x : ℕ) → uses (packet_of t r) x ≡ occurrences x (needs r)
unfolding packet_of uses uses_of kind_of occurrences
needs_uses t (car y) x = omega arith
needs_uses t (cdr y) x = omega arith
needs_uses t (cons y z) x = omega arith
needs_uses t (set_left y z) x = omega arith
needs_uses t (set_right y z) x = omega arith
needs_uses t (up y n) x = omega arith
needs_uses t (down y n) x = sym (occurrences_replicate n y x)

stored_raises : (t : List ℕ) (r : RowCall) (x : ℕ) → moves cell plus (packet_of t r) x ≡ occurrences x (stored r)
unfolding packet_of changes changes_of moved_by kind_of occurrences
stored_raises t (car y) x = omega arith
stored_raises t (cdr y) x = omega arith
stored_raises t (cons y z) x = omega arith
stored_raises t (set_left y z) x = omega arith
stored_raises t (set_right y z) x = omega arith
stored_raises t (up y n) x = omega arith
stored_raises t (down y n) x = omega arith

-- the books of one call balance
balance : (r : RowCall) (w x : ℕ) → occurrences x (needs r) + gains r w x ≡ occurrences x (leaves r w) + gives r x
unfolding gains gives occurrences
balance (car y) w x = omega arith
balance (cdr y) w x = omega arith
balance (cons y z) w x = omega arith
balance (set_left y z) w x = omega arith
balance (set_right y z) w x = omega arith
balance (up y n) w x = omega (arith, occurrences_replicate n y x)
balance (down y n) w x = omega (arith, occurrences_replicate n y x)

rises : (t : List ℕ) (r : RowCall) → reads_nil r ≡ false → (x : ℕ)
    → moves root plus (packet_of t r) x + occurrences x (needs r) ≤ occurrences x (leaves r (value_of t r)) + moves root minus (packet_of t r) x
unfolding packet_of changes changes_of moved_by kind_of occurrences reads_nil value_of
rises t (car y) n x = rw (word_read_lem t y n left) (omega arith)
rises t (cdr y) n x = rw (word_read_lem t y n right) (omega arith)
rises t (cons y z) n x = omega arith
rises t (set_left y z) n x = omega arith
rises t (set_right y z) n x = omega arith
rises t (up y m) n x = omega (arith, occurrences_replicate m y x)
rises t (down y m) n x = omega (arith, occurrences_replicate m y x)

yes_both : (ks ls : List Question) → AllYes ks → AllYes ls → AllYes (ks ++ ls)
yes_both [] ls a b = b
yes_both (k ∷ ks) ls a b = (a.0, yes_both ks ls a.1 b)

early_row_numbered : (t : List ℕ) (r : RowCall) → Numbered (early_row t r)
unfolding early
early_row_numbered t r = (early_numbered (store t empty_queue []) (row r)).1

free_numbered : (t : List ℕ) (r : RowCall) → Numbered (ask_free t r)
unfolding ask_free
free_numbered t (car x) = tt
free_numbered t (cdr x) = tt
free_numbered t (cons x y) = (omega arith, tt)
free_numbered t (set_left x y) = tt
free_numbered t (set_right x y) = tt
free_numbered t (up x n) = tt
free_numbered t (down x n) = tt

no_text : (r : RowCall) (bytes : List ℕ) → row r ≡ read bytes → ⊥
no_text r bytes e = let z : ◌≡◌ {A = ℕ} 0 1 = cc in omega arith

step_no_text : (bytes : List ℕ) → step ≡ read bytes → ⊥
step_no_text bytes e = let z : ◌≡◌ {A = ℕ} 0 1 = cc in omega arith

-- a step that takes a packet leaves the scratch as after an audit
module _ (t : List ℕ) (q : Queue) (s : List ℕ) (h : Sound t q) (some : 0 < q.count) (enough : scratch_words (capacity t) ≤ length s) where
  step_asked : first_no (questions (store t q s) step) ≡ 0
  unfolding questions early late scratch_enough
  step_asked = first_no_zero (questions (store t q s) step) (h.shape, (le-leb (scratch_words (capacity t)) (length s) enough, tt))

  one_clears : (ps : List Packet) → waiting q ≡ ps → (step_from (store t q s) ps).after.scratch ≡ cleared (scratch_words (capacity t)) s
  unfolding step_from step_with
  one_clears [] e = absurd (omega (arith, length_waiting q, ap length e))
  one_clears (p ∷ ps) e = ap (λ (c : ℕ). cleared (scratch_words c) s) (packet_capacity t p ps (rw e at (sound_facts t q h)))

  step_clears : (reply : Reply) (after : Store) → Promise (store t q s) step reply after → after.scratch ≡ cleared (scratch_words (capacity t)) s
  unfolding accepted stepped
  step_clears reply after p =
      rw ((gives_machine (store t q s) step reply after (p.exact (decided (store t q s) step h))).1, machine_accepted (store t q s) step step_asked)
      (one_clears (waiting q) refl)

-- and so does an audit, which changes nothing else
pub audit_clears : (t : List ℕ) (q : Queue) (s : List ℕ) (reply : Reply) (after : Store) → Sound t q → scratch_words (capacity t) ≤ length s → Promise (store t q s) audit reply after
    → after.scratch ≡ cleared (scratch_words (capacity t)) s
unfolding accepted audited questions early late scratch_enough
audit_clears t q s reply after h enough p =
    let yes = first_no_zero (questions (store t q s) audit) (h.shape, (le-leb (scratch_words (capacity t)) (length s) enough, tt)) in
    rw ((gives_machine (store t q s) audit reply after (p.exact tt)).1, machine_accepted (store t q s) audit yes) refl

-- the cell that a cons replies was free
new_free : (t : List ℕ) (q : Queue) → Sound t q → (r : RowCall) → AllYes (ask_free t r) → New t r (value_of t r)
unfolding ask_free value_of packet_of
new_free t q s (car x) z = tt
new_free t q s (cdr x) z = tt
new_free t q s (cons x y) z =
    let c = sound_facts t q s in
    cons_case t c.free c.chain (chain_some t c.free c.chain z.0) x y
    (λ u m. (i : ℕ) × (m.c ≡ suc i) × (i < capacity t) × (in_use t i ≡ false))
    (λ new rest d. (new, refl, d.linked.1, was_free t (waiting q) c new rest d x y))
new_free t q s (set_left x y) z = tt
new_free t q s (set_right x y) z = tt
new_free t q s (up x n) z = tt
new_free t q s (down x n) z = tt

-- what a call's operands being held answers: questions 1 to 7
module _ (t : List ℕ) (q : Queue) (hs : List ℕ) (f : ℕ → Fields) (r : RowCall) (k : Rests t q (needs r ++ hs) f) (early_no : first_no (early_row t r) ≡ 0) where
  abbrev p : Packet
  p = packet_of t r

  abbrev w : ℕ
  w = value_of t r

  abbrev h : ℕ → Holds
  h x = holds (occurrences x (needs r ++ hs)) 0

  sound : Sound t q
  sound = k.whole.sound

  still : (c : Counter) (d : Direction) (x : ℕ) → waiting_change c d x (waiting q) ≡ 0
  unfolding waiting_change
  still c d x = rw (none_waits q k.idle) refl

  agrees : Agrees t q h
  agrees = record { whole = k.whole; roots = λ i l. omega (arith, k.held i l, still root plus (suc i), still root minus (suc i)); owed = λ i l. zero-le }

  early_yes : AllYes (early_row t r)
  early_yes = first_no_all (early_row t r) (early_row_numbered t r) early_no

  held : HeldFor t (waiting q) p
  held i l = inr (omega (arith, k.held i l, still root plus (suc i), still root minus (suc i), needs_uses t r (suc i), occurrences_append (suc i) (needs r) hs))

  six : held_enough t (waiting q) p ≡ true
  unfolding held_enough held_at_least
  six = every_all (capacity t) (λ i. eqb (uses p (suc i)) 0 || held_at_least t (waiting q) i (uses p (suc i)))
      (λ i l. or_right (eqb (uses p (suc i)) 0)
      (le-leb (waiting_change root minus (suc i) (waiting q) + uses p (suc i)) (word_at t i root_count + waiting_change root plus (suc i) (waiting q))
      (omega (arith, k.held i l, still root plus (suc i), still root minus (suc i), needs_uses t r (suc i), occurrences_append (suc i) (needs r) hs))))

  slot : q.count < slots
  slot = omega (arith, k.idle)

  module _ (a : Allowed t hs r) where
    free_yes : AllYes (ask_free t r)
    free_yes = first_no_all (ask_free t r) (free_numbered t r) a.free

    nine : held_within (written t r) (waiting (appended q p)) ≡ true
    nine = (question9 t q sound r early_yes held free_yes k.whole.arrays slot).1 (λ i l z. omega (
      arith,
      k.held i l,
      still root plus (suc i),
      still root minus (suc i),
      rises t r a.queues (suc i),
      occurrences_append (suc i) (needs r) hs,
      occurrences_append (suc i) (leaves r w) hs,
      occurrences_most (suc i) (leaves r w ++ hs),
      a.few w,
    ))

    ten : pointers_within (written t r) ≡ true
    ten = (question10 t q sound r early_yes held free_yes).1 (λ i l z. omega (
      arith,
      pointers_counted t q sound i l,
      still cell plus (suc i),
      still cell minus (suc i),
      stored_raises t r (suc i),
      a.pointed i l (omega (arith, stored_raises t r (suc i))),
    ))

    late_yes : AllYes (late_queued t q r)
    unfolding slot_empty
    late_yes = (six, (lt-ltb q.count slots slot, yes_both (ask_free t r) _ free_yes (nine, (ten, tt))))

    asked : first_no (questions (store t q []) (row r)) ≡ 0
    unfolding questions early late
    asked = first_no_zero (questions (store t q []) (row r)) (yes_both (early (store t q []) (row r)) (late (store t q []) (row r)) (sound.shape, early_yes)
        (rw (late_queued_lem t q r a.queues) late_yes))

    gives_queued : machine (store t q []) (row r) ≡ queued_outcome (store t q []) r
    gives_queued = machine_accepted (store t q []) (row r) asked ∙ queued_accepted (store t q []) r a.queues

    replies : RepliesField f r w
    replies = row_replies t q (sound_facts t q sound) f k.fields r (row_yes (store t q []) r a.queues k.whole.arrays asked)

    module _ {reply : Reply} {t₁ : List ℕ} {q₁ : Queue} (d : Promise (store t q []) (row r) reply (store t₁ q₁ [])) where
      given : (reply ≡ (machine (store t q []) (row r)).reply) × (store t₁ q₁ [] ≡ (machine (store t q []) (row r)).after)
      given = gives_machine (store t q []) (row r) reply (store t₁ q₁ []) (d.exact (decided (store t q []) (row r) sound))

      replied : reply ≡ value w
      replied = given.0 ∙ ap (λ (o : Outcome). o.reply) gives_queued

      queued : q₁ ≡ appended q p
      queued = ap (λ (s : Store). s.queue) given.1 ∙ ap (λ (o : Outcome). o.after.queue) gives_queued

      one : q₁.count ≡ 1
      unfolding appended put_slot
      one = rw queued (omega (arith, k.idle))

      promise : Promise (store t q []) (row r) (value w) (store t₁ q₁ [])
      promise = rw replied at d

      agrees₁ : Agrees t₁ q₁ (λ x. moved x (row r) (value w) (h x))
      agrees₁ = promise_agrees (store t q []) (row r) (value w) (store t₁ q₁ []) h promise agrees

      put₁ : FieldsStand t₁ (λ c. put c (row r) (value w) (f c))
      put₁ = promise_put (store t q []) (row r) (value w) (store t₁ q₁ []) f promise k.whole k.fields (no_text r)

      module _ {s : List ℕ} (enough : scratch_words (capacity t) ≤ length s) {last : Reply} {t₂ : List ℕ} {q₂ : Queue} {s₂ : List ℕ}
          (e : Promise (store t₁ q₁ s) step last (store t₂ q₂ s₂)) where
        same₁ : capacity t₁ ≡ capacity t
        same₁ = d.bounded.same_capacity

        enough₁ : scratch_words (capacity t₁) ≤ length s
        enough₁ = rw same₁ enough

        none : q₂.count ≡ 0
        none = omega (arith, one, step_takes t₁ q₁ s agrees₁.whole.sound enough₁ last (store t₂ q₂ s₂) e)

        agrees₂ : Agrees t₂ q₂ (λ x. moved x (row r) (value w) (h x))
        unfolding moved
        agrees₂ = promise_agrees (store t₁ q₁ s) step last (store t₂ q₂ s₂) (λ x. moved x (row r) (value w) (h x)) e agrees₁

        put₂ : FieldsStand t₂ (λ c. puts r w c (f c))
        unfolding put
        put₂ = promise_put (store t₁ q₁ s) step last (store t₂ q₂ s₂) (λ c. put c (row r) (value w) (f c)) e agrees₁.whole put₁ step_no_text

        rests : Rests t₂ q₂ (leaves r w ++ hs) (λ c. puts r w c (f c))
        unfolding moved waiting_change
        rests = record {
          whole = agrees₂.whole;
          idle = none;
          held = λ i l. omega (
            arith,
            rw (none_waits q₂ none) at (agrees₂.roots i l),
            balance r w (suc i),
            occurrences_append (suc i) (needs r) hs,
            occurrences_append (suc i) (leaves r w) hs,
          );
          fields = put₂;
        }

        settled : Settled t s hs f r w t₂ q₂ s₂
        settled = record {
          replied = replies;
          new = new_free t q sound r free_yes;
          rests = rests;
          scratch = step_clears t₁ q₁ s agrees₁.whole.sound (omega (arith, one)) enough₁ last (store t₂ q₂ s₂) e ∙ ap (λ (c : ℕ). cleared (scratch_words c) s) same₁;
        }

pub settles : Settles
settles t q s hs f r k a n t' q' s' w g =
    let e : w ≡ value_of t r = g.word ∙ ap word_of (replied t q hs f r k a.early a g.row) in
    rw e (settled t q hs f r k a.early a g.row n g.step)

-- no free cell
module _ (t : List ℕ) (q : Queue) (hs : List ℕ) (f : ℕ → Fields) (x y : ℕ) (k : Rests t q (x ∷ y ∷ hs) f) (early_no : first_no (early_row t (cons x y)) ≡ 0)
    (full : cells_in_use t ≡ capacity t) where
  eight : first_no (questions (store t q []) (row (cons x y))) ≡ 8
  unfolding questions early late ask_free slot_empty reads_nil
  eight =
      first_no_yes (ask 1 (in_range t q)) _ k.whole.sound.shape
      ∙ first_no_none (early_row t (cons x y)) (late_row t q (cons x y)) (early_row_numbered t (cons x y)) early_no
      ∙ ap first_no (late_queued_lem t q (cons x y) refl)
      ∙ first_no_yes (ask 6 (held_enough t (waiting q) (packet_of t (cons x y)))) _ (six t q hs f (cons x y) k early_no)
      ∙ first_no_yes (ask 7 (slot_empty q)) _ (lt-ltb q.count slots (slot t q hs f (cons x y) k early_no))
      ∙ first_no_no (ask 8 (cell_free t)) _ (none_free t full)

  fills_row : {reply : Reply} {t₁ : List ℕ} {q₁ : Queue} → Promise (store t q []) (row (cons x y)) reply (store t₁ q₁ [])
      → (reply ≡ refused 8) × (store t₁ q₁ [] ≡ store t q [])
  fills_row {reply} {t₁} {q₁} d =
      let g = gives_machine (store t q []) (row (cons x y)) reply (store t₁ q₁ []) (d.exact (decided (store t q []) (row (cons x y)) k.whole.sound)) in
      let m = machine_refused (store t q []) (row (cons x y)) 7 eight in
      (g.0 ∙ ap (λ (o : Outcome). o.reply) m, g.1 ∙ ap (λ (o : Outcome). o.after) m)

  -- an idle step changes nothing
  rests_idle : {s : List ℕ} {last : Reply} {t₂ : List ℕ} {q₂ : Queue} {s₂ : List ℕ} → Promise (store t q s) step last (store t₂ q₂ s₂)
      → store t₂ q₂ s₂ ≡ store t q s
  unfolding accepted stepped step_from
  rests_idle {s} {last} {t₂} {q₂} {s₂} d =
      (gives_machine (store t q s) step last (store t₂ q₂ s₂) (d.exact (decided (store t q s) step k.whole.sound))).1
      ∙ machine_cases (store t q s) step (λ o. o.after ≡ store t q s) (λ _. rw (none_waits q k.idle) refl) (λ n e. refl)

pub fills : Fills
fills t q s hs f x y k n full t' q' s' w g =
    let r = fills_row t q hs f x y k n full g.row in
    let same = ap (λ (u : Store). u.table) r.1 in
    let queue = ap (λ (u : Store). u.queue) r.1 in
    (g.word ∙ ap word_of r.0, rests_idle t q hs f x y k n full (rw (same, queue) at g.step))
