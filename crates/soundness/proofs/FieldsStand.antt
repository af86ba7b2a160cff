-- Fields are told from the calls and their replies alone: a replace and a cons put theirs, and no call changes another field of a cell in use.
use mathlib.Core.Path.{◌≡◌, refl, sym, ap, ◌∙◌}
use mathlib.Core.Logic.{⊎_elim, ◌≢◌}
use mathlib.Core.Bool.{Bool, true, false, cond}
use mathlib.Core.List.{List, [], ◌∷◌}
use Prim.Native.Nat.{ℕ, suc, pred, ◌≤◌, ◌<◌}
use native.Mathlib.Omega.{arith}
use lib.Dec.{eqb}
use borrow.Author.Tests.{eqb-true, eqb-false}
use Rattle.machine.specs.declared.Queue.{Queue}
use Rattle.machine.specs.Range.{matching}
use Rattle.machine.specs.Words.{is_nil, is_cell}
use Rattle.machine.specs.Table.{left, right, capacity, word_at, put_word}
use Rattle.machine.specs.Queue.{Packet, waiting}
use Rattle.machine.specs.Packets.{kind_of, plus, uses_of, uses}
use Rattle.machine.specs.Calls.{Call, fresh, row, step, audit, read, write, RowCall, car, cdr, cons, set_left, set_right, up, down}
use Rattle.machine.specs.Calls.{Reply, refused, Store, store, field, packet_of, reads_nil, written, word_read, value_of, fresh_table}
use Rattle.machine.specs.Step.{apply_packet, step_with, step_from, stepped}
use Rattle.machine.specs.Questions.{first_no, x_is_cell, early_row, ask_free, questions}
use Rattle.machine.specs.Audit.{audited}
use Rattle.machine.specs.Facts.{Chain}
use Rattle.machine.specs.Machine.{accepted}
use Rattle.machine.specs.Promise.{Promise}
use Rattle.machine.proofs.Range.{not_both, matching_same}
use Rattle.machine.proofs.Words.{cell_index, cell_number_lem}
use Rattle.machine.proofs.Table.{Inside, room, word_same, word_other, capacity_put_word}
use Rattle.machine.proofs.Kept.{machine_cases, gives_machine}
use Rattle.machine.proofs.RootsByCell.{Counted, sound_counted}
use Rattle.machine.proofs.NilReads.{nil_cases, read_cell, row_cases}
use Rattle.soundness.specs.Demand3.{Link, Joined, Begun, table_after, answers}
use Rattle.soundness.specs.Reliable.{Fields, fields, puts, put, fields_from, fields_after, FieldsStand, RepliesField, NoTextRead}
use Rattle.soundness.specs.Whole.{Whole}
use Rattle.soundness.proofs.Stages.{used_put}
use Rattle.soundness.proofs.Facts.{Facts, sound_facts}
use Rattle.soundness.proofs.FreeChain.{chain_some}
use Rattle.soundness.proofs.ReachedCells.{counted_used}
use Rattle.soundness.proofs.FreshSound.{fresh_unused}
use Rattle.soundness.proofs.RowQuestions.{RowYes, row_yes}
use Rattle.soundness.proofs.Cons.{with_cell, same_capacity_lem, new_left, new_right, other, same_use_lem}
use Rattle.soundness.proofs.RowWrites.{cons_case}
use Rattle.soundness.proofs.OldestPacket.{applied_fields}
use Rattle.soundness.proofs.NameCounts.{packet_capacity, packet_word, packet_use, packet_facts, packet_counted}
use Rattle.soundness.proofs.NamedTable.{named_told}
use Rattle.soundness.proofs.FreedCells.{swept_capacity, swept_fields}
use Rattle.soundness.proofs.StepSound.{step_table}
use Rattle.soundness.proofs.CallSound.{fresh_yes, fresh_whole, decided, promise_whole, value_accepted}

-- the cell at index i has these fields
abbrev Has : List ℕ → ℕ → Fields → Type 0
Has t i f = (word_at t i left ≡ f.left) × (word_at t i right ≡ f.right)

-- y put into a field of the cell x
module _ (t : List ℕ) (x y : ℕ) (n : Inside t (pred x)) (c : x ≡ suc (pred x)) (j : ℕ) (f : Fields) (h : Has t j f) where
  apart : eqb x (suc j) ≡ false → pred x ≢ j
  apart e d = eqb-false x (suc j) e (omega arith)

  left_put : (b : Bool) → eqb x (suc j) ≡ b → Has (put_word t (pred x) left y) j (cond b (fields y f.right) f)
  left_put true e = let d : j ≡ pred x = omega (arith, eqb-true x (suc j) e) in (
    rw d (word_same t (pred x) left y n (omega arith)),
    word_other t (pred x) left y j right (omega arith) (omega arith) (λ _ k. omega arith) ∙ h.1,
  )
  left_put false e = (
    word_other t (pred x) left y j left (omega arith) (omega arith) (λ d _. apart e d) ∙ h.0,
    word_other t (pred x) left y j right (omega arith) (omega arith) (λ d _. apart e d) ∙ h.1,
  )

  right_put : (b : Bool) → eqb x (suc j) ≡ b → Has (put_word t (pred x) right y) j (cond b (fields f.left y) f)
  right_put true e = let d : j ≡ pred x = omega (arith, eqb-true x (suc j) e) in (
    word_other t (pred x) right y j left (omega arith) (omega arith) (λ _ k. omega arith) ∙ h.0,
    rw d (word_same t (pred x) right y n (omega arith)),
  )
  right_put false e = (
    word_other t (pred x) right y j left (omega arith) (omega arith) (λ d _. apart e d) ∙ h.0,
    word_other t (pred x) right y j right (omega arith) (omega arith) (λ d _. apart e d) ∙ h.1,
  )

-- a cell made of x and y
cons_put : (t : List ℕ) (ps : List Packet) (f : Facts t ps) (new : ℕ) (rest : List ℕ) (chain : Chain t (new ∷ rest)) (x y : ℕ) (g : ℕ → Fields)
    → FieldsStand t g → FieldsStand (with_cell t new x y) (λ c. cond (eqb (suc new) c) (fields x y) (g c))
cons_put t ps f new rest chain x y g h i l u = go (eqb (suc new) (suc i)) refl
  where
    go : (b : Bool) → eqb (suc new) (suc i) ≡ b → Has (with_cell t new x y) i (cond b (fields x y) (g (suc i)))
    go true e =
        let d : i ≡ new = omega (arith, eqb-true (suc new) (suc i) e) in
        rw d (new_left t ps f new rest chain x y, new_right t ps f new rest chain x y)
    go false e =
        let d : i ≢ new = λ k. eqb-false (suc new) (suc i) e (omega arith) in
        let s = h i (rw (same_capacity_lem t ps f new rest chain x y) at l) (sym (same_use_lem t ps f new rest chain x y i d) ∙ u) in (
          other t ps f new rest chain x y i left (omega arith) d ∙ s.0,
          other t ps f new rest chain x y i right (omega arith) d ∙ s.1,
        )

module _ (t : List ℕ) (q : Queue) (f : Facts t (waiting q)) (g : ℕ → Fields) (h : FieldsStand t g) where
  -- field k of the cell x gets y
  replace_put : (k x y : ℕ) → k ≤ right → is_cell (capacity t) x ≡ true → (p : ℕ → Fields)
      → ((j : ℕ) → Inside t (pred x) → x ≡ suc (pred x) → Has t j (g (suc j)) → Has (put_word t (pred x) k y) j (p (suc j)))
      → FieldsStand (put_word t (pred x) k y) p
  replace_put k x y m c p has i l u =
      has i (room t (capacity t) (pred x) f.room (cell_index (capacity t) x c)) (cell_number_lem (capacity t) x c)
      (h i (rw (capacity_put_word t (pred x) k y) at l) (sym (used_put t (pred x) k y i m) ∙ u))

  pub row_put : (r : RowCall) → RowYes t q r → FieldsStand (written t r) (λ c. puts r (value_of t r) c (g c))
  unfolding puts early_row x_is_cell ask_free
  row_put (car x) a = unfold written in h
  row_put (cdr x) a = unfold written in h
  row_put (cons x y) a = unfold value_of packet_of in
      cons_case t f.free f.chain (chain_some t f.free f.chain a.free.0) x y
      (λ u p. FieldsStand u (λ c. cond (eqb p.c c) (fields x y) (g c)))
      (λ new rest chain. cons_put t (waiting q) f new rest chain x y g h)
  row_put (set_left x y) a = unfold written in
      replace_put left x y (omega arith) a.early.1.0 (λ c. cond (eqb x c) (fields y (g c).right) (g c))
      (λ j n c s. left_put t x y n c j (g (suc j)) s (eqb x (suc j)) refl)
  row_put (set_right x y) a = unfold written in
      replace_put right x y (omega arith) a.early.1.0 (λ c. cond (eqb x c) (fields (g c).left y) (g c))
      (λ j n c s. right_put t x y n c j (g (suc j)) s (eqb x (suc j)) refl)
  row_put (up x n) a = unfold written in h
  row_put (down x n) a = unfold written in h

  -- a cell x that an accepted call names is held, so in use
  named_has : (r : RowCall) → RowYes t q r → (x : ℕ) → is_cell (capacity t) x ≡ true → 1 ≤ uses (packet_of t r) (suc (pred x)) → Has t (pred x) (g x)
  named_has r a x c n =
      let l = cell_index (capacity t) x c in
      let e : suc (pred x) ≡ x = sym (cell_number_lem (capacity t) x c) in
      let u = counted_used t (waiting q) f (pred x) l (⊎_elim (λ z. absurd (omega arith)) (λ z. omega arith) (a.passed.held (pred x) l)) in
      let s = h (pred x) l u in
      (s.0 ∙ ap (λ (y : ℕ). (g y).left) e, s.1 ∙ ap (λ (y : ℕ). (g y).right) e)

  itself : (x : ℕ) → is_cell (capacity t) x ≡ true → matching x (suc (pred x)) 1 ≡ 1
  itself x c = matching_same x (suc (pred x)) 1 (cell_number_lem (capacity t) x c)

  pub row_replies : (r : RowCall) → RowYes t q r → RepliesField g r (value_of t r)
  unfolding value_of word_read field early_row reads_nil x_is_cell packet_of uses uses_of kind_of
  row_replies (car x) a = let c = read_cell t x a.queues a.early.1 in rw a.queues (named_has (car x) a x c (omega (arith, itself x c))).0
  row_replies (cdr x) a = let c = read_cell t x a.queues a.early.1 in rw a.queues (named_has (cdr x) a x c (omega (arith, itself x c))).1
  row_replies (cons x y) a = tt
  row_replies (set_left x y) a = let c = a.early.1.0 in (named_has (set_left x y) a x c (omega (arith, itself x c))).0
  row_replies (set_right x y) a = let c = a.early.1.0 in (named_has (set_right x y) a x c (omega (arith, itself x c))).1
  row_replies (up x n) a = tt
  row_replies (down x n) a = tt

-- a step changes counts, and fields of the cells that it frees
step_put : (t : List ℕ) (p : Packet) (ps : List Packet) → Facts t (p ∷ ps) → Counted t (p ∷ ps) → (g : ℕ → Fields) → FieldsStand t g → FieldsStand (step_table t p) g
step_put t p ps f d g h i l u =
    let v = apply_packet t p in
    let e = packet_facts t p ps f in
    let n = packet_counted t p ps f d in
    let m : i < capacity v = rw (swept_capacity v ps e n) at l in
    let w = swept_fields v ps e n i m u in
    let s = h i (rw (packet_capacity t p ps f) at m) (sym (packet_use t p ps f i) ∙ w.0) in (
      w.1 left (omega arith) ∙ packet_word t p ps f i left (omega arith) (omega arith) ∙ applied_fields t p ps f i left (omega arith) ∙ s.0,
      w.1 right (omega arith) ∙ packet_word t p ps f i right (omega arith) (omega arith) ∙ applied_fields t p ps f i right (omega arith) ∙ s.1,
    )

pub stepped_put : (s : Store) (g : ℕ → Fields) → Whole s.table s.queue → FieldsStand s.table g → (ps : List Packet) → waiting s.queue ≡ ps
    → FieldsStand (step_from s ps).after.table g
unfolding step_from step_with
stepped_put s g w h [] e = h
stepped_put s g w h (p ∷ ps) e =
    step_put s.table p ps (rw e at (sound_facts s.table s.queue w.sound)) (rw e at (sound_counted s.table s.queue w.sound)) g h

pub fresh_put : (s : Store) (c : ℕ) (g : ℕ → Fields) → first_no (questions s (fresh c)) ≡ 0 → FieldsStand (fresh_table c s.table) g
fresh_put s c g e i l u = absurd (not_both u (fresh_unused c s.table (fresh_yes s c e).room i l))

nil_put : (t : List ℕ) (r : RowCall) → reads_nil r ≡ true → (g : ℕ → Fields) → FieldsStand t g → FieldsStand t (λ c. puts r 0 c (g c))
unfolding puts
nil_put t r e g h = nil_cases r e (λ k. FieldsStand t (λ c. puts k 0 c (g c))) h h

pub nil_replies : (r : RowCall) → reads_nil r ≡ true → (g : ℕ → Fields) → RepliesField g r 0
unfolding is_nil
nil_replies r e g = nil_cases r e (λ k. RepliesField g k 0) refl refl

-- the call reads no text
abbrev NoText : Call → Type 0
NoText call = (bytes : List ℕ) → call ≡ read bytes → ⊥

-- every other call of the machine, and whoever keeps the promise, puts what the answer tells
accepted_put : (s : Store) (call : Call) (g : ℕ → Fields) → Whole s.table s.queue → FieldsStand s.table g → NoText call → first_no (questions s call) ≡ 0
    → FieldsStand (accepted s call).after.table (λ c. put c call (accepted s call).reply (g c))
unfolding put accepted stepped audited
accepted_put s (fresh c) g w h m e = fresh_put s c g e
accepted_put s (row r) g w h m e =
    row_cases s r (λ o. FieldsStand o.after.table (λ c. put c (row r) o.reply (g c))) (λ n. nil_put s.table r n g h)
    (λ n. named_told plus (written s.table r) (packet_of s.table r) (λ c. puts r (value_of s.table r) c (g c))
    (row_put s.table s.queue (sound_facts s.table s.queue w.sound) g h r (row_yes s r n w.arrays e)))
accepted_put s step g w h m e = stepped_put s g w h (waiting s.queue) refl
accepted_put s audit g w h n e = h
accepted_put s (read text) g w h n e = absurd (n text refl)
accepted_put s (write x room) g w h n e = h

refused_put : (t : List ℕ) (call : Call) (n : ℕ) (g : ℕ → Fields) → FieldsStand t g → FieldsStand t (λ c. put c call (refused n) (g c))
unfolding put
refused_put t (fresh c) n g h = h
refused_put t (row r) n g h = h
refused_put t step n g h = h
refused_put t audit n g h = h
refused_put t (read text) n g h = h
refused_put t (write w room) n g h = h

pub promise_put : (s : Store) (call : Call) (r : Reply) (after : Store) (g : ℕ → Fields) → Promise s call r after → Whole s.table s.queue
    → FieldsStand s.table g → NoText call → FieldsStand after.table (λ c. put c call r (g c))
promise_put s call r after g p w h m =
    let e = gives_machine s call r after (p.exact (decided s call w.sound)) in
    rw (e.0, e.1) (machine_cases s call (λ o. FieldsStand o.after.table (λ c. put c call o.reply (g c)))
    (accepted_put s call g w h m) (λ n d. refused_put s.table call (suc n) g h))

links_put : (t : List ℕ) (q : Queue) (g : ℕ → Fields) (ls : List Link) → Whole t q → FieldsStand t g → Joined t q ls → NoTextRead ls
    → FieldsStand (table_after t ls) (λ c. fields_from (g c) (answers ls) c)
unfolding fields_from
links_put t q g [] w h j m = h
links_put t q g (l ∷ ls) w h j m =
    let s = store t q l.scratch in
    links_put l.after.table l.after.queue (λ c. put c l.call l.reply (g c)) ls
    (promise_whole s l.call l.reply l.after j.0 w) (promise_put s l.call l.reply l.after g j.0 w h m.0) j.1 m.1

-- an accepted fresh leaves no cell in use
pub fields_stand : (t : List ℕ) (q : Queue) (ls : List Link) → Begun ls → Joined t q ls → NoTextRead ls → FieldsStand (table_after t ls) (fields_after ls)
unfolding fields_from accepted
fields_stand t q [] b j m = absurd b
fields_stand t q (l ∷ ls) b j m =
    let s = store t q l.scratch in
    let a = value_accepted s (fresh b.0) b.1 l.after tt (rw (b.2, b.3) at j.0) in
    let g : ℕ → Fields = λ c. put c l.call l.reply (fields 0 0) in
    links_put l.after.table l.after.queue g ls (rw a.after (fresh_whole s b.0 a.asked)) (rw a.after (fresh_put s b.0 g a.asked)) j.1 m.1
