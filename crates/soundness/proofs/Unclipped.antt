-- No list of calls from an accepted fresh puts a clipped reading into a cell (document 02, A5): question 14 stands before each word put in.
use mathlib.Core.Path.{◌≡◌, refl, ap, ◌∙◌}
use mathlib.Core.Bool.{Bool, true, false, cond}
use mathlib.Core.List.{List, [], ◌∷◌}
use Prim.Native.Nat.{ℕ, suc}
use native.Mathlib.Omega.{arith}
use lib.Dec.{eqb}
use Rattle.notation.specs.Trees.{Tree}
use Rattle.notation.specs.Parse.{parse, meaning}
use Rattle.machine.specs.declared.Queue.{Queue}
use Rattle.machine.specs.Range.{every_of}
use Rattle.machine.specs.Words.{may_be_stored}
use Rattle.machine.specs.Queue.{waiting}
use Rattle.machine.specs.Calls.{Call, fresh, row, step, audit, read, write, RowCall, car, cdr, cons, set_left, set_right, up, down}
use Rattle.machine.specs.Calls.{Reply, Store, store, packet_of, value_of, written}
use Rattle.machine.specs.Packets.{plus}
use Rattle.machine.specs.Step.{named, stepped}
use Rattle.machine.specs.Texts.{build_by}
use Rattle.machine.specs.Questions.{first_no, words_storable, early_row, questions}
use Rattle.machine.specs.Audit.{audited}
use Rattle.machine.specs.Machine.{consed, text_read, accepted, answered, machine}
use Rattle.machine.specs.Promise.{Promise}
use Rattle.machine.proofs.Range.{and_first, and_second}
use Rattle.machine.proofs.Questions.{AllYes}
use Rattle.machine.proofs.Kept.{machine_cases, built_keeps, gives_machine}
use Rattle.machine.proofs.NilReads.{row_cases}
use Rattle.soundness.specs.Demand3.{Link, Joined, Begun, table_after}
use Rattle.soundness.specs.Reliable.{Fields, fields, puts, FieldsStand, NoneClipped}
use Rattle.soundness.specs.Whole.{Whole}
use Rattle.soundness.proofs.Facts.{sound_facts}
use Rattle.soundness.proofs.RowQuestions.{RowYes, row_yes}
use Rattle.soundness.proofs.BuiltCells.{cell_storable}
use Rattle.soundness.proofs.CallSound.{fresh_whole, cons_whole, decided, promise_whole, value_accepted}
use Rattle.soundness.proofs.FieldsStand.{row_put, stepped_put, fresh_put}
use Rattle.soundness.proofs.NamedTable.{named_told}

abbrev Storable : Fields → Type 0
Storable f = (may_be_stored f.left ≡ true) × (may_be_stored f.right ≡ true)

-- the cells in use have these fields, all of which may be stored
record Unclipped (t : List ℕ) : Type 0 where
  has : ℕ → Fields
  stand : FieldsStand t has
  storable : (c : ℕ) → Storable (has c)

either : (b : Bool) (f g : Fields) → Storable f → Storable g → Storable (cond b f g)
either true f g l r = l
either false f g l r = r

-- what a row call puts has passed question 14
puts_storable : (t : List ℕ) (r : RowCall) → AllYes (early_row t r) → (w c : ℕ) (f : Fields) → Storable f → Storable (puts r w c f)
unfolding puts early_row words_storable every_of
puts_storable t (car x) a w c f s = s
puts_storable t (cdr x) a w c f s = s
puts_storable t (cons x y) a w c f s =
    let rest = and_second (may_be_stored x) (every_of (y ∷ []) may_be_stored) a.1.0 in
    either (eqb w c) (fields x y) f (and_first (may_be_stored x) (every_of (y ∷ []) may_be_stored) a.1.0, and_first (may_be_stored y) true rest) s
puts_storable t (set_left x y) a w c f s = either (eqb x c) (fields y f.right) f (and_first (may_be_stored y) true a.1.1.0, s.1) s
puts_storable t (set_right x y) a w c f s = either (eqb x c) (fields f.left y) f (s.0, and_first (may_be_stored y) true a.1.1.0) s
puts_storable t (up x n) a w c f s = s
puts_storable t (down x n) a w c f s = s

written_unclipped : (t : List ℕ) (q : Queue) (r : RowCall) → Whole t q → RowYes t q r → Unclipped t → Unclipped (named plus (written t r) (packet_of t r))
written_unclipped t q r w y k = record {
  has = λ c. puts r (value_of t r) c (k.has c);
  stand = named_told plus (written t r) (packet_of t r) (λ c. puts r (value_of t r) c (k.has c)) (row_put t q (sound_facts t q w.sound) k.has k.stand r y);
  storable = λ c. puts_storable t r y.early (value_of t r) c (k.has c) (k.storable c);
}

row_unclipped : (s : Store) (r : RowCall) → Whole s.table s.queue → Unclipped s.table → first_no (questions s (row r)) ≡ 0
    → Unclipped (accepted s (row r)).after.table
row_unclipped s r w k e =
    row_cases s r (λ o. Unclipped o.after.table) (λ _. k) (λ n. written_unclipped s.table s.queue r w (row_yes s r n w.arrays e) k)

-- a text is read by cons
cons_unclipped : (s : Store) (x y : ℕ) → Whole s.table s.queue → Unclipped s.table → Unclipped (consed s x y).after.table
unfolding consed machine answered accepted
cons_unclipped s x y w k =
    machine_cases s (row (cons x y)) (λ o. Unclipped o.after.table) (row_unclipped s (cons x y) w k) (λ n e. k)

built_unclipped : (s : Store) (tree : Tree) → Whole s.table s.queue → Unclipped s.table → Unclipped (build_by consed s tree).after.table
built_unclipped s tree w k =
    (built_keeps consed (λ u. Whole u.table u.queue × Unclipped u.table)
    (λ u x y h. (cons_whole u x y h.0, cons_unclipped u x y h.0 h.1)) s tree (w, k)).1

fresh_unclipped : (s : Store) (c : ℕ) → first_no (questions s (fresh c)) ≡ 0 → Unclipped (accepted s (fresh c)).after.table
unfolding accepted
fresh_unclipped s c e =
    let none = cell_storable 0 (omega arith) in
    record { has = λ i. fields 0 0; stand = fresh_put s c (λ i. fields 0 0) e; storable = λ i. (none, none) }

accepted_unclipped : (s : Store) (call : Call) → Whole s.table s.queue → Unclipped s.table → first_no (questions s call) ≡ 0
    → Unclipped (accepted s call).after.table
unfolding accepted text_read stepped audited
accepted_unclipped s (fresh c) w k e = fresh_unclipped s c e
accepted_unclipped s (row r) w k e = row_unclipped s r w k e
accepted_unclipped s step w k e =
    record { has = k.has; stand = stepped_put s k.has w k.stand (waiting s.queue) refl; storable = k.storable }
accepted_unclipped s audit w k e = k
accepted_unclipped s (read text) w k e = built_unclipped s (meaning (parse text)) w k
accepted_unclipped s (write x room) w k e = k

promise_unclipped : (s : Store) (call : Call) (r : Reply) (after : Store) → Promise s call r after → Whole s.table s.queue → Unclipped s.table
    → Unclipped after.table
promise_unclipped s call r after p w k =
    rw (gives_machine s call r after (p.exact (decided s call w.sound))).1
    (machine_cases s call (λ o. Unclipped o.after.table) (accepted_unclipped s call w k) (λ n e. k))

links_unclipped : (t : List ℕ) (q : Queue) (ls : List Link) → Whole t q → Unclipped t → Joined t q ls → Unclipped (table_after t ls)
links_unclipped t q [] w k j = k
links_unclipped t q (l ∷ ls) w k j =
    let s = store t q l.scratch in
    links_unclipped l.after.table l.after.queue ls (promise_whole s l.call l.reply l.after j.0 w)
    (promise_unclipped s l.call l.reply l.after j.0 w k) j.1

begun_unclipped : (t : List ℕ) (q : Queue) (ls : List Link) → Begun ls → Joined t q ls → Unclipped (table_after t ls)
unfolding accepted
begun_unclipped t q [] b j = absurd b
begun_unclipped t q (l ∷ ls) b j =
    let s = store t q l.scratch in
    let a = value_accepted s (fresh b.0) b.1 l.after tt (rw (b.2, b.3) at j.0) in
    links_unclipped l.after.table l.after.queue ls (rw a.after (fresh_whole s b.0 a.asked))
    (rw a.after (fresh_unclipped s b.0 a.asked)) j.1

none_in : (t : List ℕ) → Unclipped t → NoneClipped t
none_in t k i n u =
    let f = k.stand i n u in
    let both = k.storable (suc i) in
    (ap may_be_stored f.0 ∙ both.0, ap may_be_stored f.1 ∙ both.1)

pub none_clipped : (t : List ℕ) (q : Queue) (ls : List Link) → Begun ls → Joined t q ls → NoneClipped (table_after t ls)
none_clipped t q ls b j = none_in (table_after t ls) (begun_unclipped t q ls b j)
