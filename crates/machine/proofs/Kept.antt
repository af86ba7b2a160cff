-- For every store and call the machine's own answer keeps the promise.
use mathlib.Core.Path.{◌≡◌, refl, sym, ap, ◌∙◌}
use mathlib.Core.Bool.{true}
use mathlib.Core.List.{List, [], ◌∷◌}
use Prim.Native.Nat.{ℕ, zero, suc, pred, ◌≤◌, ◌<◌}
use native.Mathlib.Omega.{arith}
use lib.ListN.{length, drop}
use borrow.Author.Tests.{leb-true}
use Rattle.notation.specs.Trees.{Tree, nil, atom, pair}
use Rattle.notation.specs.Parse.{parse, meaning}
use Rattle.machine.specs.Table.{stride, left, right, new_cell, scratch_words, capacity, first_free, last_free, table_length, put_word, put_ends, put_cell}
use Rattle.machine.specs.Queue.{Packet, waiting}
use Rattle.machine.specs.Packets.{Direction, plus, contains, Change, changes, names, name_changes}
use Rattle.machine.specs.Calls.{Call, fresh, row, step, audit, read, write, RowCall, car, cdr, cons, set_left, set_right, up, down}
use Rattle.machine.specs.Calls.{Reply, refused, Store, store, packets_of, without_first, written}
use Rattle.machine.specs.Step.{move_count, apply_changes, named, named_all, apply_packet, unreached, swept, cleared, Outcome, outcome, step_with, step_from, stepped}
use Rattle.machine.specs.Questions.{first_no, early_row, early, late, questions, scratch_enough, x_is_cell}
use Rattle.machine.specs.Audit.{rules, audit_reply, audited}
use Rattle.machine.specs.Texts.{build_by}
use Rattle.machine.specs.Machine.{refused_or, accepted_row, consed, text_read, accepted, answered, machine}
use Rattle.machine.specs.Promise.{ByMachine, Gives, Untouched, Bounded, numbers, Promise}
use Rattle.machine.proofs.Words.{cell_index}
use Rattle.machine.proofs.Table.{length_put_word, length_put_ends, length_put_cell, capacity_put_word, capacity_put_ends, capacity_put_cell, past_put_word, past_put_ends, past_put_cell}
use Rattle.machine.proofs.Scratch.{length_cleared, past_cleared}
use Rattle.machine.proofs.Moves.{length_move, capacity_move, last_free_move, past_move}
use Rattle.machine.proofs.Sweep.{sweeps}
use Rattle.machine.proofs.Select.{select_indices}
use Rattle.machine.proofs.Questions.{AllYes, first_no_append, first_no_none, first_no_number, first_no_all, early_numbered, shape_is}

pub machine_refused : (s : Store) (call : Call) (n : ℕ) → first_no (questions s call) ≡ suc n → machine s call ≡ outcome (refused (suc n)) s
unfolding machine answered
machine_refused s call n h = rw h

pub machine_accepted : (s : Store) (call : Call) → first_no (questions s call) ≡ 0 → machine s call ≡ accepted s call
unfolding machine answered
machine_accepted s call h = rw h

-- what the machine gives, by whether a question says "no"
pub machine_cases : (s : Store) (call : Call) (P : Outcome → Type 0) → (first_no (questions s call) ≡ 0 → P (accepted s call))
    → ((n : ℕ) → first_no (questions s call) ≡ suc n → P (outcome (refused (suc n)) s)) → P (machine s call)
machine_cases s call P accepts refuses = go (first_no (questions s call)) refl
  where
    go : (n : ℕ) → first_no (questions s call) ≡ n → P (machine s call)
    go zero e = rw (machine_accepted s call e) (accepts e)
    go (suc n) e = rw (machine_refused s call n e) (refuses n e)

-- an accepted call does not refuse
audit_not_refused : (k n : ℕ) → audit_reply k ≡ refused n → ⊥
unfolding audit_reply
audit_not_refused zero n h = let z : ◌≡◌ {A = ℕ} 0 1 = cc in omega arith
audit_not_refused (suc k) n h = let z : ◌≡◌ {A = ℕ} 0 1 = cc in omega arith

step_not_refused : (s : Store) (ps : List Packet) (n : ℕ) → (step_from s ps).reply ≡ refused n → ⊥
unfolding step_from step_with
step_not_refused s [] n h = let z : ◌≡◌ {A = ℕ} 0 1 = cc in omega arith
step_not_refused s (p ∷ ps) n h = let z : ◌≡◌ {A = ℕ} 0 1 = cc in omega arith

not_refused : (s : Store) (call : Call) (n : ℕ) → (accepted s call).reply ≡ refused n → ⊥
unfolding accepted text_read stepped audited
not_refused s (fresh c) n h = let z : ◌≡◌ {A = ℕ} 0 1 = cc in omega arith
not_refused s (row r) n h = let z : ◌≡◌ {A = ℕ} 0 1 = cc in omega arith
not_refused s step n h = step_not_refused s (waiting s.queue) n h
not_refused s audit n h = audit_not_refused (first_no (rules s.table s.queue)) n h
not_refused s (read text) n h = let z : ◌≡◌ {A = ℕ} 0 1 = cc in omega arith
not_refused s (write w room) n h = let z : ◌≡◌ {A = ℕ} 0 1 = cc in omega arith

kept_asked : (s : Store) (call : Call) (n : ℕ) → first_no (early s call) ≡ suc n → ((machine s call).reply ≡ refused (suc n)) × ((machine s call).after ≡ s)
unfolding questions
kept_asked s call n h =
    let e = machine_refused s call n (first_no_append (early s call) (late s call) n h) in
    (ap (λ (o : Outcome). o.reply) e, ap (λ (o : Outcome). o.after) e)

refused_number : {m n : ℕ} → refused m ≡ refused n → m ≡ n
refused_number h = cc

kept_refusal : (s : Store) (call : Call) (n : ℕ) → first_no (early s call) ≡ 0 → (machine s call).reply ≡ refused n → (contains (numbers (late s call)) n ≡ true) × ((machine s call).after ≡ s)
unfolding questions
kept_refusal s call n h r = go (first_no (late s call)) refl
  where
    none : first_no (questions s call) ≡ first_no (late s call)
    none = first_no_none (early s call) (late s call) (early_numbered s call) h

    go : (k : ℕ) → first_no (late s call) ≡ k → (contains (numbers (late s call)) n ≡ true) × ((machine s call).after ≡ s)
    go zero e = absurd (not_refused s call n (sym (ap (λ (o : Outcome). o.reply) (machine_accepted s call (none ∙ e))) ∙ r))
    go (suc k) e =
        let m = machine_refused s call k (none ∙ e) in
        let same : suc k ≡ n = refused_number (sym (ap (λ (o : Outcome). o.reply) m) ∙ r) in
        (rw same at (first_no_number (late s call) k e), ap (λ (o : Outcome). o.after) m)

-- a table whose length, C and words past the cells stand
pub record Framed (t t' : List ℕ) : Type 0 where
  pub same_length : length t' ≡ length t
  pub same_capacity : capacity t' ≡ capacity t
  pub past_cells : drop (table_length (capacity t)) t' ≡ drop (table_length (capacity t)) t

pub framed_refl : (t : List ℕ) → Framed t t
framed_refl t = record { same_length = refl; same_capacity = refl; past_cells = refl }

pub framed_trans : (t u v : List ℕ) → Framed t u → Framed u v → Framed t v
framed_trans t u v f g = record {
  same_length = g.same_length ∙ f.same_length;
  same_capacity = g.same_capacity ∙ f.same_capacity;
  past_cells = (rw f.same_capacity at g.past_cells) ∙ f.past_cells;
}

framed_put_word : (t : List ℕ) (i k v : ℕ) → i < capacity t → k < stride → Framed t (put_word t i k v)
framed_put_word t i k v l m = record {
  same_length = length_put_word t i k v;
  same_capacity = capacity_put_word t i k v;
  past_cells = past_put_word t (capacity t) i k v l m;
}

framed_new : (t : List ℕ) (f g i : ℕ) (ws : List ℕ) → length ws ≡ stride → i < capacity t → Framed t (put_cell (put_ends t f g) i ws)
framed_new t f g i ws e h = record {
  same_length = length_put_cell (put_ends t f g) i ws ∙ length_put_ends t f g;
  same_capacity = capacity_put_cell (put_ends t f g) i ws e ∙ capacity_put_ends t f g;
  past_cells = past_put_cell (put_ends t f g) (capacity t) i ws e h ∙ past_put_ends t (capacity t) f g;
}

-- the questions that say "yes" before a row call is accepted make its writes lie within the cells
x_index : (t : List ℕ) (x : ℕ) → x_is_cell t x ≡ true → pred x < capacity t
unfolding x_is_cell
x_index t x h = cell_index (capacity t) x h

pub framed_written : (s : Store) (r : RowCall) → AllYes (early s (row r)) → Framed s.table (written s.table r)
unfolding early early_row written without_first
framed_written s (car x) h = framed_refl s.table
framed_written s (cdr x) h = framed_refl s.table
framed_written s (cons x y) h =
    let shape = shape_is s.table s.queue h.0 in
    framed_new s.table _ _ (pred (first_free s.table)) (new_cell x y) refl (omega (arith, shape.table.first, shape.table.some))
framed_written s (set_left x y) h = framed_put_word s.table (pred x) left y (x_index s.table x h.1.1.0) (omega arith)
framed_written s (set_right x y) h = framed_put_word s.table (pred x) right y (x_index s.table x h.1.1.0) (omega arith)
framed_written s (up x n) h = framed_refl s.table
framed_written s (down x n) h = framed_refl s.table

pub framed_changes : (t : List ℕ) (hs : List Change) → Framed t (apply_changes t hs) × (last_free (apply_changes t hs) ≡ last_free t)
unfolding apply_changes
framed_changes t [] = (framed_refl t, refl)
framed_changes t (h ∷ hs) =
    let u = move_count t h.counter h.word h.direction h.amount in
    let rest = framed_changes u hs in (
      framed_trans t u (apply_changes u hs) (record {
        same_length = length_move t h.counter h.word h.direction h.amount;
        same_capacity = capacity_move t h.counter h.word h.direction h.amount;
        past_cells = past_move t h.counter h.word h.direction h.amount;
      }) rest.0,
      rest.1 ∙ last_free_move t h.counter h.word h.direction h.amount,
    )

-- packets queued, and the oldest applied
framed_naming : (d : Direction) (t : List ℕ) (p : Packet) → Framed t (named d t p)
unfolding named
framed_naming d t p = (framed_changes t (name_changes d (names p))).0

framed_named : (t : List ℕ) (ps : List Packet) → Framed t (named_all t ps)
framed_named t [] = framed_refl t
framed_named t (p ∷ ps) = framed_trans t (named plus t p) (named_all (named plus t p) ps) (framed_naming plus t p) (framed_named (named plus t p) ps)

framed_row : (s : Store) (r : RowCall) → AllYes (early s (row r)) → Framed s.table (named_all (written s.table r) (packets_of s.table r))
framed_row s r h =
    let w = written s.table r in
    let ps = packets_of s.table r in
    framed_trans s.table w (named_all w ps) (framed_written s r h) (framed_named w ps)

framed_applied : (t : List ℕ) (p : Packet) → Framed t (apply_packet t p)
unfolding apply_packet
framed_applied t p =
    let u = apply_changes t (changes p) in
    framed_trans t u _ (framed_changes t (changes p)).0 (framed_naming _ u p)

framed_swept : (t : List ℕ) → table_length (capacity t) ≤ length t → Framed t (swept t (unreached t))
unfolding unreached
framed_swept t f =
    let w = sweeps t (unreached t) f (select_indices (capacity t) _) in
    record { same_length = w.same_length; same_capacity = w.same_capacity; past_cells = w.past_cells }

pub untouched : (s : Store) (t : List ℕ) (q : _) (u : List ℕ) → Framed s.table t → length u ≡ length s.scratch → drop (scratch_words (capacity s.table)) u ≡ drop (scratch_words (capacity s.table)) s.scratch → Untouched s (store t q u)
untouched s t q u f e d = record {
  same_length = f.same_length;
  same_capacity = f.same_capacity;
  past_cells = f.past_cells;
  scratch_length = e;
  past_scratch = d;
}

pub unmoved : (s : Store) → Untouched s s
unmoved s = untouched s s.table s.queue s.scratch (framed_refl s.table) refl refl

scratch_room : (s : Store) → scratch_enough s.table s.scratch ≡ true → scratch_words (capacity s.table) ≤ length s.scratch
unfolding scratch_enough
scratch_room s h = leb-true (scratch_words (capacity s.table)) (length s.scratch) h

untouched_step : (s : Store) (ps : List Packet) → AllYes (early s step) → Untouched s (step_from s ps).after
unfolding step_from step_with early
untouched_step s [] h = unmoved s
untouched_step s (p ∷ ps) h =
    let t = s.table in
    let u = apply_packet t p in
    let shape = shape_is t s.queue h.0 in
    let c = framed_applied t p in
    let w = framed_swept u (rw (c.same_capacity, c.same_length) shape.table.room) in
    untouched s (swept u (unreached u)) _ (cleared (scratch_words (capacity u)) s.scratch) (framed_trans t u (swept u (unreached u)) c w)
    (rw c.same_capacity (length_cleared (scratch_words (capacity t)) s.scratch (scratch_room s h.1.0)))
    (rw c.same_capacity (past_cleared (scratch_words (capacity t)) s.scratch))

-- where the machine accepts, the early questions say "yes"
pub early_yes : (s : Store) (call : Call) → first_no (questions s call) ≡ 0 → AllYes (early s call)
unfolding questions
early_yes s call h = first_no_all (early s call) (early_numbered s call) (go (first_no (early s call)) refl)
  where
    go : (k : ℕ) → first_no (early s call) ≡ k → first_no (early s call) ≡ 0
    go zero e = e
    go (suc k) e = absurd (omega (arith, first_no_append (early s call) (late s call) k e))

-- a cons of the machine, accepted or refused, and so all that builds a tree
pub untouched_trans : (s u v : Store) → Untouched s u → Untouched u v → Untouched s v
untouched_trans s u v a b = record {
  same_length = b.same_length ∙ a.same_length;
  same_capacity = b.same_capacity ∙ a.same_capacity;
  past_cells = (rw a.same_capacity at b.past_cells) ∙ a.past_cells;
  scratch_length = b.scratch_length ∙ a.scratch_length;
  past_scratch = (rw a.same_capacity at b.past_scratch) ∙ a.past_scratch;
}

untouched_consed : (s : Store) (x y : ℕ) → Untouched s (consed s x y).after
unfolding consed
untouched_consed s x y = go (first_no (questions s (row (cons x y)))) refl
  where
    go : (n : ℕ) → first_no (questions s (row (cons x y))) ≡ n → Untouched s (refused_or n s (accepted_row s (cons x y))).after
    go zero e = untouched s _ _ s.scratch (framed_row s (cons x y) (early_yes s (row (cons x y)) e)) refl refl
    go (suc n) e = unmoved s

-- what every cons keeps, building a tree by it keeps
pub built_keeps : (make : Store → ℕ → ℕ → Outcome) (P : Store → Type 0) → ((s : Store) (x y : ℕ) → P s → P (make s x y).after)
    → (s : Store) (t : Tree) → P s → P (build_by make s t).after
unfolding build_by
built_keeps make P keeps s nil h = h
built_keeps make P keeps s (atom v) h = h
built_keeps make P keeps s (pair a d) h =
    let x = build_by make s a in
    let y = build_by make x.after d in
    keeps y.after x.word y.word (built_keeps make P keeps x.after d (built_keeps make P keeps s a h))

pub untouched_built : (s : Store) (t : Tree) → Untouched s (build_by consed s t).after
untouched_built s t = built_keeps consed (Untouched s) (λ u x y h. untouched_trans s u (consed u x y).after h (untouched_consed u x y)) s t (unmoved s)

pub bounded_accepted : (s : Store) (call : Call) → AllYes (early s call) → Bounded call s (accepted s call).after
unfolding accepted text_read stepped audited early
bounded_accepted s (fresh c) h = tt
bounded_accepted s (row r) h = untouched s _ _ s.scratch (framed_row s r h) refl refl
bounded_accepted s step h = untouched_step s (waiting s.queue) h
bounded_accepted s audit h =
    untouched s s.table _ (cleared (scratch_words (capacity s.table)) s.scratch) (framed_refl s.table)
    (length_cleared (scratch_words (capacity s.table)) s.scratch (scratch_room s h.1.0)) (past_cleared (scratch_words (capacity s.table)) s.scratch)
bounded_accepted s (read text) h = untouched_built s (meaning (parse text))
bounded_accepted s (write w room) h = refl

pub bounded_same : (s : Store) (call : Call) → Bounded call s s
bounded_same s (fresh c) = tt
bounded_same s (row r) = unmoved s
bounded_same s step = unmoved s
bounded_same s audit = unmoved s
bounded_same s (read text) = unmoved s
bounded_same s (write w room) = refl

kept_bounded : (s : Store) (call : Call) → Bounded call s (machine s call).after
kept_bounded s call =
    machine_cases s call (λ o. Bounded call s o.after) (λ e. bounded_accepted s call (early_yes s call e)) (λ n e. bounded_same s call)

-- the machine's own answer is what a call gives, and the other way round
machine_gives : (s : Store) (call : Call) → Gives s call (machine s call).reply (machine s call).after
machine_gives s (fresh c) = (refl, refl)
machine_gives s (row r) = (refl, refl)
machine_gives s step = (refl, refl)
machine_gives s audit = (refl, refl)
machine_gives s (read text) = (refl, refl)
machine_gives s (write w room) = (refl, refl)

pub gives_machine : (s : Store) (call : Call) (r : Reply) (after : Store) → Gives s call r after → ByMachine s call r after
gives_machine s (fresh c) r after g = g
gives_machine s (row k) r after g = g
gives_machine s step r after g = g
gives_machine s audit r after g = g
gives_machine s (read text) r after g = g
gives_machine s (write w room) r after g = g

pub kept : (s : Store) (call : Call) → Promise s call (machine s call).reply (machine s call).after
kept s call = record {
  asked = kept_asked s call;
  refusal = kept_refusal s call;
  exact = λ _. machine_gives s call;
  bounded = kept_bounded s call;
}
