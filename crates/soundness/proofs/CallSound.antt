-- Every call of the machine leaves a sound store sound, accepted or refused; and an accepted fresh makes any store sound.
use mathlib.Core.Path.{◌≡◌, refl, sym, ◌∙◌}
use mathlib.Core.Logic.{inl}
use mathlib.Core.Bool.{true}
use mathlib.Core.List.{List, [], ◌∷◌}
use Prim.Native.Nat.{ℕ, suc, ◌+◌, ◌≤◌}
use native.Mathlib.Omega.{arith}
use lib.Dec.{leb}
use lib.ListN.{length}
use borrow.Author.Tests.{leb-true}
use Rattle.notation.specs.Trees.{Tree, Values, pairs}
use Rattle.notation.specs.Parse.{parse, Parsed, tree, none, meaning}
use Rattle.notation.proofs.Theorems.{values_read}
use Rattle.machine.specs.Words.{most_cells}
use Rattle.machine.specs.Table.{table_length}
use Rattle.machine.specs.Queue.{Packet, slots, empty_queue, waiting}
use Rattle.machine.specs.Calls.{Call, fresh, row, step, audit, read, write, cons, Reply, value, refused, Store, packet_of, fresh_table}
use Rattle.machine.specs.Step.{step_with, step_from, stepped}
use Rattle.machine.specs.Questions.{first_no, cells_in_range, long_enough, text_storable, text_pairs, slots_empty, cells_free, early, late, questions}
use Rattle.machine.specs.Audit.{Sound, audited}
use Rattle.machine.specs.Texts.{build_by, atoms_storable}
use Rattle.machine.specs.Machine.{consed, text_read, accepted, answered, machine}
use Rattle.machine.specs.Promise.{Decided, Promise}
use Rattle.machine.proofs.Range.{and_first, and_second}
use Rattle.machine.proofs.Ring.{arrays_appended, arrays_taken}
use Rattle.machine.proofs.Questions.{first_no_none, first_no_all, first_no_zero, early_numbered}
use Rattle.machine.proofs.Kept.{machine_cases, early_yes, built_keeps, gives_machine}
use Rattle.machine.proofs.NilReads.{row_cases}
use Rattle.soundness.specs.Whole.{Whole}
use Rattle.soundness.specs.TextRead.{AllAccepted}
use Rattle.soundness.proofs.ZeroSlots.{arrays_empty}
use Rattle.soundness.proofs.FreshSound.{fresh_sound}
use Rattle.soundness.proofs.RowSound.{row_sound}
use Rattle.soundness.proofs.StepSound.{step_sound}
use Rattle.soundness.proofs.BuiltCells.{free_cells, BuiltReady, tree_ready, none_wait}

-- what an accepted fresh was asked
pub record FreshYes (c : ℕ) (t : List ℕ) : Type 0 where
  pub some : 1 ≤ c
  pub most : c ≤ most_cells
  pub room : table_length c ≤ length t

pub fresh_yes : (s : Store) (c : ℕ) → first_no (questions s (fresh c)) ≡ 0 → FreshYes c s.table
unfolding early cells_in_range long_enough
fresh_yes s c h =
    let y = early_yes s (fresh c) h in
    record {
      some = leb-true 1 c (and_first (leb 1 c) (leb c most_cells) y.0);
      most = leb-true c most_cells (and_second (leb 1 c) (leb c most_cells) y.0);
      room = leb-true (table_length c) (length s.table) y.1.0;
    }

pub fresh_whole : (s : Store) (c : ℕ) → first_no (questions s (fresh c)) ≡ 0 → Whole (fresh_table c s.table) empty_queue
fresh_whole s c h = let y = fresh_yes s c h in record { sound = fresh_sound c s.table y.some y.most y.room; arrays = arrays_empty }

step_whole : (s : Store) → Whole s.table s.queue → (ps : List Packet) → waiting s.queue ≡ ps
    → Whole (step_from s ps).after.table (step_from s ps).after.queue
unfolding step_from step_with
step_whole s w [] e = w
step_whole s w (p ∷ ps) e = record { sound = step_sound s.table s.queue p ps w.sound w.arrays e; arrays = arrays_taken s.queue w.arrays }

-- the questions of a text read, as facts
pub record ReadYes (s : Store) (text : List ℕ) : Type 0 where
  pub storable : atoms_storable (meaning (parse text)) ≡ true
  pub slot : s.queue.count + pairs (meaning (parse text)) ≤ slots
  pub free : pairs (meaning (parse text)) ≤ free_cells s.table

pub read_yes : (s : Store) (text : List ℕ) → first_no (questions s (read text)) ≡ 0 → ReadYes s text
unfolding questions early late text_storable text_pairs slots_empty cells_free
read_yes s text h =
    let n = pairs (meaning (parse text)) in
    let e = early_yes s (read text) h in
    let y = first_no_all (late s (read text)) (omega arith, (omega arith, tt))
    (sym (first_no_none (early s (read text)) (late s (read text)) (early_numbered s (read text)) (first_no_zero (early s (read text)) e)) ∙ h) in
    record { storable = e.1.1.1.0; slot = leb-true (s.queue.count + n) slots y.0; free = leb-true n (free_cells s.table) y.1.0 }

-- a text's tree has values that are atoms
pub meaning_values : (text : List ℕ) → Values (meaning (parse text))
meaning_values text = go (parse text) refl
  where
    go : (r : Parsed) → parse text ≡ r → Values (meaning r)
    go (tree t) e = values_read text t e
    go none e = tt

-- reading builds its cells by accepted conses
pub text_built : (s : Store) (text : List ℕ) → Whole s.table s.queue → first_no (questions s (read text)) ≡ 0
    → AllAccepted s (meaning (parse text)) × BuiltReady s [] (meaning (parse text)) (build_by consed s (meaning (parse text)))
text_built s text w h =
    let y = read_yes s text h in
    tree_ready s [] (meaning (parse text)) (meaning_values text) y.storable (none_wait s.table s.queue w) y.slot y.free

pub accepted_whole : (s : Store) (call : Call) → Whole s.table s.queue → first_no (questions s call) ≡ 0
    → Whole (accepted s call).after.table (accepted s call).after.queue
unfolding accepted text_read stepped audited
accepted_whole s (fresh c) w h = fresh_whole s c h
accepted_whole s (row r) w h =
    row_cases s r (λ o. Whole o.after.table o.after.queue) (λ _. w)
    (λ n. record { sound = row_sound s r n w.sound w.arrays h; arrays = arrays_appended s.queue (packet_of s.table r) w.arrays })
accepted_whole s step w h = step_whole s w (waiting s.queue) refl
accepted_whole s audit w h = w
accepted_whole s (read text) w h = (text_built s text w h).1.ready.whole
accepted_whole s (write x room) w h = w

pub machine_whole : (s : Store) (call : Call) → Whole s.table s.queue → Whole (machine s call).after.table (machine s call).after.queue
machine_whole s call w = machine_cases s call (λ o. Whole o.after.table o.after.queue) (accepted_whole s call w) (λ n e. w)

-- so does a cons, whether it is accepted or not, and a tree that is built by it
pub cons_whole : (s : Store) (x y : ℕ) → Whole s.table s.queue → Whole (consed s x y).after.table (consed s x y).after.queue
unfolding consed machine answered accepted
cons_whole s x y w = machine_whole s (row (cons x y)) w

pub built_whole : (s : Store) (t : Tree) → Whole s.table s.queue → Whole (build_by consed s t).after.table (build_by consed s t).after.queue
built_whole s t w = built_keeps consed (λ u. Whole u.table u.queue) cons_whole s t w

-- on a sound store all that a call gives is decided
pub decided : (s : Store) (call : Call) → Sound s.table s.queue → Decided s call
decided s (fresh c) h = tt
decided s (row r) h = inl h
decided s step h = inl h
decided s audit h = tt
decided s (read text) h = inl h
decided s (write w room) h = tt

-- so every call that keeps the promise leaves a sound store sound
pub promise_whole : (s : Store) (call : Call) (r : Reply) (after : Store) → Promise s call r after → Whole s.table s.queue
    → Whole after.table after.queue
promise_whole s call r after p w = rw (gives_machine s call r after (p.exact (decided s call w.sound))).1 (machine_whole s call w)

-- a call that replies a value was accepted
pub record Accepted (s : Store) (call : Call) (w : ℕ) (u : Store) : Type 0 where
  pub asked : first_no (questions s call) ≡ 0
  pub reply : (accepted s call).reply ≡ value w
  pub after : u ≡ (accepted s call).after

pub value_accepted : (s : Store) (call : Call) (w : ℕ) (after : Store) → Decided s call → Promise s call (value w) after → Accepted s call w after
value_accepted s call w after d p =
    let e = gives_machine s call (value w) after (p.exact d) in
    machine_cases s call (λ o. value w ≡ o.reply → after ≡ o.after → Accepted s call w after)
    (λ a r u. record { asked = a; reply = sym r; after = u }) (λ n a r u. absurd (no_value (suc n) r)) e.0 e.1
  where
    no_value : (n : ℕ) → value w ≡ refused n → ⊥
    no_value n h = let z : ◌≡◌ {A = ℕ} 0 1 = cc in omega arith
