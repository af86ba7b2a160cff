-- Cons's changes in either order give the same: a root count and a cell count are different words.
use mathlib.Core.Path.{◌≡◌, refl, ap, ◌∙◌}
use mathlib.Core.Logic.{◌≢◌}
use mathlib.Core.Bool.{Bool, false, false≢true}
use mathlib.Core.List.{List, [], ◌∷◌}
use Prim.Native.Nat.{ℕ}
use native.Mathlib.Omega.{arith}
use Rattle.machine.specs.Queue.{Packet}
use Rattle.machine.specs.Packets.{Kind, reads, makes, replaces, raises, lowers, unknown, kind_of, Counter, root, cell, name, Direction, plus, minus, Change, root_down, cell_up, changes_of, changes, moved_by, same_counter}
use Rattle.machine.specs.Calls.{Call, Store}
use Rattle.machine.specs.Step.{move_count, apply_changes, named, apply_packet, Outcome}
use Rattle.machine.specs.Machine.{machine}
use Rattle.machine.proofs.Commute.{exchange}
use Rattle.soundness.specs.Demand3.{Link}
use Rattle.soundness.specs.Links.{links_of}
use Rattle.soundness.specs.Variants.{machine_of}
use Rattle.soundness.specs.EitherOrder.{column_order_of, column_order, in_column_order, SameInEitherOrder}
use Rattle.soundness.proofs.Variants.{alike}

-- cons: the second operand's root count and the first's cell count change places
same_table : (t : List ℕ) (p : Packet) → apply_changes t (column_order p) ≡ apply_changes t (changes p)
unfolding column_order column_order_of changes changes_of apply_changes
same_table t p = go (kind_of p.kind) p.a p.b
  where
    go : (k : Kind) (a b : ℕ) → apply_changes t (column_order_of k a b) ≡ apply_changes t (changes_of k a b)
    go reads a b = refl
    go makes a b = exchange (move_count t root a minus 1) (root_down b 1) (cell_up a 1) (cell_up b 1 ∷ []) (λ e. omega arith)
    go (replaces field) a b = refl
    go raises a b = refl
    go lowers a b = refl
    go unknown a b = refl

same_sum : (k : Counter) (d : Direction) (x : ℕ) (p : Packet) → moved_by k d x (column_order p) ≡ moved_by k d x (changes p)
unfolding column_order column_order_of changes changes_of moved_by
same_sum k d x p = go k d (kind_of p.kind) p.a p.b
  where
    go : (k : Counter) (d : Direction) (n : Kind) (a b : ℕ) → moved_by k d x (column_order_of n a b) ≡ moved_by k d x (changes_of n a b)
    go k d reads a b = refl
    go root plus makes a b = omega arith
    go root minus makes a b = omega arith
    go cell plus makes a b = omega arith
    go cell minus makes a b = omega arith
    go name plus makes a b = refl
    go name minus makes a b = refl
    go k d (replaces field) a b = refl
    go k d raises a b = refl
    go k d lowers a b = refl
    go k d unknown a b = refl

others_same : (k : Kind) (a b : ℕ) → k ≢ makes → changes_of k a b ≡ column_order_of k a b
unfolding column_order_of changes_of
others_same reads a b n = refl
others_same makes a b n = absurd (n refl)
others_same (replaces field) a b n = refl
others_same raises a b n = refl
others_same lowers a b n = refl
others_same unknown a b n = refl

-- the second change is of a root count
second_root : List Change → Bool
second_root [] = false
second_root (h ∷ []) = false
second_root (h ∷ j ∷ hs) = same_counter root j.counter

cons_other : (a b : ℕ) → changes_of makes a b ≢ column_order_of makes a b
unfolding column_order_of changes_of second_root
cons_other a b e = false≢true (ap second_root e)

-- machines that give the same, call by call
links_same : (m n : Store → Call → Outcome) → ((s : Store) (call : Call) → m s call ≡ n s call) → (s : Store) (calls : List Call) → links_of m s calls ≡ links_of n s calls
unfolding links_of
links_same m n h s [] = refl
links_same m n h s (call ∷ calls) =
    ap (λ (o : Outcome). record { call = call; scratch = s.scratch; reply = o.reply; after = o.after } ∷ links_of m o.after calls) (h s call)
    ∙ ap (λ (ls : List Link). record { call = call; scratch = s.scratch; reply = (n s call).reply; after = (n s call).after } ∷ ls) (links_same m n h (n s call).after calls)

column_alike : (s : Store) (call : Call) → machine_of in_column_order s call ≡ machine s call
column_alike = alike (λ t p. named minus (apply_changes t (column_order p)) p) (λ t p. unfold apply_packet in ap (λ (u : List ℕ). named minus u p) (same_table t p))

pub same_in_either_order : SameInEitherOrder
same_in_either_order = record {
  one_call = column_alike;
  any_list = links_same (machine_of in_column_order) machine column_alike;
  sums = same_sum;
  others = others_same;
  cons = cons_other;
}
