-- Where name counts are what the waiting packets name, root, protection and reached told from the cell are those told from the queue.
use mathlib.Core.Path.{◌≡◌, sym, ap, ◌∙◌}
use mathlib.Core.Bool.{Bool, true, ◌||◌, ◌&&◌}
use mathlib.Core.List.{List}
use Prim.Native.Nat.{ℕ, suc, ◌<◌}
use lib.Dec.{ltb, eqb}
use borrow.Author.Tests.{eqb-true, eq-eqb}
use Rattle.machine.specs.declared.Queue.{Queue}
use Rattle.machine.specs.Range.{every}
use Rattle.machine.specs.Table.{root_count, name_count, capacity, word_at}
use Rattle.machine.specs.Queue.{Packet, waiting}
use Rattle.machine.specs.Packets.{is_named, times_named}
use Rattle.machine.specs.Reached.{is_protected, is_root, is_root_by_queue, points_to, ReachedBy, begun, onward, Reached, ReachedByQueue}
use Rattle.machine.specs.Audit.{other_slots_zero, packets_legal, replays, names_counted, packets_sound, Sound}
use Rattle.machine.specs.RootsByCell.{AllRootsByCell}
use Rattle.machine.proofs.Range.{and_second, every_at, every_all}
use Rattle.machine.proofs.Names.{times_named_lem}

-- S3 of the name counts, as a plain fact
abbrev pub Counted : List ℕ → List Packet → Type 0
Counted t ps = (i : ℕ) → i < capacity t → word_at t i name_count ≡ times_named ps (suc i)

pub counted_is : (t : List ℕ) (ps : List Packet) → names_counted t ps ≡ true → Counted t ps
unfolding names_counted
counted_is t ps h i l = eqb-true (word_at t i name_count) (times_named ps (suc i)) (every_at (capacity t) (λ j. eqb (word_at t j name_count) (times_named ps (suc j))) h i l)

pub counted_test : (t : List ℕ) (ps : List Packet) → Counted t ps → names_counted t ps ≡ true
unfolding names_counted
counted_test t ps h = every_all (capacity t) (λ i. eqb (word_at t i name_count) (times_named ps (suc i))) (λ i l. eq-eqb (word_at t i name_count) (times_named ps (suc i)) (h i l))

pub sound_counted : (t : List ℕ) (q : Queue) → Sound t q → Counted t (waiting q)
unfolding packets_sound
sound_counted t q s =
    counted_is t (waiting q)
    (and_second (other_slots_zero q && packets_legal t (waiting q) && every (capacity t) (λ i. replays (suc i) (word_at t i root_count) (waiting q)))
    (names_counted t (waiting q)) s.packets)

-- the same starts lead to the same cells
same_starts : (c : ℕ) (start other : ℕ → Bool) (edge : ℕ → ℕ → Bool) → ((i : ℕ) → i < c → start i ≡ true → other i ≡ true) → {i : ℕ}
    → ReachedBy c start edge i → ReachedBy c other edge i
same_starts c start other edge f (begun {i = i} l e) = begun l (f i l e)
same_starts c start other edge f (onward r l e) = onward (same_starts c start other edge f r) l e

module _ (t : List ℕ) (ps : List Packet) (n : Counted t ps) where
  pub protected_is : (i : ℕ) → i < capacity t → is_protected t i ≡ is_named ps (suc i)
  unfolding is_protected
  protected_is i l = ap (ltb 0) (n i l) ∙ times_named_lem ps (suc i)

  pub root_is : (i : ℕ) → i < capacity t → is_root t i ≡ is_root_by_queue t ps i
  unfolding is_root is_root_by_queue
  root_is i l = ap (λ (b : Bool). ltb 0 (word_at t i root_count) || b) (protected_is i l)

  pub by_queue : {i : ℕ} → Reached t i → ReachedByQueue t ps i
  by_queue r = same_starts (capacity t) (is_root t) (is_root_by_queue t ps) (points_to t) (λ i l e. sym (root_is i l) ∙ e) r

  pub by_cell : {i : ℕ} → ReachedByQueue t ps i → Reached t i
  by_cell r = same_starts (capacity t) (is_root_by_queue t ps) (is_root t) (points_to t) (λ i l e. root_is i l ∙ e) r

pub roots_by_cell : AllRootsByCell
roots_by_cell t q s =
    let n = sound_counted t q s in
    record {
      protected = protected_is t (waiting q) n;
      roots = root_is t (waiting q) n;
      reached = λ i. (by_queue t (waiting q) n, by_cell t (waiting q) n);
    }
