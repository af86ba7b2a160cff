-- One packet's changes, by its kind; and the sums over packets, one packet at a time.
use mathlib.Core.Path.{◌≡◌, refl, sym, ap, ◌∙◌}
use mathlib.Core.Bool.{Bool, true, false, cond}
use Prim.Native.Nat.{ℕ, zero, ◌+◌, ◌%◌, ◌≤◌}
use native.Mathlib.Omega.{arith}
use native.Mathlib.Numerals.{add-one}
use Rattle.machine.specs.declared.Queue.{Queue}
use Rattle.machine.specs.Queue.{Packet, slots, slot, packets_from}
use Rattle.machine.specs.Packets.{Counter, root, cell, Direction, plus, minus, Kind, reads, makes, replaces, raises, lowers, unknown, kind_of, changes_of, changes, moved_by, waiting_change}
use Rattle.machine.proofs.Range.{matching_other}
use Rattle.machine.proofs.Ring.{packets_snoc}
use Rattle.machine.proofs.Lists.{waiting_snoc}
use Rattle.machine.specs.Words.{largest_word}
use Rattle.queue.specs.declared.Sums.{Sums}
use Rattle.queue.specs.Sums.{CounterSums, SumsOf, AtMost, CounterAdded, Added}

-- one packet's changes of the counter c, by its kind
abbrev Moved : Counter → Kind → ℕ → ℕ → ℕ → ℕ → ℕ → ℕ → ℕ → Type 0
Moved c k a b x r l r' l' = (r' ≡ r + moved_by c plus x (changes_of k a b)) × (l' ≡ l + moved_by c minus x (changes_of k a b))

abbrev Small : Counter → Kind → ℕ → ℕ → ℕ → Type 0
Small c k a b x = (moved_by c plus x (changes_of k a b) ≤ largest_word) × (moved_by c minus x (changes_of k a b) ≤ largest_word)

module _ (c : Counter) (a b x : ℕ) (k : Kind) (r l r' l' : ℕ) (m : Moved c k a b x r l r' l') where
  counter_added : (kind : ℕ) → k ≡ kind_of kind → CounterAdded c kind a b x r l r' l'
  counter_added kind e = record { raised = rw (← e) m.0; lowered = rw (← e) m.1 }

  counter_few : Small c k a b x → (n : ℕ) → AtMost n r l → AtMost (n + 1) r' l'
  counter_few f n h = record { raised = omega (arith, m.0, f.0, h.raised); lowered = omega (arith, m.1, f.1, h.lowered) }

module _ (s s' : Sums) (kind a b x : ℕ) (k : Kind) where
  abbrev HeldMoved : Type 0
  HeldMoved = Moved root k a b x s.held.raised s.held.lowered s'.held.raised s'.held.lowered

  abbrev PointersMoved : Type 0
  PointersMoved = Moved cell k a b x s.pointers.raised s.pointers.lowered s'.pointers.raised s'.pointers.lowered

  pub added : k ≡ kind_of kind → HeldMoved → PointersMoved → Small root k a b x → Small cell k a b x → Added s kind a b x s'
  added e h p f g = record {
    held = counter_added root a b x k s.held.raised s.held.lowered s'.held.raised s'.held.lowered h kind e;
    pointers = counter_added cell a b x k s.pointers.raised s.pointers.lowered s'.pointers.raised s'.pointers.lowered p kind e;
    few = λ n t. record {
      held = counter_few root a b x k s.held.raised s.held.lowered s'.held.raised s'.held.lowered h f n t.held;
      pointers = counter_few cell a b x k s.pointers.raised s.pointers.lowered s'.pointers.raised s'.pointers.lowered p g n t.pointers;
    };
  }

-- a packet that has x neither in a nor in b changes no count of it
cond_zero : (t : Bool) → ◌≡◌ {A = ℕ} (cond t 0 0) 0
cond_zero true = refl
cond_zero false = refl

module _ (a b x : ℕ) (da : a ≡ x → ⊥) (db : b ≡ x → ⊥) where
  none_moved : (k : Kind) (c : Counter) (d : Direction) → moved_by c d x (changes_of k a b) ≡ 0
  unfolding moved_by changes_of
  none_moved reads c d = simp (matching_other a x 1 da, matching_other b x 1 db, cond_zero)
  none_moved makes c d = simp (matching_other a x 1 da, matching_other b x 1 db, cond_zero)
  none_moved (replaces field) c d = simp (matching_other a x 1 da, matching_other b x 1 db, cond_zero)
  none_moved raises c d = simp (matching_other a x b da, cond_zero)
  none_moved lowers c d = simp (matching_other a x b da, cond_zero)
  none_moved unknown c d = refl

  pub none_added : (s : Sums) (kind : ℕ) → Added s kind a b x s
  none_added s kind =
      let none = none_moved (kind_of kind) in
      let held-raised = none root plus in
      let held-lowered = none root minus in
      let raised = none cell plus in
      let lowered = none cell minus in
      added s s kind a b x (kind_of kind) refl (omega arith, omega arith) (omega arith, omega arith) (omega arith, omega arith) (omega arith, omega arith)

-- no packets, and one packet more
pub sums_none : (q : Queue) (j x : ℕ) (s : Sums) → s.held.raised ≡ 0 → s.held.lowered ≡ 0 → s.pointers.raised ≡ 0 → s.pointers.lowered ≡ 0 → SumsOf (packets_from q j zero) x s
unfolding packets_from waiting_change
sums_none q j x s d e f g = record { held = record { raised = d; lowered = e }; pointers = record { raised = f; lowered = g } }

module _ (q : Queue) (j n x : ℕ) where
  abbrev newest : Packet
  newest = slot q ((j + n) % slots)

  step : (k : Counter) (o : Direction) → waiting_change k o x (packets_from q j (n + 1)) ≡ waiting_change k o x (packets_from q j n) + moved_by k o x (changes newest)
  step k o = ap (waiting_change k o x) (ap (packets_from q j) (add-one n) ∙ packets_snoc q j n) ∙ waiting_snoc k o x (packets_from q j n) newest

  counter_more : (k : Counter) (r l r' l' : ℕ) → CounterSums k (packets_from q j n) x r l
      → CounterAdded k newest.kind newest.a newest.b x r l r' l' → CounterSums k (packets_from q j (n + 1)) x r' l'
  unfolding changes
  counter_more k r l r' l' h d = record {
    raised = d.raised ∙ ap (◌+ moved_by k plus x (changes newest)) h.raised ∙ sym (step k plus);
    lowered = d.lowered ∙ ap (◌+ moved_by k minus x (changes newest)) h.lowered ∙ sym (step k minus);
  }

  pub sums_more : (s s' : Sums) → SumsOf (packets_from q j n) x s → Added s newest.kind newest.a newest.b x s' → SumsOf (packets_from q j (n + 1)) x s'
  sums_more s s' h d = record {
    held = counter_more root s.held.raised s.held.lowered s'.held.raised s'.held.lowered h.held d.held;
    pointers = counter_more cell s.pointers.raised s.pointers.lowered s'.pointers.raised s'.pointers.lowered h.pointers d.pointers;
  }
