-- The step's contract, from what its parts do.
use Rattle.std.specs.Prelude.{Ok}
use Rattle.machine.specs.declared.Step.{Step}
use mathlib.Core.Path.{◌≡◌, refl, sym, ap, ◌∙◌}
use mathlib.Core.Logic.{⊎_elim}
use mathlib.Core.List.{List, ◌∷◌}
use Prim.Native.Nat.{ℕ, pred, ◌<◌}
use native.Mathlib.Omega.{arith}
use lib.ListN.{length}
use Rattle.machine.specs.declared.Queue.{Queue}
use Rattle.machine.specs.declared.Refusal.{Refusal}
use Rattle.machine.specs.Table.{capacity, scratch_words}
use Rattle.machine.specs.Queue.{Packet, packets_from, waiting, taken}
use Rattle.machine.specs.Packets.{minus, changes}
use Rattle.machine.specs.Calls.{step, refused, idle, applied, store}
use Rattle.machine.specs.Step.{named, apply_packet, unreached, swept, cleared, outcome, step_with, step_from, stepped}
use Rattle.machine.specs.Questions.{first_no, early}
use Rattle.machine.specs.Answers.{refusal_number, step_reply}
use Rattle.machine.specs.Promise.{Untouched}
use Rattle.machine.specs.Facts.{Lent}
use Rattle.machine.specs.ShortWay.{watched}
use Rattle.machine.specs.Suspects.{local_dead}
use Rattle.machine.proofs.Lists.{Indices}
use Rattle.machine.proofs.Ring.{waiting_taken}
use Rattle.machine.proofs.Scratch.{length_cleared, past_cleared}
use Rattle.machine.proofs.Sweep.{sweeps}
use Rattle.machine.proofs.Answers.{refusal_some}
use Rattle.machine.proofs.Questions.{asked_lent}
use Rattle.machine.proofs.Kept.{Framed, framed_trans}
use Rattle.counts.proofs.Changes.{apply_fits}
use Rattle.collector.specs.declared.Stepped.{Stepped}
use Rattle.collector.specs.Steps.{oldest, Premises, apply_packet_fitting, Frees, Applies, Steps}
use Rattle.collector.proofs.Collected.{unreached_indices, local_indices}
use Rattle.collector.proofs.Applied.{shape_applied, framed_applied}

-- the oldest packet applied, and the cells at the indices dead freed
module _ (t : List ℕ) (q : Queue) (s : List ℕ) (h : Lent t q s) (some : 0 < q.count) where
  abbrev p : Packet
  p = oldest q

  abbrev t₁ : List ℕ
  t₁ = apply_packet_fitting t p

  framed_swept : (dead : List ℕ) → Indices (capacity t₁) dead → Framed t (swept t₁ dead)
  framed_swept dead l =
      let k = shape_applied t p h.shape.table in
      let w = sweeps t₁ dead k.room l in
      framed_trans t t₁ (swept t₁ dead) (framed_applied t p)
      (record { same_length = w.same_length; same_capacity = w.same_capacity; past_cells = w.past_cells })

  oldest_first : waiting q ≡ p ∷ waiting (taken q)
  oldest_first = waiting_taken q (pred q.count) h.shape.queue.place h.shape.queue.count (omega arith)

  -- on a store that meets the premises the packet is applied whole, and the local way tells the dead cells
  whole : Premises t q → t₁ ≡ apply_packet t p
  unfolding apply_packet
  whole m = ap (λ (u : List ℕ). named minus u p) (apply_fits t (changes p) m.fit)

  local_is : Premises t q → local_dead t₁ (watched p) ≡ unreached t₁
  local_is m = rw (whole m) m.local

  stepped_is : stepped (store t q s) ≡ step_with (store t q s) p
  unfolding stepped
  stepped_is = rw oldest_first (unfold step_from in refl)

  exact : Premises t q → (dead : List ℕ) → dead ≡ unreached t₁
      → outcome (applied p.kind (length dead)) (store (swept t₁ dead) (taken q) (cleared (scratch_words (capacity t₁)) s)) ≡ stepped (store t q s)
  exact m dead e = rw (e, whole m, stepped_is) (unfold step_with in refl)

-- what questions 1 and 2 say
module _ (t : List ℕ) (q : Queue) (s : List ℕ) where
  abbrev asks : ℕ
  asks = first_no (early (store t q s) step)

  untouched : (q' : Queue) → Untouched (store t q s) (store t q' s)
  untouched q' = record { same_length = refl; same_capacity = refl; past_cells = refl; scratch_length = refl; past_scratch = refl }

  pub refuses : (x : Refusal) → refusal_number x ≡ asks → (r : Stepped) → step_reply r.answer ≡ refused (refusal_number x) → r.queue ≡ q → Steps t q s r t s
  refuses x a r e f = record {
    asked = λ n g. (e ∙ ap refused (a ∙ g), ap (λ (z : Queue). store t z s) f);
    answered = λ n g. absurd (never g);
    idles = λ g. absurd (never g);
    replies = λ g. absurd (never g);
    takes = λ g. absurd (never g);
    exact = λ g. absurd (never g);
    bounded = untouched r.queue;
  }
    where
      never : asks ≡ 0 → ⊥
      never g = omega (arith, refusal_some x)

  none_waiting : q.count ≡ 0 → stepped (store t q s) ≡ outcome idle (store t q s)
  unfolding stepped waiting packets_from step_from
  none_waiting e = rw e

  pub idles : asks ≡ 0 → q.count ≡ 0 → (r : Stepped) → step_reply r.answer ≡ idle → r.queue ≡ q → Steps t q s r t s
  idles a z r e f = record {
    asked = λ n g. absurd (omega arith);
    answered = λ n g d. let x : ◌≡◌ {A = ℕ} 0 1 = cc in omega arith;
    idles = λ g d. (e, same);
    replies = λ g d. absurd (omega arith);
    takes = λ g d. absurd (omega arith);
    exact = λ g m. rw e (ap (outcome idle) same ∙ sym (none_waiting z));
    bounded = untouched r.queue;
  }
    where
      same : store t r.queue s ≡ store t q s
      same = ap (λ (x : Queue). store t x s) f

  -- the cells at the indices dead are freed, which are the unreached ones where the premises hold
  frees : asks ≡ 0 → 0 < q.count → (dead : List ℕ) → Indices (capacity (apply_packet_fitting t (oldest q))) dead
      → (Premises t q → dead ≡ unreached (apply_packet_fitting t (oldest q)))
      → (r : Stepped) (t' s' : List ℕ) (n : ℕ) → Frees (apply_packet_fitting t (oldest q)) dead s t' s' n
      → r.answer ≡ Ok (Step.Applied (oldest q).kind n) → r.queue ≡ taken q → Steps t q s r t' s'
  frees a some dead l d r t' s' n p e f = record {
    asked = λ m g. absurd (omega arith);
    answered = λ m g d. let x : ◌≡◌ {A = ℕ} 0 1 = cc (ap step_reply e) in omega arith;
    idles = λ g d. absurd (omega arith);
    replies = λ g d. (n, ap step_reply e);
    takes = λ g d. (f, scratch);
    exact = λ g m. rw (p.table, e, p.number, f, p.scratch) (exact t q s h some m dead (d m));
    bounded = rw (p.table, f, scratch) (record {
      same_length = k.same_length;
      same_capacity = k.same_capacity;
      past_cells = k.past_cells;
      scratch_length = length_cleared (scratch_words (capacity t)) s h.scratch;
      past_scratch = past_cleared (scratch_words (capacity t)) s;
    });
  }
    where
      h : Lent t q s
      h = asked_lent t q s a

      k : Framed t (swept (apply_packet_fitting t (oldest q)) dead)
      k = framed_swept t q s h some dead l

      scratch : s' ≡ cleared (scratch_words (capacity t)) s
      scratch = p.scratch ∙ ap (λ (c : ℕ). cleared (scratch_words c) s) (framed_applied t (oldest q)).same_capacity

  pub applies : asks ≡ 0 → 0 < q.count → (r : Stepped) (t' s' : List ℕ) (n : ℕ) → Applies t (oldest q) s t' s' n
      → r.answer ≡ Ok (Step.Applied (oldest q).kind n) → r.queue ≡ taken q → Steps t q s r t' s'
  applies a some r t' s' n p e f =
      let u = apply_packet_fitting t (oldest q) in
      ⊎_elim (λ y. frees a some (unreached u) (unreached_indices u) (λ _. refl) r t' s' n y e f)
      (λ y. frees a some (local_dead u (watched (oldest q))) (local_indices u (watched (oldest q))) (local_is t q s (asked_lent t q s a) some) r t' s' n y e f) p
