-- What `collector` proves of a step is the promise: a sound store meets its premises.
use mathlib.Core.Path.{◌≡◌, refl, ap, ◌∙◌}
use mathlib.Core.Logic.{⊎_elim}
use mathlib.Core.Bool.{true}
use mathlib.Core.List.{List, [], ◌∷◌, append-nil}
use Prim.Native.Nat.{ℕ, zero, suc, pred, ◌≤◌, ◌<◌}
use native.Mathlib.Omega.{arith}
use lib.ListN.{length, take}
use Rattle.machine.specs.declared.Queue.{Queue}
use Rattle.machine.specs.Words.{is_cell}
use Rattle.machine.specs.Table.{capacity, table_length, word_at}
use Rattle.machine.specs.Queue.{packets_from, waiting, taken}
use Rattle.machine.specs.Packets.{Counter, Change, changes}
use Rattle.machine.specs.Calls.{step, idle, Store, store}
use Rattle.machine.specs.Step.{counter_word, shifted, move_count, apply_changes, Outcome, outcome, step_from, stepped}
use Rattle.machine.specs.Stages.{stage}
use Rattle.machine.specs.Questions.{first_no, early, late, questions}
use Rattle.machine.specs.Audit.{Sound}
use Rattle.machine.specs.Machine.{accepted, machine}
use Rattle.machine.specs.Answers.{step_reply}
use Rattle.machine.specs.Promise.{Decided, Promise}
use Rattle.machine.proofs.Range.{matching_same, lt_or_ge}
use Rattle.machine.proofs.Words.{cell_index, cell_number_lem}
use Rattle.machine.proofs.Moves.{length_move, capacity_move, count_move}
use Rattle.machine.proofs.Ring.{waiting_taken}
use Rattle.machine.proofs.Questions.{shape_is}
use Rattle.machine.proofs.Kept.{machine_accepted, machine_refused}
use Rattle.soundness.proofs.Untrimmed.{untrimmed}
use Rattle.soundness.proofs.LocalWay.{local_way}
use Rattle.collector.specs.declared.Stepped.{Stepped}
use Rattle.counts.specs.Changes.{ChangesFit}
use Rattle.collector.specs.Steps.{oldest, Premises, Steps}

-- a table whose counts stand within a word after each of the changes fits them
stages_fit : (t : List ℕ) (hs : List Change) → table_length (capacity t) ≤ length t
    → ((n : ℕ) (k : Counter) (i : ℕ) → i < capacity t → word_at (apply_changes t (take n hs)) i (counter_word k) < 65536) → ChangesFit t hs
unfolding apply_changes
stages_fit t [] f a = tt
stages_fit t (h ∷ hs) f a = (here, stages_fit u hs (rw (same, length_move t h.counter h.word h.direction h.amount) f) rest)
  where
    u : List ℕ
    u = move_count t h.counter h.word h.direction h.amount

    same : capacity u ≡ capacity t
    same = capacity_move t h.counter h.word h.direction h.amount

    rest : (n : ℕ) (k : Counter) (i : ℕ) → i < capacity u → word_at (apply_changes u (take n hs)) i (counter_word k) < 65536
    rest n k i l = a (suc n) k i (rw same at l)

    here : is_cell (capacity t) h.word ≡ true → shifted h.direction (word_at t (pred h.word) (counter_word h.counter)) h.amount < 65536
    here c =
        let l = cell_index (capacity t) h.word c in
        let e = count_move t h.counter h.word h.direction h.amount f (pred h.word) l in
        let m = matching_same h.word (suc (pred h.word)) h.amount (cell_number_lem (capacity t) h.word c) in
        rw (e ∙ ap (shifted h.direction (word_at t (pred h.word) (counter_word h.counter))) m) at (a 1 h.counter (pred h.word) l)

-- a sound store with a packet waiting meets the step's premises
premises : (t : List ℕ) (q : Queue) → Sound t q → 0 < q.count → Premises t q
premises t q s l =
    let shape = shape_is t q s.shape in
    let first = waiting_taken q (pred q.count) shape.queue.place shape.queue.count (omega arith) in
    record {
      fit = stages_fit t (changes (oldest q)) shape.table.room
          (λ n k i m. unfold stage in omega (arith, (untrimmed t q (oldest q) (waiting (taken q)) s first).passing n k i m));
      local = local_way t q (oldest q) (waiting (taken q)) s first;
    }

idle_is : (t : List ℕ) (q : Queue) (s : List ℕ) → q.count ≡ 0 → stepped (store t q s) ≡ outcome idle (store t q s)
unfolding stepped step_from waiting packets_from
idle_is t q s z = rw z

module _ (t : List ℕ) (q : Queue) (s : List ℕ) (r : Stepped) (t' s' : List ℕ) (h : Steps t q s r t' s') where
  abbrev before : Store
  before = store t q s

  abbrev after : Store
  after = store t' r.queue s'

  all_early : first_no (questions before step) ≡ first_no (early before step)
  unfolding questions late
  all_early = ap first_no (append-nil (early before step))

  step_exact : Decided before step → (step_reply r.answer ≡ (machine before step).reply) × (after ≡ (machine before step).after)
  unfolding accepted
  step_exact d = go (first_no (early before step)) refl
    where
      Same : Type 0
      Same = (step_reply r.answer ≡ (stepped before).reply) × (after ≡ (stepped before).after)

      idles : first_no (early before step) ≡ 0 → q.count ≡ 0 → Same
      idles e z = rw (idle_is t q s z) (h.idles e z)

      applies : first_no (early before step) ≡ 0 → Sound t q → Same
      applies e k =
          ⊎_elim (λ l. let o = h.exact e (premises t q k l) in (ap (λ (x : Outcome). x.reply) o, ap (λ (x : Outcome). x.after) o))
          (λ z. idles e (omega arith)) (lt_or_ge 0 q.count)

      go : (n : ℕ) → first_no (early before step) ≡ n → (step_reply r.answer ≡ (machine before step).reply) × (after ≡ (machine before step).after)
      go zero e = rw (machine_accepted before step (all_early ∙ e)) (⊎_elim (applies e) (idles e) d)
      go (suc n) e = rw (machine_refused before step n (all_early ∙ e)) (h.asked n e)

  pub step_promise : Promise before step (step_reply r.answer) after
  step_promise = record {
    asked = h.asked;
    refusal = λ n e k. absurd (h.answered n e k);
    exact = step_exact;
    bounded = h.bounded;
  }
