-- A variant that applies each packet with the machine's outcome is the machine; so are the right parts.
use mathlib.Core.Path.{◌≡◌, refl, ap}
use mathlib.Core.List.{List, [], ◌∷◌}
use Prim.Native.Nat.{ℕ, zero, suc}
use lib.ListN.{length}
use Rattle.machine.specs.Table.{capacity, scratch_words}
use Rattle.machine.specs.Queue.{Packet, waiting, taken}
use Rattle.machine.specs.Calls.{Call, fresh, row, step, audit, read, write, applied, Store, store}
use Rattle.machine.specs.Step.{apply_packet, unreached, swept, cleared, outcome, step_with, step_from, stepped}
use Rattle.machine.specs.Questions.{first_no, questions}
use Rattle.machine.specs.Machine.{accepted, answered, machine}
use Rattle.soundness.specs.Variants.{applying, right_parts, step_of, accepted_of, answered_of, machine_of}

module _ (f : List ℕ → Packet → List ℕ) (same : (t : List ℕ) (p : Packet) → f t p ≡ apply_packet t p) where
  step_alike : (s : Store) (ps : List Packet) → step_of (applying f) s ps ≡ step_from s ps
  unfolding step_of step_from step_with
  step_alike s [] = refl
  step_alike s (p ∷ ps) =
      ap (λ (t : List ℕ). outcome (applied p.kind (length (unreached t)))
      (store (swept t (unreached t)) (taken s.queue) (cleared (scratch_words (capacity t)) s.scratch))) (same s.table p)

  accepted_alike : (s : Store) (call : Call) → accepted_of (applying f) s call ≡ accepted s call
  unfolding accepted_of accepted stepped
  accepted_alike s (fresh c) = refl
  accepted_alike s (row r) = refl
  accepted_alike s step = step_alike s (waiting s.queue)
  accepted_alike s audit = refl
  accepted_alike s (read text) = refl
  accepted_alike s (write w room) = refl

  pub alike : (s : Store) (call : Call) → machine_of (applying f) s call ≡ machine s call
  unfolding machine_of machine answered_of answered
  alike s call = go (first_no (questions s call))
    where
      go : (n : ℕ) → answered_of (applying f) n s call ≡ answered n s call
      go zero = accepted_alike s call
      go (suc n) = refl

-- a variant differs from the machine in its parts only
pub machine_of_right : (s : Store) (call : Call) → machine_of right_parts s call ≡ machine s call
machine_of_right = alike apply_packet (λ t p. refl)
