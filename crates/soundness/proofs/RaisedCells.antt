-- On a sound store questions 9 and 10 need be asked only of the cells that a call raises, and by counts alone.
use mathlib.Core.Path.{◌≡◌, refl}
use mathlib.Core.Logic.{◌⊎◌, inl, inr, ⊎_elim, ◌↔◌}
use mathlib.Core.Bool.{true, false}
use mathlib.Core.List.{List, [], ◌∷◌, ◌++◌}
use Prim.Native.Nat.{ℕ, zero, suc, ◌+◌, ◌≤◌, ◌<◌}
use native.Mathlib.Omega.{arith}
use Rattle.machine.specs.declared.Queue.{Queue}
use Rattle.machine.specs.Words.{ceiling}
use Rattle.machine.specs.Table.{root_count, capacity, word_at, in_use}
use Rattle.machine.specs.Queue.{Arrays, Packet, slots, appended, waiting}
use Rattle.machine.specs.Packets.{Counter, root, cell, plus, minus, waiting_change}
use Rattle.machine.specs.Counts.{pointers}
use Rattle.machine.specs.Calls.{RowCall, packet_of, written}
use Rattle.machine.specs.Step.{counter_word}
use Rattle.machine.specs.Questions.{held_within, pointers_within, early_row, ask_free}
use Rattle.machine.specs.Audit.{Sound}
use Rattle.machine.proofs.Ring.{waiting_appended}
use Rattle.machine.proofs.Undo.{within_is}
use Rattle.machine.proofs.Questions.{AllYes}
use Rattle.machine.proofs.Lists.{waiting_snoc}
use Rattle.soundness.proofs.PacketKinds.{moves, unnamed_waiting}
use Rattle.soundness.proofs.Facts.{Facts, sound_facts, free_unnamed}
use Rattle.soundness.proofs.NewPacket.{HeldFor, Wrote, wrote_pointers}
use Rattle.soundness.proofs.RowQuestions.{most_test, most_all}
use Rattle.soundness.proofs.RowWrites.{row_wrote, row_root}
use Rattle.soundness.proofs.CodeTests.{pointers_counted, held_most, pointers_most}

-- a count with all its waiting changes and those of the packet p, against the ceiling
abbrev pub Fits : Counter → ℕ → ℕ → List Packet → Packet → Type 0
Fits k n x ps p = n + waiting_change k plus x ps + moves k plus p x ≤ ceiling + waiting_change k minus x ps + moves k minus p x

some_or_none : (n : ℕ) → (0 < n) ⊎ (n ≡ 0)
some_or_none zero = inr refl
some_or_none (suc n) = inl (omega arith)

module _ (t : List ℕ) (q : Queue) (s : Sound t q) (r : RowCall) (early : AllYes (early_row t r)) (held : HeldFor t (waiting q) (packet_of t r))
    (free : AllYes (ask_free t r)) where
  abbrev p : Packet
  p = packet_of t r

  abbrev ps : List Packet
  ps = waiting q

  abbrev u : List ℕ
  u = written t r

  f : Facts t ps
  f = sound_facts t q s

  wrote : Wrote t u p
  wrote = row_wrote t ps f r early held free

  -- each cell that the call raises stays within the ceiling
  abbrev Raises : Counter → ℕ → Type 0
  Raises k i = 0 < moves k plus p (suc i) → Fits k (word_at t i (counter_word k)) (suc i) ps p

  pub question10 : (pointers_within u ≡ true) ↔ ((i : ℕ) → i < capacity t → Raises cell i)
  question10 = (
    λ h i l _. omega (arith, (within_is u).0 h i (rw wrote.same_capacity l), wrote_pointers t u p wrote i, pointers_counted t q s i l),
    λ g. (within_is u).1 (λ i l. let m : i < capacity t = rw wrote.same_capacity at l in each i m (g i m)),
  )
    where
      each : (i : ℕ) → i < capacity t → Raises cell i → pointers u (suc i) ≤ ceiling
      each i l g =
          let w = wrote_pointers t u p wrote i in
          ⊎_elim (λ z. let h = g z in omega (arith, pointers_counted t q s i l)) (λ z. omega (arith, pointers_most t q s i l))
          (some_or_none (moves cell plus p (suc i)))

  -- the held count after the call
  abbrev AtMost : ℕ → Type 0
  AtMost i = word_at u i root_count + waiting_change root plus (suc i) (ps ++ (p ∷ [])) ≤ ceiling + waiting_change root minus (suc i) (ps ++ (p ∷ []))

  raised_root : (i : ℕ) → i < capacity t → AtMost i → Raises root i
  raised_root i l h z =
      ⊎_elim (λ e. omega (arith, waiting_snoc root plus (suc i) ps p, waiting_snoc root minus (suc i) ps p)) (λ e. absurd (omega (arith, e.2)))
      (row_root t ps f r free i l)

  -- a root count is as it was, but for cons's new cell, which was free
  root_raised : (i : ℕ) → i < capacity t → Raises root i → AtMost i
  root_raised i l g = ⊎_elim stands new (row_root t ps f r free i l)
    where
      stands : word_at u i root_count ≡ word_at t i root_count → AtMost i
      stands e =
          let m = held_most t q s i l in
          let a = waiting_snoc root plus (suc i) ps p in
          let b = waiting_snoc root minus (suc i) ps p in
          ⊎_elim (λ z. let h = g z in omega arith) (λ z. omega arith) (some_or_none (moves root plus p (suc i)))

      new : (word_at u i root_count ≡ 1) × (in_use t i ≡ false) × (moves root plus p (suc i) ≡ 0) → AtMost i
      new e = omega (arith, e.0, e.2, waiting_snoc root plus (suc i) ps p, unnamed_waiting ps (suc i) (free_unnamed t ps f i l e.1) root plus)

  pub question9 : Arrays q → q.count < slots → (held_within u (waiting (appended q p)) ≡ true) ↔ ((i : ℕ) → i < capacity t → Raises root i)
  question9 a c = rw (waiting_appended q p a c) (
    λ h i l. raised_root i l (most_test u (ps ++ (p ∷ [])) h i (rw wrote.same_capacity l)),
    λ g. most_all u (ps ++ (p ∷ [])) (λ i l. let m : i < capacity t = rw wrote.same_capacity at l in root_raised i m (g i m)),
  )
