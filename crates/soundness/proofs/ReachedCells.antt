-- Cells that are held, named or reached are in use; and what is reached stays so.
use mathlib.Core.Path.{◌≡◌}
use mathlib.Core.Logic.{◌⊎◌, inl, inr, ⊎_elim}
use mathlib.Core.Bool.{true}
use mathlib.Core.List.{List, [], ◌∷◌, ◌++◌}
use Prim.Native.Nat.{ℕ, zero, suc, ◌+◌, ◌≤◌, ◌<◌}
use native.Mathlib.Omega.{arith}
use lib.Dec.{eqb, ltb}
use borrow.Author.Tests.{eqb-true, ltb-true, lt-ltb, eq-eqb}
use Rattle.machine.specs.Table.{left, right, root_count, capacity, word_at, in_use}
use Rattle.machine.specs.Queue.{Packet}
use Rattle.machine.specs.Packets.{root, plus, names, waiting_change, contains, is_named}
use Rattle.machine.specs.Reached.{is_root_by_queue, points_to, begun, onward, ReachedByQueue}
use Rattle.machine.proofs.Range.{tested, or_true, or_left, or_right}
use Rattle.soundness.proofs.PacketKinds.{unnamed_waiting, named_snoc}
use Rattle.soundness.proofs.Facts.{Facts, held_used, named_used}

-- a pointer is a field that holds a cell's number
pub points_by : (t : List ℕ) (j i k : ℕ) → k ≤ right → word_at t j k ≡ suc i → points_to t j i ≡ true
unfolding points_to
points_by t j i zero l e = or_left (eqb (word_at t j right) (suc i)) (eq-eqb (word_at t j left) (suc i) e)
points_by t j i (suc zero) l e = or_right (eqb (word_at t j left) (suc i)) (eq-eqb (word_at t j right) (suc i) e)
points_by t j i (suc (suc k)) l e = absurd (omega arith)

pub points_cases : (t : List ℕ) (j i : ℕ) → points_to t j i ≡ true → (k : ℕ) × (k ≤ right) × (word_at t j k ≡ suc i)
unfolding points_to
points_cases t j i h =
    ⊎_elim (λ e. (left, omega arith, eqb-true (word_at t j left) (suc i) e)) (λ e. (right, omega arith, eqb-true (word_at t j right) (suc i) e))
    (or_true (eqb (word_at t j left) (suc i)) (eqb (word_at t j right) (suc i)) h)

-- a cell that is held, by its root count or by a waiting change, is in use
module _ (t : List ℕ) (ps : List Packet) (f : Facts t ps) where
  pub counted_used : (i : ℕ) → i < capacity t → 1 ≤ word_at t i root_count + waiting_change root plus (suc i) ps → in_use t i ≡ true
  counted_used i l h =
      ⊎_elim (λ n. named_used t ps f i l n) (λ n. held_used t ps f i l (omega (arith, unnamed_waiting ps (suc i) n root plus))) (tested (is_named ps (suc i)))

  root_cases : (i : ℕ) → i < capacity t → is_root_by_queue t ps i ≡ true → in_use t i ≡ true
  unfolding is_root_by_queue
  root_cases i l h =
      ⊎_elim (λ e. held_used t ps f i l (ltb-true 0 (word_at t i root_count) e)) (λ e. named_used t ps f i l e)
      (or_true (ltb 0 (word_at t i root_count)) (is_named ps (suc i)) h)

  -- a cell in a field of a cell in use is in use
  pub pointed_used : (j i : ℕ) → j < capacity t → i < capacity t → in_use t j ≡ true → points_to t j i ≡ true → in_use t i ≡ true
  unfolding points_to
  pointed_used j i m l u h =
      ⊎_elim (λ e. (f.fields j left m (omega arith) u).used i l (eqb-true (word_at t j left) (suc i) e))
      (λ e. (f.fields j right m (omega arith) u).used i l (eqb-true (word_at t j right) (suc i) e))
      (or_true (eqb (word_at t j left) (suc i)) (eqb (word_at t j right) (suc i)) h)

  pub reached_used : {i : ℕ} → ReachedByQueue t ps i → (i < capacity t) × (in_use t i ≡ true)
  reached_used (begun {i = i} l h) = (l, root_cases i l h)
  reached_used (onward {j = j} {i = i} r l h) = let w = reached_used r in (l, pointed_used j i w.0 l w.1 h)

-- what is reached stays so where roots stay roots, and each pointer out of a reached cell stands or leads to a root
pub reached_grows : (t u : List ℕ) (ps qs : List Packet) → capacity u ≡ capacity t
    → ((i : ℕ) → i < capacity t → is_root_by_queue t ps i ≡ true → is_root_by_queue u qs i ≡ true)
    → ((j i : ℕ) → ReachedByQueue t ps j → i < capacity t → points_to t j i ≡ true → (points_to u j i ≡ true) ⊎ (is_root_by_queue u qs i ≡ true))
    → {i : ℕ} → ReachedByQueue t ps i → ReachedByQueue u qs i
reached_grows t u ps qs c roots edges (begun {i = i} l h) = let m : i < capacity u = rw c l in begun m (roots i l h)
reached_grows t u ps qs c roots edges (onward {j = j} {i = i} r l h) =
    let m : i < capacity u = rw c l in
    ⊎_elim (λ e. onward (reached_grows t u ps qs c roots edges r) m e) (λ e. begun m e) (edges j i r l h)

-- a root stays one when a packet joins and its root count does not fall to 0
pub root_stays : (t u : List ℕ) (ps : List Packet) (p : Packet) (i : ℕ) → (0 < word_at t i root_count → 0 < word_at u i root_count) → is_root_by_queue t ps i ≡ true
    → is_root_by_queue u (ps ++ (p ∷ [])) i ≡ true
unfolding is_root_by_queue
root_stays t u ps p i g h =
    ⊎_elim (λ e. or_left (is_named (ps ++ (p ∷ [])) (suc i)) (lt-ltb 0 (word_at u i root_count) (g (ltb-true 0 (word_at t i root_count) e))))
    (λ e. or_right (ltb 0 (word_at u i root_count)) (named_snoc ps p (suc i) (inl e))) (or_true (ltb 0 (word_at t i root_count)) (is_named ps (suc i)) h)

-- what the joining packet names is a root
pub root_named : (u : List ℕ) (ps : List Packet) (p : Packet) (i : ℕ) → contains (names p) (suc i) ≡ true → is_root_by_queue u (ps ++ (p ∷ [])) i ≡ true
unfolding is_root_by_queue
root_named u ps p i h = or_right (ltb 0 (word_at u i root_count)) (named_snoc ps p (suc i) (inr h))
