-- S3's replay when a packet joins: the number that a cell's root count comes to is its held count.
use mathlib.Core.Path.{◌≡◌, refl}
use mathlib.Core.Logic.{◌⊎◌, ⊎_elim}
use mathlib.Core.Bool.{true, false}
use mathlib.Core.List.{List, [], ◌∷◌, ◌++◌}
use Prim.Native.Nat.{ℕ, ◌+◌, ◌≤◌}
use native.Mathlib.Omega.{arith}
use borrow.Author.Tests.{leb-true, le-leb}
use Rattle.machine.specs.Words.{ceiling}
use Rattle.machine.specs.Queue.{Packet}
use Rattle.machine.specs.Packets.{root, plus, minus, uses, waiting_change, is_named}
use Rattle.machine.specs.Audit.{replayed, replays}
use Rattle.machine.proofs.Range.{and_both}
use Rattle.machine.proofs.Replay.{replays_uses, replays_bound, replays_rest}
use Rattle.machine.proofs.Lists.{waiting_snoc}
use Rattle.soundness.proofs.PacketKinds.{moves, lowers_uses, unnamed, unnamed_first, unnamed_rest}

-- what a root count comes to
unfoldable pub final : ℕ → ℕ → List Packet → ℕ
final x n [] = n
final x n (p ∷ ps) = final x (replayed x p n) ps

-- no floor is met in a replay
pub replayed_sum : (x n : ℕ) (p : Packet) → uses p x ≤ n → n + moves root plus p x ≡ replayed x p n + moves root minus p x
unfolding replayed
replayed_sum x n p h = omega (arith, lowers_uses p x)

pub final_sum : (x n : ℕ) (ps : List Packet) → replays x n ps ≡ true → n + waiting_change root plus x ps ≡ final x n ps + waiting_change root minus x ps
unfolding final waiting_change
final_sum x n [] h = refl
final_sum x n (p ∷ ps) h =
    omega (
      arith,
      replayed_sum x n p (leb-true (uses p x) n (replays_uses x n p ps h)),
      final_sum x (replayed x p n) ps (replays_rest x n p ps h),
    )

-- and it stays within the ceiling
pub final_most : (x n : ℕ) (ps : List Packet) → n ≤ ceiling → replays x n ps ≡ true → final x n ps ≤ ceiling
unfolding final
final_most x n [] l h = l
final_most x n (p ∷ ps) l h = final_most x (replayed x p n) ps (leb-true (replayed x p n) ceiling (replays_bound x n p ps h)) (replays_rest x n p ps h)

replays_cons : (x n : ℕ) (p : Packet) (ps : List Packet) → uses p x ≤ n → replayed x p n ≤ ceiling → replays x (replayed x p n) ps ≡ true
    → replays x n (p ∷ ps) ≡ true
unfolding replays
replays_cons x n p ps h g r = and_both (and_both (le-leb (uses p x) n h) (le-leb (replayed x p n) ceiling g)) r

replay_snoc : (x n : ℕ) (ps : List Packet) (p : Packet) → replays x n ps ≡ true → uses p x ≤ final x n ps → replayed x p (final x n ps) ≤ ceiling
    → replays x n (ps ++ (p ∷ [])) ≡ true
unfolding final
replay_snoc x n [] p h u b = replays_cons x n p [] u b (unfold replays in refl)
replay_snoc x n (q ∷ ps) p h u b =
    replays_cons x n q (ps ++ (p ∷ [])) (leb-true (uses q x) n (replays_uses x n q ps h)) (leb-true (replayed x q n) ceiling (replays_bound x n q ps h))
    (replay_snoc x (replayed x q n) ps p (replays_rest x n q ps h) u b)

-- questions 6 and 9 at x let the packet of a call join
pub replay_append : (x n : ℕ) (ps : List Packet) (p : Packet) → replays x n ps ≡ true
    → (uses p x ≡ 0) ⊎ (waiting_change root minus x ps + uses p x ≤ n + waiting_change root plus x ps)
    → n + waiting_change root plus x (ps ++ (p ∷ [])) ≤ ceiling + waiting_change root minus x (ps ++ (p ∷ []))
    → replays x n (ps ++ (p ∷ [])) ≡ true
replay_append x n ps p h u b =
    let s = final_sum x n ps h in
    let enough : uses p x ≤ final x n ps = ⊎_elim (λ e. omega arith) (λ e. omega arith) u in
    let r = replayed_sum x (final x n ps) p enough in
    replay_snoc x n ps p h enough (omega (arith, waiting_snoc root plus x ps p, waiting_snoc root minus x ps p))

-- a number that no packet names stays what it is
pub replays_unnamed : (x n : ℕ) (ps : List Packet) → is_named ps x ≡ false → n ≤ ceiling → replays x n ps ≡ true
replays_unnamed x n [] h l = unfold replays in refl
replays_unnamed x n (p ∷ ps) h l =
    let u = unnamed p x (unnamed_first p ps x h) in
    let e : replayed x p n ≡ n = unfold replayed in omega (arith, u.still root plus, u.still root minus) in
    replays_cons x n p ps (omega (arith, u.unused)) (omega arith) (rw e (replays_unnamed x n ps (unnamed_rest p ps x h) l))
