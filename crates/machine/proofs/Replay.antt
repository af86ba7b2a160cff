-- S3's replay, cell by cell in the test, is the replay of all cells stage by stage.
use mathlib.Core.Path.{◌≡◌, refl}
use mathlib.Core.Logic.{◌↔◌}
use mathlib.Core.Bool.{true, ◌&&◌}
use mathlib.Core.List.{List, [], ◌∷◌}
use Prim.Native.Nat.{ℕ, suc, ◌<◌}
use lib.Dec.{leb}
use borrow.Author.Tests.{leb-true, le-leb}
use Rattle.machine.specs.Range.{every}
use Rattle.machine.specs.Words.{ceiling}
use Rattle.machine.specs.Queue.{Packet}
use Rattle.machine.specs.Packets.{uses}
use Rattle.machine.specs.Audit.{replayed, replays}
use Rattle.machine.specs.Facts.{replayed_counts, Replay}
use Rattle.machine.proofs.Range.{and_both, and_first, and_second, every_at, every_all}

-- the test at one cell, taken apart
pub replays_uses : (x n : ℕ) (p : Packet) (ps : List Packet) → replays x n (p ∷ ps) ≡ true → leb (uses p x) n ≡ true
unfolding replays
replays_uses x n p ps h = and_first (leb (uses p x) n) (leb (replayed x p n) ceiling) (and_first (leb (uses p x) n && leb (replayed x p n) ceiling) (replays x (replayed x p n) ps) h)

pub replays_bound : (x n : ℕ) (p : Packet) (ps : List Packet) → replays x n (p ∷ ps) ≡ true → leb (replayed x p n) ceiling ≡ true
unfolding replays
replays_bound x n p ps h = and_second (leb (uses p x) n) (leb (replayed x p n) ceiling) (and_first (leb (uses p x) n && leb (replayed x p n) ceiling) (replays x (replayed x p n) ps) h)

pub replays_rest : (x n : ℕ) (p : Packet) (ps : List Packet) → replays x n (p ∷ ps) ≡ true → replays x (replayed x p n) ps ≡ true
unfolding replays
replays_rest x n p ps h = and_second (leb (uses p x) n && leb (replayed x p n) ceiling) (replays x (replayed x p n) ps) h

module _ (c : ℕ) where
  replay_facts : (counts : ℕ → ℕ) (ps : List Packet) → ((i : ℕ) → i < c → replays (suc i) (counts i) ps ≡ true) → Replay c counts ps
  unfolding replayed_counts
  replay_facts counts [] f = tt
  replay_facts counts (p ∷ ps) f = (
    record {
      question6 = λ i l. leb-true (uses p (suc i)) (counts i) (replays_uses (suc i) (counts i) p ps (f i l));
      question9 = λ i l. leb-true (replayed (suc i) p (counts i)) ceiling (replays_bound (suc i) (counts i) p ps (f i l));
    },
    replay_facts (replayed_counts p counts) ps (λ i l. replays_rest (suc i) (counts i) p ps (f i l)),
  )

  replay_test : (counts : ℕ → ℕ) (ps : List Packet) → Replay c counts ps → (i : ℕ) → i < c → replays (suc i) (counts i) ps ≡ true
  unfolding replayed_counts replays
  replay_test counts [] h i l = refl
  replay_test counts (p ∷ ps) h i l =
      and_both (and_both (le-leb (uses p (suc i)) (counts i) (h.0.question6 i l)) (le-leb (replayed (suc i) p (counts i)) ceiling (h.0.question9 i l)))
      (replay_test (replayed_counts p counts) ps h.1 i l)

  -- S3's meaning
  pub replay_is : (counts : ℕ → ℕ) (ps : List Packet) → (every c (λ i. replays (suc i) (counts i) ps) ≡ true) ↔ Replay c counts ps
  replay_is counts ps = (
    λ h. replay_facts counts ps (every_at c (λ i. replays (suc i) (counts i) ps) h),
    λ h. every_all c (λ i. replays (suc i) (counts i) ps) (replay_test counts ps h),
  )
