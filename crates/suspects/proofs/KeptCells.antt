-- The walk from the supported suspects: what it begins with, and that it stays within the suspects, so that it does not give up.
use mathlib.Core.Path.{◌≡◌, refl, ap, ◌∙◌}
use mathlib.Core.Bool.{true}
use mathlib.Core.List.{List}
use Prim.Native.Nat.{ℕ, ◌≤◌}
use native.Mathlib.Omega.{arith}
use lib.ListN.{length}
use Rattle.std.proofs.Common.{Option, Some, None, is_some}
use Rattle.machine.specs.Range.{select}
use Rattle.machine.specs.Table.{capacity}
use Rattle.machine.specs.Packets.{contains}
use Rattle.machine.specs.Reached.{reached_by}
use Rattle.machine.specs.Suspects.{leads_on}
use Rattle.walks.specs.Walk.{Starts, Walks}
use Rattle.walks.specs.Tally.{Tally}
use Rattle.suspects.specs.Support.{supported, Supports, Countable, Closed, Keeps}
use Rattle.suspects.proofs.Sums.{listed_length, select_fewer}
use Rattle.suspects.proofs.Reaches.{reached_within}
use Rattle.suspects.proofs.Supported.{supported_once, supported_listed}

module _ (t : List ℕ) (y : Tally) (most : ℕ) (h : Closed t y.cells most) where
  abbrev c : ℕ
  c = capacity t

  abbrev starts : List ℕ
  starts = supported t y.cells y.counts (length y.cells)

  listed : (i : ℕ) → contains starts i ≡ true → contains y.cells i ≡ true
  listed = supported_listed t y.cells y.counts

  -- no more cells are kept than suspected
  kept_few : length (select c (reached_by c (contains starts) (leads_on t))) ≤ most
  kept_few = omega (
    arith,
    h.few,
    listed_length c (contains y.cells) y.cells h.below h.once (λ i _. refl),
    select_fewer c (reached_by c (contains starts) (leads_on t)) (contains y.cells)
        (λ i _. reached_within c (contains starts) (leads_on t) (contains y.cells) (λ j _. listed j) h.onward i),
  )

  pub countable : Countable t y.cells
  countable = record { shape = h.shape; listed = omega (arith, h.few, h.within); below = h.below }

  module _ (kept : Tally) (s : Supports t y (length y.cells) kept) where
    pub kept_starts : Starts t kept.cells kept.counts most
    kept_starts = record {
      shape = h.shape;
      few = omega (arith, s.few, h.few);
      within = h.within;
      below = rw s.exact (λ (i : ℕ) (m : contains starts i ≡ true). h.below i (listed i m));
      no_roots = rw s.exact (λ (i : ℕ) (m : contains starts i ≡ true). h.no_roots i (listed i m));
      once = rw s.exact (supported_once t y.cells y.counts h.once);
      uncounted = s.uncounted;
    }

    gives_up : (left : Tally) → Walks t most kept.cells left.cells left.counts None → ⊥
    gives_up left w = omega (arith, rw s.exact at w.gave_up, kept_few)

    pub never_gives_up : (left : Tally) (r : Option (Unit {0})) → Walks t most kept.cells left.cells left.counts r → is_some r ≡ true
    never_gives_up left None w = absurd (gives_up left w)
    never_gives_up left (Some u) w = refl

    pub kept_walked : (left : Tally) (r : Option (Unit {0})) → Walks t most kept.cells left.cells left.counts r → Keeps t y left
    kept_walked left None w = absurd (gives_up left w)
    kept_walked left (Some u) w = record { members = λ i. w.walked.members i ∙ ap (λ (l : List ℕ). reached_by c (contains l) (leads_on t) i) s.exact }
