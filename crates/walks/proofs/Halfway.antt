-- The loop of a walk: its invariant, one turn, and both ends.
use mathlib.Core.Path.{sym, ◌∙◌}
use mathlib.Core.List.{List, []}
use Prim.Native.Nat.{ℕ, suc, ◌+◌, ◌≤◌, ◌<◌}
use native.Mathlib.Numerals.{add-one}
use native.Mathlib.Omega.{arith}
use lib.ListN.{length, get_or, take, length-take}
use lib.Seq.{take_all}
use Rattle.std.proofs.Common.{refl, Some, None}
use Rattle.machine.specs.Reached.{begun}
use Rattle.machine.specs.Facts.{pointers_out}
use Rattle.walks.specs.Walk.{most_walked, Starts, Walks}
use Rattle.walks.specs.Tally.{Tally, followed, Ready, Holds, Followable}
use Rattle.walks.proofs.Places.{contains_at}
use Rattle.walks.proofs.Pointers.{out_none, out_most, map_most, map_zero}
use Rattle.walks.proofs.Walking.{Walking, got_below, followed_longer, walking_followed, few_reached, walked}

-- i cells are followed
pub record Halfway (t starts : List ℕ) (most i : ℕ) (y : Tally) : Type 0 where
  pub ready : Ready most 2 y
  pub passed : i ≤ length y.cells
  pub walking : Walking t starts (pointers_out t (take i y.cells)) y

-- two pointers from each of at most 64 cells
small_counts : (t starts : List ℕ) (i : ℕ) (y : Tally) → length y.cells ≤ most_walked → Walking t starts (pointers_out t (take i y.cells)) y
    → (k : ℕ) → get_or y.counts k 0 ≤ 128
small_counts t starts i y l h k =
    rw h.counts (map_most (λ x. pointers_out t (take i y.cells) (suc x)) 128 most y.cells k)
  where
    most : (x : ℕ) → pointers_out t (take i y.cells) (suc x) ≤ 128
    most x = omega (arith, out_most t (take i y.cells) (suc x), length-take i y.cells)

pub halfway_start : (t : List ℕ) (y : Tally) (most : ℕ) → Starts t y.cells y.counts most → Halfway t y.cells most 0 y
halfway_start t y most s = record {
  ready = record {
    few = s.few;
    within = s.within;
    small = λ k. omega (arith, small_counts t y.cells 0 y (omega (arith, s.few, s.within)) begins k);
  };
  passed = omega arith;
  walking = begins;
}
  where
    begins : Walking t y.cells (pointers_out t (take 0 y.cells)) y
    begins = record {
      no_roots = s.no_roots;
      once = s.once;
      started = λ i m. m;
      earned = λ i m. begun (s.below i m) m;
      entered = λ i l r g. absurd (omega (arith, out_none t (suc i)));
      counts = s.uncounted ∙ sym (map_zero (λ i. pointers_out t [] (suc i)) (λ i. out_none t (suc i)) y.cells);
    }

module _ (t starts : List ℕ) (most i : ℕ) (y : Tally) (h : Halfway t starts most i y) where
  -- all are followed
  pub halfway_done : length y.cells ≤ i → Walks t most starts y.cells y.counts (Some tt)
  halfway_done l = record {
    few = h.ready.few;
    walked = walked t starts y (rw (take_all i y.cells (omega arith)) at h.walking);
    gave_up = tt;
  }

  module _ (l : i < length y.cells) where
    pub to_follow : Followable t most i y
    to_follow = record {
      ready = h.ready;
      inside = l;
      below = got_below t starts (h.walking.earned (get_or y.cells i 0) (contains_at y.cells i (get_or y.cells i 0) l refl));
    }

    next : Walking t starts (pointers_out t (take (suc i) (followed t i y).cells)) (followed t i y)
    next = walking_followed t starts i y h.walking l

    module _ (u : Tally) where
      pub halfway_more : Holds most (followed t i y) u (Some tt) → Halfway t starts most (i + 1) u
      halfway_more p = rw p.same (record {
        ready = record {
          few = p.few;
          within = h.ready.within;
          small = λ k. omega (arith, small_counts t starts (suc i) (followed t i y) (omega (arith, p.few, h.ready.within)) next k);
        };
        passed = omega (arith, followed_longer t starts i y h.walking l);
        walking = rw (add-one i) next;
      })

      pub halfway_up : Holds most (followed t i y) u None → Walks t most starts u.cells u.counts None
      halfway_up p = record {
        few = tt;
        walked = tt;
        gave_up = omega (arith, p.gave_up, few_reached t starts (pointers_out t (take (suc i) (followed t i y).cells)) (followed t i y) next);
      }
