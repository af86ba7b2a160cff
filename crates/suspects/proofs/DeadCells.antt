-- From the walk that starts at the lost cell to the dead cells.
use mathlib.Core.Path.{◌≡◌, refl, sym, ap, ap₂, ◌∙◌}
use mathlib.Core.Bool.{Bool, false, not, ◌&&◌}
use mathlib.Core.List.{List, [], ◌∷◌, ◌++◌}
use Prim.Native.Nat.{ℕ, suc, ◌-◌, ◌<◌}
use native.Mathlib.Omega.{arith}
use lib.Dec.{ltb}
use lib.ListN.{length, get_or}
use Rattle.std.proofs.Common.{Option, Some, None}
use Rattle.std.proofs.lemmas.List.{get_or-map}
use Rattle.machine.specs.Table.{cell_count, capacity, word_at}
use Rattle.machine.specs.Packets.{contains}
use Rattle.machine.specs.Reached.{onward, reached_by}
use Rattle.machine.specs.Facts.{TableShape, pointers_out}
use Rattle.machine.specs.ShortWay.{stays_root}
use Rattle.machine.specs.Suspects.{leads_on, is_suspect, suspects, is_supported, is_kept, local_dead}
use Rattle.machine.proofs.Range.{and_first}
use Rattle.machine.proofs.Select.{select_same}
use Rattle.machine.proofs.Suspects.{suspect_is, suspect_no_root}
use Rattle.walks.specs.Walk.{Walked, Walks}
use Rattle.walks.specs.Tally.{Tally, tally_of}
use Rattle.suspects.specs.Dead.{most_suspects, Finds}
use Rattle.suspects.specs.Rest.{Listed, Rests}
use Rattle.suspects.specs.Support.{supported, Closed, Keeps}
use Rattle.suspects.proofs.Ascending.{ascending_select}
use Rattle.suspects.proofs.Sums.{listed_out}
use Rattle.suspects.proofs.Reaches.{reached_same}
use Rattle.suspects.proofs.Supported.{supported_members}
use Rattle.suspects.proofs.LostCell.{most_range, reached_suspect}

-- a walk with one cell to begin at
pub begins : (x : ℕ) (none first : Tally) → none ≡ tally_of [] [] → first ≡ tally_of (none.cells ++ x ∷ []) (none.counts ++ 0 ∷ []) → first ≡ tally_of (x ∷ []) (0 ∷ [])
begins x none first d e = e ∙ rw d refl

module _ (t : List ℕ) (w : ℕ) (lost : stays_root t w ≡ false) (most : ℕ) (e : most ≡ most_suspects (capacity t))
    (first : Tally) (f : first ≡ tally_of ((w - 1) ∷ []) (0 ∷ [])) (y : Tally) where
  abbrev c : ℕ
  c = capacity t

  begun_there : (r : Option (Unit {0})) → Walks t most first.cells y.cells y.counts r → Walks t most ((w - 1) ∷ []) y.cells y.counts r
  begun_there r h = rw f at h

  pub finds_many : Walks t most first.cells y.cells y.counts None → Finds t w None
  unfolding suspects
  finds_many h =
      let g = begun_there None h in
      rw (← e, ← select_same c (reached_by c (contains ((w - 1) ∷ [])) (leads_on t)) (is_suspect t w) (λ i _. reached_suspect t w lost i)) g.gave_up

  module _ (walks : Walks t most first.cells y.cells y.counts (Some tt)) where
    h : Walked t ((w - 1) ∷ []) y.cells y.counts
    h = (begun_there (Some tt) walks).walked

    suspected : (i : ℕ) → contains y.cells i ≡ is_suspect t w i
    suspected i = h.members i ∙ reached_suspect t w lost i

    pub first_closed : TableShape t → Closed t y.cells most
    first_closed shape = record {
      shape = shape;
      few = walks.few;
      within = omega (arith, (most_range c).1);
      below = h.below;
      no_roots = λ i m. suspect_no_root t w ((suspect_is t w i).0 (sym (suspected i) ∙ m));
      once = h.once;
      onward = λ j i l m e. suspected i ∙ (suspect_is t w i).1 (onward ((suspect_is t w j).0 (sym (suspected j) ∙ m)) l e);
    }

    pub first_listed : Listed y.cells
    first_listed = record { listed = omega (arith, walks.few, (most_range c).1); once = h.once }

    -- how many pointers come from suspects
    abbrev pointers : ℕ → ℕ
    pointers i = pointers_out t (suspects t w) (suc i)

    counted : (k : ℕ) → k < length y.cells → get_or y.counts k 0 ≡ pointers (get_or y.cells k 0)
    unfolding suspects
    counted k l =
        ap (λ (ns : List ℕ). get_or ns k 0) h.counts
        ∙ get_or-map (λ i. pointers_out t y.cells (suc i)) y.cells k 0 0 l
        ∙ listed_out c (is_suspect t w) y.cells h.below h.once (λ i _. suspected i) t (suc (get_or y.cells k 0))

    supported_is : (i : ℕ) → contains (supported t y.cells y.counts (length y.cells)) i ≡ is_supported t w i
    unfolding is_supported
    supported_is i =
        supported_members t y.cells y.counts pointers counted i ∙ ap (λ (b : Bool). b && ltb (pointers i) (word_at t i cell_count)) (suspected i)

    kept_is : (kept : Tally) → Keeps t y kept → (i : ℕ) → contains kept.cells i ≡ is_kept t w i
    unfolding is_kept
    kept_is kept keeps i = keeps.members i ∙ reached_same c (contains (supported t y.cells y.counts (length y.cells))) (is_supported t w) (leads_on t) (λ j _. supported_is j) i

    pub finds_dead : (kept : Tally) (dead : List ℕ) → Keeps t y kept → Rests y.cells kept.cells dead → dead ≡ local_dead t w
    unfolding local_dead
    finds_dead kept dead keeps rests =
        ascending_select c (λ i. is_suspect t w i && not (is_kept t w i)) dead rests.ascending
        (λ i. rests.members i ∙ ap₂ (λ (a b : Bool). a && not b) (suspected i) (kept_is kept keeps i))
        (λ i m. h.below i (suspected i ∙ and_first (is_suspect t w i) (not (is_kept t w i)) m))
