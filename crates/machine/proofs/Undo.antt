-- S4's test says that the undone stages, as a list, hold what they must, none with too many pointers, and that the cell counts are the
-- pointers of the oldest.
use mathlib.Core.Path.{◌≡◌, refl, ap, ◌∙◌}
use mathlib.Core.Logic.{◌↔◌}
use mathlib.Core.Bool.{Bool, true, ◌&&◌}
use mathlib.Core.List.{List, [], ◌∷◌}
use Prim.Native.Nat.{ℕ, suc}
use lib.Dec.{leb, eqb}
use borrow.Author.Tests.{leb-true, le-leb, eqb-true, eq-eqb}
use Rattle.machine.specs.Range.{every}
use Rattle.machine.specs.Words.{ceiling}
use Rattle.machine.specs.Table.{cell_count, capacity, word_at}
use Rattle.machine.specs.Queue.{Packet}
use Rattle.machine.specs.Counts.{pointers}
use Rattle.machine.specs.Questions.{pointers_within}
use Rattle.machine.specs.Audit.{undoable, undone, before, undoes, pointers_sound}
use Rattle.machine.specs.Facts as stage
use Rattle.machine.specs.Facts.{Within, Stages, stands, Undoing}
use Rattle.machine.proofs.Range.{and_both, and_first, and_second, every_at, every_all}

pub within_is : (t : List ℕ) → (pointers_within t ≡ true) ↔ Within t
unfolding pointers_within
within_is t = (
  λ h i l. leb-true (pointers t (suc i)) ceiling (every_at (capacity t) (λ j. leb (pointers t (suc j)) ceiling) h i l),
  λ f. every_all (capacity t) (λ j. leb (pointers t (suc j)) ceiling) (λ i l. le-leb (pointers t (suc i)) ceiling (f i l)),
)

-- the stages after the oldest, by the definition
pub stages_after : List ℕ → List Packet → List (List ℕ)
stages_after t [] = []
stages_after t (p ∷ ps) = before t ps ∷ stages_after t ps

-- the test at one packet, taken apart
pub undoes_rest : (t : List ℕ) (p : Packet) (ps : List Packet) → undoes t (p ∷ ps) ≡ true → undoes t ps ≡ true
unfolding undoes
undoes_rest t p ps h = and_first (undoes t ps) (undoable (before t ps) p) (and_first (undoes t ps && undoable (before t ps) p) (pointers_within (before t (p ∷ ps))) h)

pub undoes_holds : (t : List ℕ) (p : Packet) (ps : List Packet) → undoes t (p ∷ ps) ≡ true → undoable (before t ps) p ≡ true
unfolding undoes
undoes_holds t p ps h = and_second (undoes t ps) (undoable (before t ps) p) (and_first (undoes t ps && undoable (before t ps) p) (pointers_within (before t (p ∷ ps))) h)

pub undoes_within : (t : List ℕ) (ps : List Packet) → undoes t ps ≡ true → pointers_within (before t ps) ≡ true
unfolding undoes before
undoes_within t [] h = h
undoes_within t (p ∷ ps) h = and_second (undoes t ps && undoable (before t ps) p) (pointers_within (before t (p ∷ ps))) h

stages_facts : (t : List ℕ) (ps : List Packet) → undoes t ps ≡ true → Stages t ps (before t ps ∷ stages_after t ps)
unfolding stages_after before
stages_facts t [] h = stands ((within_is t).0 (undoes_within t [] h))
stages_facts t (p ∷ ps) h =
    stage.undoes (undoes_holds t p ps h) ((within_is (before t (p ∷ ps))).0 (undoes_within t (p ∷ ps) h)) (stages_facts t ps (undoes_rest t p ps h))

-- stages are as the definition has them
stages_oldest : (t : List ℕ) (ps : List Packet) (v : List ℕ) (vs : List (List ℕ)) → Stages t ps (v ∷ vs) → v ≡ before t ps
unfolding before
stages_oldest t [] v vs (stands h) = refl
stages_oldest t (p ∷ ps) v vs (stage.undoes {w = w} {vs = ws} h k r) = ap (λ (u : List ℕ). undone u p) (stages_oldest t ps w ws r)

stages_test : (t : List ℕ) (ps : List Packet) (v : List ℕ) (vs : List (List ℕ)) → Stages t ps (v ∷ vs) → undoes t ps ≡ true
unfolding undoes before
stages_test t [] v vs (stands h) = (within_is t).1 h
stages_test t (p ∷ ps) v vs (stage.undoes {w = w} {vs = ws} h k r) =
    let e = stages_oldest t ps w ws r in
    and_both (and_both (stages_test t ps w ws r) (rw e at h)) ((within_is (undone (before t ps) p)).1 (rw e at k))

-- S4's meaning
pub undoing_is : (t : List ℕ) (ps : List Packet) → (pointers_sound t ps ≡ true) ↔ ((v : List ℕ) × (vs : List (List ℕ)) × Undoing t ps v vs)
unfolding pointers_sound
undoing_is t ps = (there, back)
  where
    same : ℕ → Bool
    same i = eqb (word_at t i cell_count) (pointers (before t ps) (suc i))

    there : pointers_sound t ps ≡ true → (v : List ℕ) × (vs : List (List ℕ)) × Undoing t ps v vs
    there h = (
      before t ps,
      stages_after t ps,
      record {
        stages = stages_facts t ps (and_first (undoes t ps) (every (capacity t) same) h);
        counts = λ i l. eqb-true (word_at t i cell_count) (pointers (before t ps) (suc i)) (every_at (capacity t) same (and_second (undoes t ps) (every (capacity t) same) h) i l);
      },
    )

    back : (v : List ℕ) × (vs : List (List ℕ)) × Undoing t ps v vs → pointers_sound t ps ≡ true
    back w =
        let u = w.2 in
        and_both (stages_test t ps w.0 w.1 u.stages)
        (every_all (capacity t) same (λ i l. eq-eqb (word_at t i cell_count) (pointers (before t ps) (suc i))
        (u.counts i l ∙ ap (λ (v : List ℕ). pointers v (suc i)) (stages_oldest t ps w.0 w.1 u.stages))))
