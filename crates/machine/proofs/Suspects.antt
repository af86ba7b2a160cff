-- Laws of the local way: computed and inductive suspects are the same, and where no cell is lost there are none.
use mathlib.Core.Path.{◌≡◌}
use mathlib.Core.Logic.{⊎_elim, ◌↔◌}
use mathlib.Core.Bool.{true, false, not, ◌&&◌}
use mathlib.Core.List.{List, []}
use Prim.Native.Nat.{ℕ, suc, ◌<◌}
use lib.Dec.{eqb}
use borrow.Author.Tests.{eqb-true, not-true}
use Rattle.machine.specs.Table.{capacity}
use Rattle.machine.specs.Reached.{is_root, points_to, ReachedBy, begun, onward}
use Rattle.machine.specs.ShortWay.{stays_root}
use Rattle.machine.specs.Suspects.{is_lost, leads_on, Suspect, is_suspect, is_supported, is_kept, local_dead}
use Rattle.machine.proofs.Range.{tested, and_first, and_second, not_both}
use Rattle.machine.proofs.Lists.{select_none}
use Rattle.machine.proofs.Words.{index_cell}
use Rattle.machine.proofs.Reached.{computed, computes}

module _ (t : List ℕ) (w : ℕ) where
  pub suspect_is : (i : ℕ) → (is_suspect t w i ≡ true) ↔ Suspect t w i
  unfolding is_suspect
  suspect_is i = (computed (capacity t) (is_lost t w) (leads_on t) i, λ r. computes (capacity t) (is_lost t w) (leads_on t) r)

  pub suspect_no_root : {i : ℕ} → Suspect t w i → is_root t i ≡ false
  unfolding is_lost leads_on
  suspect_no_root (begun {i = i} l e) = not-true (is_root t i) (and_second (eqb w (suc i)) (not (is_root t i)) e)
  suspect_no_root (onward {j = j} {i = i} r l e) = not-true (is_root t i) (and_second (points_to t j i) (not (is_root t i)) e)

  pub kept_is : (i : ℕ) → (is_kept t w i ≡ true) ↔ ReachedBy (capacity t) (is_supported t w) (leads_on t) i
  unfolding is_kept
  kept_is i = (computed (capacity t) (is_supported t w) (leads_on t) i, λ r. computes (capacity t) (is_supported t w) (leads_on t) r)

  none_suspect : stays_root t w ≡ true → {i : ℕ} → Suspect t w i → ⊥
  unfolding stays_root is_lost
  none_suspect stays (begun {i = i} l e) =
      let d : w ≡ suc i = eqb-true w (suc i) (and_first (eqb w (suc i)) (not (is_root t i)) e) in
      let r : is_root t i ≡ true = rw (d, index_cell (capacity t) i l) at stays in
      not_both r (not-true (is_root t i) (and_second (eqb w (suc i)) (not (is_root t i)) e))
  none_suspect stays (onward r l e) = none_suspect stays r

  pub none_local : stays_root t w ≡ true → local_dead t w ≡ []
  unfolding local_dead
  none_local stays = select_none (capacity t) (λ i. is_suspect t w i && not (is_kept t w i)) none
    where
      none : (i : ℕ) → i < capacity t → is_suspect t w i && not (is_kept t w i) ≡ false
      none i l =
          ⊎_elim (λ e. absurd (none_suspect stays ((suspect_is i).0 e))) (λ (e : is_suspect t w i ≡ false). rw e) (tested (is_suspect t w i))
