-- Each shortcut breaks its clause, by computation.
use mathlib.Core.Path.{◌≡◌, refl}
use mathlib.Core.Logic.{⊎_elim}
use mathlib.Core.Bool.{true≢false, false≢true}
use Prim.Native.Nat.{ℕ}
use native.Mathlib.Omega.{arith}
use lib.Dec.{lit<, lit≤}
use Rattle.machine.specs.Reached.{begun}
use Rattle.machine.specs.Calls.{audit, sound, broken}
use Rattle.machine.specs.Cases.{unmade}
use Rattle.machine.proofs.Computes.{computes}
use Rattle.machine.proofs.Kept.{kept}
use Rattle.soundness.specs.Demand3.{gains, gives, moved, holds_from}
use Rattle.soundness.specs.Links.{links_of}
use Rattle.soundness.specs.Variants.{step_of, accepted_of, answered_of, machine_of}
use Rattle.soundness.specs.Shortcuts.{apply_held, without, apply_eager, apply_parted, reanswer, asks_one_hold, ShortcutsBite}

not_sound : broken 5 ≡ sound → ⊥
not_sound e = let z : ◌≡◌ {A = ℕ} 0 1 = cc in omega arith

pub shortcuts_bite : ShortcutsBite
unfolding computes gains gives moved holds_from links_of step_of accepted_of answered_of machine_of apply_held without apply_eager apply_parted reanswer asks_one_hold
shortcuts_bite = record {
  held_at_ceiling_breaks = λ h. true≢false (h 0 0 (lit< tt) (begun (lit< tt) refl));
  held_at_ceiling_counts = λ h. let z = h 0 (lit< tt) in omega arith;
  named_as_dead_breaks = λ h. true≢false (h 0 0 (lit< tt) (begun (lit< tt) refl));
  freed_in_between_breaks = λ h. true≢false (h 0 0 (lit< tt) (begun (lit< tt) refl));
  one_hold_for_both_breaks = λ h. let z = h 0 (lit< tt) in omega arith;
  children_left_breaks = λ h. let z = h 0 (lit< tt) in omega arith;
  unprotected = λ h. true≢false (h 0 0 (lit< tt) (begun (lit< tt) refl));
  names_stay_breaks = λ h. let w = h 0 (lit< tt) refl in ⊎_elim (λ g. omega arith) false≢true w.1;
  names_stay_done = λ h. let w = (h refl 0 (lit< tt)).0 refl in let g = w.1 in omega arith;
  frees_nothing_breaks = λ h. let w = h 0 (lit< tt) refl in ⊎_elim (λ g. omega arith) false≢true w.1;
  frees_nothing_done = λ h. let w = (h refl 0 (lit< tt)).0 refl in let g = w.1 in omega arith;
  frees_nothing_audit = λ h. not_sound (h unmade.scratch _ _ (lit≤ tt) (kept _ audit));
}
