-- Laws of places in a list, and of the search for one.
use mathlib.Core.Path.{◌≡◌, refl, sym, ◌∙◌}
use mathlib.Core.Logic.{⊎_elim}
use mathlib.Core.Bool.{Bool, true, false, false≢true}
use mathlib.Core.List.{List, [], ◌∷◌}
use Prim.Native.Nat.{ℕ, zero, suc, ◌<◌}
use native.Mathlib.Nat.{not-suc-le-zero}
use native.Mathlib.Omega.{arith}
use lib.Dec.{eqb}
use lib.ListN.{length, get_or, take, get_or-map, length-map}
use borrow.Author.Tests.{eqb-true, eq-eqb, lt-ltb}
use Rattle.std.proofs.Common.{Option, Some, None}
use Rattle.std.specs.List.{position, position_or_len}
use Rattle.std.proofs.lemmas.List.Quantifiers.{position-Some}
use Rattle.machine.specs.Packets.{contains}
use Rattle.machine.proofs.Range.{tested, or_left, or_right}
use Rattle.walks.specs.declared.Met.{Met}
use Rattle.walks.specs.Walk.{Places}
use Rattle.walks.specs.Tally.{tally}

-- what stands in a list is in it
pub contains_at : (xs : List ℕ) (k x : ℕ) → k < length xs → get_or xs k 0 ≡ x → contains xs x ≡ true
unfolding contains
contains_at [] k x l e = absurd (not-suc-le-zero l)
contains_at (y ∷ ys) zero x l e = or_left (contains ys x) (eq-eqb y x e)
contains_at (y ∷ ys) (suc k) x l e = or_right (eqb y x) (contains_at ys k x (omega arith) e)

-- what stands past the end of a list of met cells
abbrev pub none_met : Met
none_met = record { cell = 0; pointers = 0 }

module _ (x : ℕ) where
  abbrev here : Met → Bool
  here m = eqb m.cell x

  present : (list : List Met) → contains (tally list).cells x ≡ true → position_or_len here list < length list
  unfolding contains
  present [] h = absurd (false≢true h)
  present (m ∷ ms) h =
      ⊎_elim (λ (e : eqb m.cell x ≡ true). rw e (omega arith)) (λ (e : eqb m.cell x ≡ false). rw e (omega (arith, present ms (rw e at h)))) (tested (eqb m.cell x))

  none_before : (list : List Met) (k : ℕ) → ((j : ℕ) → j < k → here (get_or list j none_met) ≡ false) → contains (take k (tally list).cells) x ≡ false
  unfolding contains
  none_before list zero h = refl
  none_before [] (suc k) h = refl
  none_before (m ∷ ms) (suc k) h = let e : eqb m.cell x ≡ false = h 0 (omega arith) in rw e (none_before ms k (λ j l. h (suc j) (omega arith)))

  pub placed : (list : List Met) (r : Option ℕ) → r ≡ position here list → Places (tally list).cells x r
  placed list None e = record { within = tt; before = tt; there = tt; found = ⊎_elim (λ h. absurd (some h)) (λ h. h) (tested (contains (tally list).cells x)) }
    where
      some : contains (tally list).cells x ≡ true → ⊥
      some h = let d : None ≡ Some (position_or_len here list) = rw (lt-ltb (position_or_len here list) (length list) (present list h)) at e in cc
  placed list (Some k) e =
      let p = position-Some here list k none_met (sym e) in
      let there : get_or (tally list).cells k 0 ≡ x = get_or-map (λ (m : Met). m.cell) list k none_met ∙ eqb-true (get_or list k none_met).cell x p.1 in
      let within : k < length (tally list).cells = rw length-map p.0 in
      record { within = within; before = none_before list k p.2; there = there; found = contains_at (tally list).cells k x within there }
