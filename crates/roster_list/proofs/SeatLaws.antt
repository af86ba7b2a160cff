-- Proper lists: at most 600 seats; what is put in and taken out keeps them proper.
use mathlib.Core.Path.{◌≡◌, refl, ap}
use mathlib.Core.Logic.{⊎_elim}
use mathlib.Core.Bool.{Bool, true, false, cond}
use mathlib.Core.List.{List, [], ◌∷◌}
use Prim.Native.Nat.{ℕ, suc, ◌≤◌, ◌<◌}
use native.Mathlib.Omega.{arith}
use lib.Dec.{leb, eqb}
use lib.ListN.{length}
use borrow.Author.Tests.{leb-true, eqb-true, eqb-false}
use Rattle.machine.specs.Range.{select, occurrences}
use Rattle.machine.proofs.Range.{tested, not_both, and_second, matching_same, matching_other, lt_or_ge}
use Rattle.machine.proofs.Lists.{Indices}
use Rattle.machine.proofs.Select.{few_selected}
use Rattle.readings.specs.Readings.{Entry, entry, missing, found, looked_up}
use Rattle.readings.specs.Calls.{seats, is_seat}
use Rattle.roster_list.specs.Nodes.{seats_of, Proper}

all_seats : length (select (suc seats) is_seat) ≡ seats
unfolding select is_seat
all_seats = refl

seat_most : (s : ℕ) → is_seat s ≡ true → s < suc seats
unfolding is_seat
seat_most s h = omega (arith, leb-true s seats (and_second (leb 1 s) (leb s seats) h))

same_length_lem : (es : List Entry) → length (seats_of es) ≡ length es
same_length_lem [] = refl
same_length_lem (e ∷ es) = ap suc (same_length_lem es)

indices : (ss : List ℕ) → ((s : ℕ) → 0 < occurrences s ss → is_seat s ≡ true) → Indices (suc seats) ss
unfolding occurrences
indices [] h = tt
indices (s ∷ ss) h = (seat_most s (h s (omega (arith, matching_same s s 1 refl))), indices ss (λ r o. h r (omega (arith, o))))

pub few_seats : (es : List Entry) → Proper es → length es ≤ seats
few_seats es p =
    omega (arith, same_length_lem es, all_seats, few_selected (suc seats) is_seat (seats_of es) (indices (seats_of es) p.seats) (λ i l. go i (is_seat i) refl))
  where
    go : (i : ℕ) (b : Bool) → is_seat i ≡ b → occurrences i (seats_of es) ≤ cond b 1 0
    go i true e = p.once i
    go i false e = ⊎_elim (λ o. absurd (not_both (p.seats i o) e)) (λ o. o) (lt_or_ge 0 (occurrences i (seats_of es)))

-- what has no seat more often
pub proper_fewer : (es fs : List Entry) → ((s : ℕ) → occurrences s (seats_of fs) ≤ occurrences s (seats_of es)) → Proper es → Proper fs
proper_fewer es fs le p = record {
  once = λ s. omega (arith, le s, p.once s);
  seats = λ s o. p.seats s (omega (arith, o, le s));
}

-- a seat that is missing occurs nowhere
missing_none : (es : List Entry) (s : ℕ) → looked_up es s ≡ missing → occurrences s (seats_of es) ≡ 0
unfolding looked_up occurrences
missing_none [] s h = refl
missing_none (e ∷ es) s h =
    ⊎_elim (λ d. absurd (never (rw d at h)))
    (λ d. omega (arith, matching_other e.seat s 1 (eqb-false e.seat s d), missing_none es s (rw d at h)))
    (tested (eqb e.seat s))
  where
    never : found e.reading ≡ missing → ⊥
    never d = let z : ◌≡◌ {A = ℕ} 0 1 = cc in omega arith

-- a new seat
pub proper_new : (es : List Entry) (s r : ℕ) → looked_up es s ≡ missing → is_seat s ≡ true → Proper es → Proper (entry s r ∷ es)
unfolding occurrences
proper_new es s r h e p = record {
  once = λ v. ⊎_elim
      (λ d. let w : s ≡ v = eqb-true s v d in omega (arith, matching_same s v 1 w, rw w at (missing_none es s h)))
      (λ d. omega (arith, matching_other s v 1 (eqb-false s v d), p.once v))
      (tested (eqb s v));
  seats = λ v o. ⊎_elim
      (λ d. let w : s ≡ v = eqb-true s v d in rw w at e)
      (λ d. p.seats v (omega (arith, o, matching_other s v 1 (eqb-false s v d))))
      (tested (eqb s v));
}
