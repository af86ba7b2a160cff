-- The two passes, by what a step tells: measuring, and filling a part.
use mathlib.Core.Path.{◌≡◌, refl, sym, ap, ◌∙◌}
use mathlib.Core.Bool.{Bool, true, false}
use mathlib.Core.List.{List, [], ◌++◌}
use Prim.Native.Nat.{ℕ, ◌+◌, ◌-◌, ◌≤◌, ◌<◌}
use native.Mathlib.Omega.{arith}
use lib.Dec.{ltb}
use lib.ListN.{length, take, length-append}
use lib.Seq.{take_all, length-take-le}
use borrow.Author.Tests.{ltb-true, ltb-false}
use Rattle.base_ten.specs.Put.{Put}
use Rattle.notation.specs.Brackets.{most_open}
use Rattle.notation.proofs.BracketLaws.{many_met, no_room_met}
use Rattle.machine.specs.Texts.{text_for}
use Rattle.std.specs.Prelude.{Result, Ok, Err}
use Rattle.printer.specs.declared.Unfit.{Unfit}
use Rattle.printer.specs.declared.walk.Piece.{Piece}
use Rattle.printer.specs.declared.walk.Walk.{Walk}
use Rattle.printer.specs.Pieces.{bytes_of}
use Rattle.printer.specs.Measures.{measured, Exact}
use Rattle.printer.specs.Walk.{first_stop, rests_of, items_of, Moved, Refused, Written, Measuring, Filling}
use Rattle.printer.proofs.WrittenLaws.{written_none, written_more, written_without, written_too_deep, written_all}

module _ (room : ℕ) (t : List ℕ) (w : ℕ) where
  begins : (rests : List ℕ) → Written room t w [] 0 (items_of (first_stop w) rests)
  unfolding items_of rests_of
  begins rests = written_none room t w

  pub measuring_none : (rests : List ℕ) → length rests ≡ most_open → Measuring room t w room (first_stop w) rests
  measuring_none rests s = record { done = []; count = omega arith; most = omega arith; stack = s; written = begins rests }

  module _ (left : ℕ) (stop : Walk) (rests : List ℕ) (m : Measuring room t w left stop rests) where
    -- the text is measured, or what is met first
    pub measured_all : items_of stop rests ≡ [] → Ok (room - left) ≡ measured room (text_for room t w)
    measured_all e =
        let all = written_all room t w m.done stop.depth (items_of stop rests) m.written e in
        let count : room - left ≡ length (text_for room t w) = omega (arith, m.count, ap length all.1) in
        rw (all.0, count)

    pub measured_deep : Refused t stop.depth (items_of stop rests) → Err Unfit.TooDeep ≡ measured room (text_for room t w)
    measured_deep r = rw (written_too_deep room t w m.done stop.depth (items_of stop rests) m.written r)

    module _ (p : Piece) (after : Walk) (rests' : List ℕ) (step : Moved t stop.depth (items_of stop rests) p after rests') where
      pub measured_without : left < length (bytes_of p) → Err Unfit.NoRoom ≡ measured room (text_for room t w)
      measured_without l =
          rw (written_without room t w m.done stop.depth (items_of stop rests) m.written p after rests' step (omega (arith, m.count)))

      pub measuring_more : length (bytes_of p) ≤ left → length rests' ≡ most_open → Measuring room t w (left - length (bytes_of p)) after rests'
      measuring_more l s = record {
        done = m.done ++ bytes_of p;
        count = rw (length-append m.done (bytes_of p)) (omega (arith, m.count));
        most = step.most;
        stack = s;
        written = written_more room t w m.done stop.depth (items_of stop rests) m.written p after rests' step (omega (arith, m.count));
      }

module _ (n : ℕ) (t : List ℕ) (w : ℕ) (exact : Exact n t w) where
  pub filling_none : (part rests : List ℕ) → length part ≡ n → length rests ≡ most_open → Filling n t w part 0 (first_stop w) rests
  filling_none part rests l s = record { size = l; within = omega arith; most = omega arith; stack = s; written = begins n t w rests }

  module _ (part : List ℕ) (at : ℕ) (stop : Walk) (rests : List ℕ) (m : Filling n t w part at stop rests) where
    filled : length (take at part) ≡ at
    filled = length-take-le at part (omega (arith, m.size, m.within))

    pub filled_all : items_of stop rests ≡ [] → part ≡ text_for n t w
    filled_all e =
        let all = written_all n t w (take at part) stop.depth (items_of stop rests) m.written e in
        let end : n ≤ at = omega (arith, ap length all.1, exact.size, filled) in
        sym (take_all at part (omega (arith, m.size))) ∙ all.1

    -- the whole text fits, so nothing else is met
    pub never_deep : Refused t stop.depth (items_of stop rests) → ⊥
    never_deep r = let met = written_too_deep n t w (take at part) stop.depth (items_of stop rests) m.written r in many_met (sym met ∙ exact.met)

    module _ (p : Piece) (after : Walk) (rests' : List ℕ) (step : Moved t stop.depth (items_of stop rests) p after rests') where
      pub filling_room : at + length (bytes_of p) ≤ n
      filling_room = go (ltb (n - at) (length (bytes_of p))) refl
        where
          go : (b : Bool) → ltb (n - at) (length (bytes_of p)) ≡ b → at + length (bytes_of p) ≤ n
          go true e =
              let less : n - length (take at part) < length (bytes_of p) = rw filled (ltb-true (n - at) (length (bytes_of p)) e) in
              let met = written_without n t w (take at part) stop.depth (items_of stop rests) m.written p after rests' step less in
              absurd (no_room_met (sym met ∙ exact.met))
          go false e = omega (arith, ltb-false (n - at) (length (bytes_of p)) e, m.within)

      pub filling_more : (part' : List ℕ) (at' : ℕ) → Put part at (bytes_of p) part' at' → length part' ≡ n → length rests' ≡ most_open → Filling n t w part' at' after rests'
      filling_more part' at' put l s = record {
        size = l;
        within = omega (arith, put.ends, filling_room);
        most = step.most;
        stack = s;
        written =
            rw put.front
            (written_more n t w (take at part) stop.depth (items_of stop rests) m.written p after rests' step (rw filled (omega (arith, filling_room))));
      }
