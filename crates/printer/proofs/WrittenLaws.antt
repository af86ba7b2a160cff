-- The text as it grows piece by piece, and what ends it.
use mathlib.Core.Path.{◌≡◌, refl, sym, ap, ◌∙◌}
use mathlib.Core.Bool.{Bool, true, false, ◌||◌}
use mathlib.Core.List.{List, [], ◌∷◌, ◌++◌, append_assoc, append-nil}
use Prim.Native.Nat.{ℕ, zero, suc, ◌+◌, ◌-◌, ◌≤◌, ◌<◌}
use native.Mathlib.Nat.{sub-zero}
use native.Mathlib.Omega.{arith}
use lib.ListN.{length, take, length-append}
use lib.Seq.{take-append-add, take_all}
use borrow.Author.Tests.{ne_eqb}
use Rattle.notation.specs.Grammar.{open_byte}
use Rattle.notation.specs.Brackets.{most_open, open_after, opens_too_many, too_deep, nothing, too_many, no_room, first_met}
use Rattle.notation.specs.Parts.{element}
use Rattle.notation.proofs.BracketLaws.{met_front, met_none}
use Rattle.machine.specs.Texts.{text_for}
use Rattle.printer.specs.declared.walk.Piece.{Piece}
use Rattle.printer.specs.declared.walk.Walk.{Walk}
use Rattle.printer.specs.Pieces.{bytes_of}
use Rattle.printer.specs.Walk.{Item, item, items_of, ahead, open_behind, Moved, Refused, Written}
use Rattle.printer.proofs.AheadLaws.{ahead_front, ahead_none, ahead_word}

neither : (a b : Bool) → (a || b) ≡ false → (a ≡ false) × (b ≡ false)
neither true b h = absurd (let z : ◌≡◌ {A = ℕ} 0 1 = cc in omega arith)
neither false b h = (refl, h)

-- bytes that open no bracket too many: with room for them, and without
pub met_behind : (p : List ℕ) (room n : ℕ) (u : List ℕ) → too_deep n p ≡ false → length p ≤ room
    → first_met room n (p ++ u) ≡ first_met (room - length p) (open_behind n p) u
unfolding too_deep first_met open_behind
met_behind [] room n u h l = ap (λ (r : ℕ). first_met r n u) (omega arith)
met_behind (b ∷ p) zero n u h l = absurd (omega arith)
met_behind (b ∷ p) (suc room) n u h l =
    let both = neither (opens_too_many n b) (too_deep (open_after n b) p) h in
    let less : suc room - suc (length p) ≡ room - length p = omega arith in
    rw (both.0, ne_eqb (suc room) 0 (λ z. omega arith), less) (met_behind p room (open_after n b) u both.1 (omega arith))

pub met_without : (p : List ℕ) (room n : ℕ) (u : List ℕ) → too_deep n p ≡ false → room < length p → first_met room n (p ++ u) ≡ no_room
unfolding too_deep first_met
met_without [] room n u h l = absurd (omega arith)
met_without (b ∷ p) zero n u h l = let both = neither (opens_too_many n b) (too_deep (open_after n b) p) h in rw both.0
met_without (b ∷ p) (suc room) n u h l =
    let both = neither (opens_too_many n b) (too_deep (open_after n b) p) h in
    rw (both.0, ne_eqb (suc room) 0 (λ z. omega arith)) (met_without p room (open_after n b) u both.1 (omega arith))

met_bracket : (room : ℕ) (text : List ℕ) → take 1 text ≡ open_byte ∷ [] → first_met room most_open text ≡ too_many
unfolding first_met opens_too_many
met_bracket room [] e = absurd (let z : ◌≡◌ {A = ℕ} 0 1 = cc in omega arith)
met_bracket room (b ∷ bs) e = let same : b ≡ open_byte = cc in rw same

module _ (room : ℕ) (t : List ℕ) (w : ℕ) where
  pub written_none : Written room t w [] 0 (item element w ∷ [])
  written_none =
      let front : ahead (suc (room - 0)) t (item element w ∷ []) ≡ take (suc room) (text_for room t w) = rw (sub-zero room) (ahead_word t room w) in
      record {
        fits = omega arith;
        text = front;
        met = ap (first_met (room - 0) 0) front ∙ rw (sub-zero room) (met_front room 0 (text_for room t w));
      }

  module _ (done : List ℕ) (n : ℕ) (is : List Item) (so : Written room t w done n is) where
    -- one piece more
    pub written_more : (p : Piece) (after : Walk) (rests : List ℕ) → Moved t n is p after rests → length (bytes_of p) ≤ room - length done
        → Written room t w (done ++ bytes_of p) after.depth (items_of after rests)
    written_more p after rests m l =
        let left = room - length done in
        let most = left - length (bytes_of p) in
        let split : suc left ≡ length (bytes_of p) + suc most = omega arith in
        let here : room - length (done ++ bytes_of p) ≡ most = simp length-append (omega arith) in
        let front : ahead (suc left) t is ≡ bytes_of p ++ ahead (suc most) t (items_of after rests) =
        m.text (suc left)
        ∙ ap (λ (k : ℕ). take k (bytes_of p ++ ahead (suc left) t (items_of after rests))) split
        ∙ take-append-add (bytes_of p) (ahead (suc left) t (items_of after rests)) (suc most)
        ∙ ap (λ (x : List ℕ). bytes_of p ++ x) (ahead_front t (suc most) (suc left) (items_of after rests) (omega arith)) in
        record {
          fits = simp length-append (omega (arith, so.fits));
          text =
              ap (λ (k : ℕ). done ++ bytes_of p ++ ahead (suc k) t (items_of after rests)) here
              ∙ append_assoc done (bytes_of p) (ahead (suc most) t (items_of after rests))
              ∙ ap (λ (x : List ℕ). done ++ x) (sym front)
              ∙ so.text;
          met =
              ap (λ (k : ℕ). first_met k after.depth (ahead (suc k) t (items_of after rests))) here
              ∙ ap (λ (k : ℕ). first_met most k (ahead (suc most) t (items_of after rests))) m.depth
              ∙ sym (met_behind (bytes_of p) left n (ahead (suc most) t (items_of after rests)) m.within l)
              ∙ ap (first_met left n) (sym front)
              ∙ so.met;
        }

    pub written_without : (p : Piece) (after : Walk) (rests : List ℕ) → Moved t n is p after rests → room - length done < length (bytes_of p) → first_met room 0 (text_for room t w) ≡ no_room
    written_without p after rests m l =
        sym so.met
        ∙ ap (first_met (room - length done) n) (m.text (suc (room - length done)))
        ∙ met_front (room - length done) n (bytes_of p ++ ahead (suc (room - length done)) t (items_of after rests))
        ∙ met_without (bytes_of p) (room - length done) n (ahead (suc (room - length done)) t (items_of after rests)) m.within l

    pub written_too_deep : Refused t n is → first_met room 0 (text_for room t w) ≡ too_many
    written_too_deep r =
        sym so.met
        ∙ ap (λ (k : ℕ). first_met (room - length done) k (ahead (suc (room - length done)) t is)) r.full
        ∙ met_bracket (room - length done) (ahead (suc (room - length done)) t is) (r.bracket (room - length done))

    -- nothing is left: all is written
    pub written_all : is ≡ [] → (first_met room 0 (text_for room t w) ≡ nothing) × (done ≡ text_for room t w)
    unfolding first_met
    written_all e =
        let none : ahead (suc (room - length done)) t is ≡ [] = rw e (ahead_none t (suc (room - length done))) in
        let met : first_met room 0 (text_for room t w) ≡ nothing = sym so.met ∙ rw none in
        (met, sym (append-nil done) ∙ rw none at so.text ∙ take_all (suc room) (text_for room t w) (omega (arith, met_none room 0 (text_for room t w) met)))
