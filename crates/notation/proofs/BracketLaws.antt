-- What is met first in a text: it depends on the bytes that fit and the one behind them alone.
use mathlib.Core.Path.{◌≡◌, refl}
use mathlib.Core.Bool.{Bool, true, false, cond}
use mathlib.Core.List.{List, [], ◌∷◌}
use Prim.Native.Nat.{ℕ, zero, suc, pred, ◌≤◌, zero-le, suc-le-suc}
use native.Mathlib.Omega.{arith}
use lib.Dec.{eqb}
use lib.ListN.{length, take}
use borrow.Author.Tests.{ne_eqb}
use Rattle.notation.specs.Brackets.{open_after, opens_too_many, nothing, too_many, no_room, first_met}

pub many_met : too_many ≡ nothing → ⊥
many_met e = let z : ◌≡◌ {A = ℕ} 0 1 = cc in omega arith

pub no_room_met : no_room ≡ nothing → ⊥
no_room_met e = let z : ◌≡◌ {A = ℕ} 0 1 = cc in omega arith

pub met_front : (room n : ℕ) (text : List ℕ) → first_met room n (take (suc room) text) ≡ first_met room n text
unfolding first_met
met_front zero n [] = refl
met_front zero n (b ∷ bs) = refl
met_front (suc room) n [] = refl
met_front (suc room) n (b ∷ bs) = rw (met_front room (open_after n b) bs)

-- where nothing is met the text fits
pub met_none : (room n : ℕ) (text : List ℕ) → first_met room n text ≡ nothing → length text ≤ room
unfolding first_met
met_none room n [] h = zero-le
met_none room n (b ∷ bs) h = go room (opens_too_many n b) h (λ r. met_none r (open_after n b) bs)
  where
    go : (room : ℕ) (t : Bool) → cond t too_many (cond (eqb room 0) no_room (first_met (pred room) (open_after n b) bs)) ≡ nothing
        → ((r : ℕ) → first_met r (open_after n b) bs ≡ nothing → length bs ≤ r) → suc (length bs) ≤ room
    go room true e ih = absurd (many_met e)
    go zero false e ih = absurd (no_room_met e)
    go (suc r) false e ih = suc-le-suc (ih r (rw (ne_eqb (suc r) 0 (λ z. omega arith)) at e))

-- and then room for its bytes is enough
pub met_enough : (room r n : ℕ) (text : List ℕ) → first_met room n text ≡ nothing → length text ≤ r → first_met r n text ≡ nothing
unfolding first_met
met_enough room r n [] h l = refl
met_enough room zero n (b ∷ bs) h l = absurd (omega arith)
met_enough room (suc r) n (b ∷ bs) h l = go room (opens_too_many n b) h (λ q. met_enough q r (open_after n b) bs)
  where
    go : (room : ℕ) (t : Bool) → cond t too_many (cond (eqb room 0) no_room (first_met (pred room) (open_after n b) bs)) ≡ nothing
        → ((q : ℕ) → first_met q (open_after n b) bs ≡ nothing → length bs ≤ r → first_met r (open_after n b) bs ≡ nothing)
        → cond t too_many (cond (eqb (suc r) 0) no_room (first_met r (open_after n b) bs)) ≡ nothing
    go room true e ih = absurd (many_met e)
    go zero false e ih = absurd (no_room_met e)
    go (suc q) false e ih = rw (ne_eqb (suc r) 0 (λ z. omega arith)) (ih q (rw (ne_eqb (suc q) 0 (λ z. omega arith)) at e) (omega arith))
