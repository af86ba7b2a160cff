-- Rule text: no cons of a reading is refused, and what is written is read back as the same tree.
use mathlib.Core.Path.{◌≡◌, refl, sym, ap, ◌∙◌}
use mathlib.Core.Logic.{inl}
use mathlib.Core.Bool.{true, not, true≢false}
use mathlib.Core.List.{List}
use Prim.Native.Nat.{ℕ, suc}
use native.Mathlib.Omega.{arith}
use Rattle.notation.specs.Parse.{parse, meaning}
use Rattle.notation.specs.Brackets.{Met, nothing, too_many, no_room, is_too_many, is_no_room, first_met}
use Rattle.notation.proofs.Theorems.{parses_printed}
use Rattle.machine.specs.Calls.{read, write, value, refused, text, Store}
use Rattle.machine.specs.Texts.{OpensOut, opened, text_for}
use Rattle.machine.specs.Questions.{first_no, met, early, late, questions}
use Rattle.machine.specs.Machine.{text_read, accepted}
use Rattle.machine.specs.Promise.{Promise}
use Rattle.machine.proofs.Questions.{first_no_none, first_no_all, first_no_zero, early_numbered}
use Rattle.machine.proofs.Kept.{machine_cases, gives_machine, early_yes}
use Rattle.machine.proofs.TextLaws.{whole_tree, opened_values}
use Rattle.soundness.specs.TextRead.{NoneRefused, RoundTrip}
use Rattle.soundness.proofs.CallSound.{value_accepted, text_built}

pub none_refused : NoneRefused
none_refused s bytes w h = (text_built s bytes w h).0

-- an accepted writing's text fits
pub record Written (s : Store) (w room : ℕ) (bytes : List ℕ) : Type 0 where
  pub is : bytes ≡ text_for room s.table w
  pub fits : first_met room 0 (text_for room s.table w) ≡ nothing

nothing_met : (s : Store) (w room : ℕ) → first_no (questions s (write w room)) ≡ 0 → first_met room 0 (text_for room s.table w) ≡ nothing
unfolding questions late met
nothing_met s w room h =
    let y = first_no_all (late s (write w room)) (omega arith, (omega arith, (omega arith, tt)))
    (sym (first_no_none (early s (write w room)) (late s (write w room)) (early_numbered s (write w room)) (first_no_zero (early s (write w room)) (early_yes s (write w room) h))) ∙ h) in
    neither (first_met room 0 (text_for room s.table w)) y.1.0 y.1.1.0
  where
    neither : (m : Met) → not (is_too_many m) ≡ true → not (is_no_room m) ≡ true → m ≡ nothing
    neither nothing a b = refl
    neither too_many a b = absurd (true≢false (sym a))
    neither no_room a b = absurd (true≢false (sym b))

same_text : (a b : List ℕ) → text a ≡ text b → a ≡ b
same_text a b e = cc

no_text : (a : List ℕ) (n : ℕ) → text a ≡ refused n → ⊥
no_text a n e = let z : ◌≡◌ {A = ℕ} 0 1 = cc in omega arith

pub text_written : (s : Store) (w room : ℕ) (bytes : List ℕ) (s' : Store) → Promise s (write w room) (text bytes) s'
    → Written s w room bytes
unfolding accepted
text_written s w room bytes s' p =
    let e = gives_machine s (write w room) (text bytes) s' (p.exact tt) in
    machine_cases s (write w room) (λ o. text bytes ≡ o.reply → Written s w room bytes)
    (λ a d. record { is = same_text bytes _ d; fits = nothing_met s w room a }) (λ n a d. absurd (no_text bytes (suc n) d)) e.0

same_value : (m n : ℕ) → value m ≡ value n → m ≡ n
same_value m n e = cc

pub round_trip : RoundTrip
unfolding accepted text_read text_for
round_trip s w room bytes s' p v x v' k r =
    let y = text_written s w room bytes s' p in
    let a = value_accepted v (read bytes) x v' (inl k.sound) r in
    let b = (text_built v bytes k a.asked).1 in
    let whole = opened (suc room) s.table w in
    let meant : meaning (parse bytes) ≡ whole = ap (λ (l : List ℕ). meaning (parse l)) y.is ∙ ap meaning (parses_printed whole (opened_values (suc room) s.table w)) in
    let opens : OpensOut v'.table x (meaning (parse bytes)) = rw a.after (rw (same_value _ x a.reply) at b.opens) in
    record { tree = whole; one = whole_tree room s.table w y.fits; other = rw meant at opens }
