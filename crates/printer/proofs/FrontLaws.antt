-- A text that was measured, put into the front of a buffer.
use mathlib.Core.Path.{◌≡◌, refl, sym, ap, ◌∙◌}
use mathlib.Core.List.{List, ◌++◌}
use Prim.Native.Nat.{ℕ, suc, ◌≤◌}
use native.Mathlib.Omega.{arith}
use lib.ListN.{length, take, drop}
use lib.Seq.{length-take-le}
use Rattle.notation.specs.Print.{print}
use Rattle.notation.specs.Brackets.{Met, nothing, too_many, no_room, first_met}
use Rattle.notation.proofs.BracketLaws.{met_none, met_enough}
use Rattle.machine.specs.Texts.{opened, text_for}
use Rattle.machine.proofs.TextLaws.{opened_enough}
use Rattle.std.specs.Prelude.{Result, Ok, Err}
use Rattle.printer.specs.declared.Unfit.{Unfit}
use Rattle.printer.specs.Measures.{measured_by, measured, Exact, PutText}

module _ (room : ℕ) (t : List ℕ) (w : ℕ) where
  -- n bytes were measured: the text fits a part of n bytes
  pub record Fits (n : ℕ) : Type 0 where
    pub within : n ≤ room
    pub exact : Exact n t w
    pub same : text_for n t w ≡ text_for room t w

  fits_exact : (n : ℕ) → first_met room 0 (text_for room t w) ≡ nothing → n ≡ length (text_for room t w) → Fits n
  unfolding text_for
  fits_exact n met count =
      let within : n ≤ room = omega (arith, met_none room 0 (print (opened (suc room) t w)) met) in
      let enough = opened_enough n (suc room) t w (omega arith) in
      let fits : first_met n 0 (print (opened (suc room) t w)) ≡ nothing = met_enough room n 0 (print (opened (suc room) t w)) met (omega arith) in
      record {
        within = within;
        exact = record { met = sym enough.met ∙ fits; size = sym (ap length (enough.text fits)) ∙ sym count };
        same = sym (enough.text fits);
      }

  pub measured_bytes : (n : ℕ) → Ok n ≡ measured room (text_for room t w) → Fits n
  measured_bytes n h = go (first_met room 0 (text_for room t w)) refl h
    where
      go : (m : Met) → first_met room 0 (text_for room t w) ≡ m → Ok n ≡ measured_by m (text_for room t w) → Fits n
      go nothing e h = fits_exact n e (cc)
      go too_many e h = absurd (let z : ◌≡◌ {A = ℕ} 0 1 = cc in omega arith)
      go no_room e h = absurd (let z : ◌≡◌ {A = ℕ} 0 1 = cc in omega arith)

-- a part of n bytes at the front of a buffer, filled
module _ (t : List ℕ) (w : ℕ) (old : List ℕ) (n : ℕ) (h : Ok n ≡ measured (length old) (text_for (length old) t w)) where
  pub part_within : n ≤ length old
  part_within = (measured_bytes (length old) t w n h).within

  pub part_size : length (take n old) ≡ n
  part_size = length-take-le n old part_within

  pub part_exact : Exact (length (take n old)) t w
  part_exact = rw part_size (measured_bytes (length old) t w n h).exact

  pub part_filled : (part : List ℕ) → part ≡ text_for (length (take n old)) t w → PutText t w old (part ++ drop n old) (Ok n)
  part_filled part e =
      let text : part ≡ text_for (length old) t w = e ∙ rw part_size (measured_bytes (length old) t w n h).same in
      record { exact = h; put = ap (λ (x : List ℕ). x ++ drop n old) text }
