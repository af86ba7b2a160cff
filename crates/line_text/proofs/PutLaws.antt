-- How long output lines are, and a number's text copied with another last digit.
use mathlib.Core.Path.{◌≡◌, refl, sym, ap, ◌∙◌}
use mathlib.Core.Bool.{Bool, true, false}
use mathlib.Core.List.{List, [], ◌∷◌, ◌++◌, append_assoc}
use Prim.Native.Nat.{ℕ, zero, suc, ◌+◌, ◌-◌, ◌/◌, ◌%◌, ◌≤◌, ◌<◌}
use native.Mathlib.Numerals.{sub-one}
use native.Mathlib.Omega.{arith}
use lib.Dec.{ltb}
use lib.ListN.{length, take, set, length-append}
use lib.Seq.{take-suc-set, take-take, take-append-add, take_at, length-take-le}
use borrow.Author.Tests.{ltb-true, ltb-false}
use Rattle.base_ten.specs.Bytes.{digit_zero}
use Rattle.base_ten.specs.Decimal.{digits, most_digits, decimal}
use Rattle.base_ten.specs.Put.{Put}
use Rattle.base_ten.proofs.PutLaws.{digits_one, digits_more, digits_length, digits_some}
use Rattle.line_text.specs.declared.Verdict.{Verdict}
use Rattle.line_text.specs.Texts.{verdict_room, verdict_text, room, output_line}
use Rattle.line_text.specs.Put.{ShowsTens}

pub verdict_length : (v : Verdict) → length (verdict_text v) ≤ verdict_room
verdict_length (Verdict.Ok v) = omega (arith, digits_length most_digits v)
verdict_length (Verdict.No n) = omega (arith, digits_length most_digits n)
verdict_length Verdict.Idle = omega arith
verdict_length Verdict.Bad = omega arith

pub output_length : (n : ℕ) (v : Verdict) → length (output_line n v) ≤ room
unfolding output_line
output_length n v =
    simp length-append (omega (arith, digits_length most_digits n, verdict_length v))

-- within a ten the digits before the last are the same
pub record Ten (most a b : ℕ) : Type 0 where
  pub tens : List ℕ
  pub one : digits most a ≡ tens ++ ((digit_zero + a % 10) ∷ [])
  pub other : digits most b ≡ tens ++ ((digit_zero + b % 10) ∷ [])

pub ten : (most a b : ℕ) → 0 < most → a / 10 ≡ b / 10 → Ten most a b
ten most a b h e = go (ltb a 10) refl
  where
    go : (t : Bool) → ltb a 10 ≡ t → Ten most a b
    go true l =
        let la : a < 10 = ltb-true a 10 l in
        let ra : a % 10 ≡ a = omega arith in
        let rb : b % 10 ≡ b = omega arith in
        record { tens = []; one = rw ra (digits_one most a h la); other = rw rb (digits_one most b h (omega arith)) }
    go false l =
        let la : 10 ≤ a = ltb-false a 10 l in
        record { tens = digits (most - 1) (a / 10); one = digits_more most a h la; other = rw e (digits_more most b h (omega arith)) }

-- the last of the bytes meant is another
last_set : (text front : List ℕ) (size d e : ℕ) → 0 < size → size ≤ length text → take size text ≡ front ++ (d ∷ [])
    → take size (set text (size - 1) e) ≡ front ++ (e ∷ [])
last_set text front zero d e h l p = absurd (never h)
  where
    never : 0 < 0 → ⊥
    never q = omega arith
last_set text front (suc k) d e h l p =
    let whole : length (take (suc k) text) ≡ suc k = length-take-le (suc k) text l in
    let size : length front ≡ k = omega (arith, length-append front (d ∷ []), ap length p) in
    let before : take k text ≡ front = sym (take-take k (suc k) text (omega arith)) ∙ ap (take k) p ∙ take_at front (d ∷ []) k size in
    rw (sub-one (suc k)) (take-suc-set text k e (omega arith) ∙ ap (λ (l : List ℕ). l ++ (e ∷ [])) before)

module _ {text : List ℕ} {size number : ℕ} (shows : ShowsTens text size number) where
  pub shows_some : 0 < size
  shows_some = omega (arith, shows.ends, digits_some most_digits shows.shown (omega arith))

  pub shows_most : size ≤ most_digits
  shows_most = omega (arith, shows.ends, digits_length most_digits shows.shown)

  -- the text copied, and the number's last digit written behind its tens
  pub number_put : (out new : List ℕ) (at : ℕ) → at + most_digits ≤ length out → length new ≡ length out
      → take (at + most_digits) new ≡ take at out ++ text
      → Put out at (decimal number) (set new (at + size - 1) (digit_zero + number % 10)) (at + size)
  number_put out new at room same copied =
      let one = digit_zero + shows.shown % 10 in
      let other = digit_zero + number % 10 in
      let t = ten most_digits shows.shown number (omega arith) shows.tens in
      let most : size ≤ most_digits = shows_most in
      let place : length (take at out) ≡ at = length-take-le at out (omega arith) in
      let before : take (at + size) new ≡ (take at out ++ t.tens) ++ (one ∷ []) =
      sym (take-take (at + size) (at + most_digits) new (omega arith))
      ∙ ap (take (at + size)) copied
      ∙ ap (λ (k : ℕ). take (k + size) (take at out ++ text)) (sym place)
      ∙ take-append-add (take at out) text size
      ∙ ap (λ (l : List ℕ). take at out ++ l) (shows.front ∙ t.one)
      ∙ sym (append_assoc (take at out) t.tens (one ∷ [])) in
      record {
        front =
            last_set new (take at out ++ t.tens) (at + size) one other (omega (arith, shows_some)) (omega arith) before
            ∙ append_assoc (take at out) t.tens (other ∷ [])
            ∙ ap (λ (l : List ℕ). take at out ++ l) (sym t.other);
        ends =
            ap (λ (k : ℕ). at + k)
            (shows.ends
            ∙ ap length t.one
            ∙ length-append t.tens (one ∷ [])
            ∙ sym (length-append t.tens (other ∷ []))
            ∙ sym (ap length t.other));
      }
