-- Laws of answers: every refusal has a number, and what the answer to a call's questions says, by its case.
use Rattle.std.specs.Prelude.{Ok, Err}
use mathlib.Core.Path.{◌≡◌, sym, ap, ◌∙◌}
use Prim.Native.Nat.{ℕ, ◌<◌}
use native.Mathlib.Omega.{arith}
use Rattle.machine.specs.declared.Refusal.{Refusal}
use Rattle.machine.specs.declared.Refusal.TheVariants.{StoreOutOfRange, ScratchTooShort, NumberOutOfRange, IllegalWord, NotACell, NotHeld, QueueFull, NoFreeCell, HeldCountTooHigh, TooManyPointers, NotInNotation, TooDeep, BufferTooShort, ClippedReading, SeatOutOfRange}
use Rattle.machine.specs.Answers.{Asked}
use Rattle.machine.specs.Answers.{refusal_number, asked_number}

pub refusal_some : (f : Refusal) → 0 < refusal_number f
refusal_some StoreOutOfRange = omega arith
refusal_some ScratchTooShort = omega arith
refusal_some NumberOutOfRange = omega arith
refusal_some IllegalWord = omega arith
refusal_some NotACell = omega arith
refusal_some NotHeld = omega arith
refusal_some QueueFull = omega arith
refusal_some NoFreeCell = omega arith
refusal_some HeldCountTooHigh = omega arith
refusal_some TooManyPointers = omega arith
refusal_some NotInNotation = omega arith
refusal_some TooDeep = omega arith
refusal_some BufferTooShort = omega arith
refusal_some ClippedReading = omega arith
refusal_some SeatOutOfRange = omega arith

pub asked_no : {r : Asked} {f : Refusal} {n : ℕ} → asked_number r ≡ n → r ≡ Err f → refusal_number f ≡ n
asked_no h e = sym (ap asked_number e) ∙ h

pub asked_yes : {r : Asked} {n : ℕ} → asked_number r ≡ n → r ≡ Ok tt → 0 ≡ n
asked_yes h e = sym (ap asked_number e) ∙ h
