-- What measuring a text gives: its bytes where it fits, else what is met first.
use Rattle.std.specs.Prelude.{◌≡◌, List, ◌++◌, ℕ, Result, Ok, Err, length, drop}
use Rattle.notation.specs.Brackets.{Met, nothing, too_many, no_room, first_met}
use Rattle.machine.specs.Texts.{text_for}
use Rattle.printer.specs.declared.Unfit.{Unfit}

-- by what is met first
abbrev pub measured_by : Met → List ℕ → Result ℕ Unfit
measured_by nothing text = Ok (length text)
measured_by too_many text = Err Unfit.TooDeep
measured_by no_room text = Err Unfit.NoRoom

abbrev pub measured : ℕ → List ℕ → Result ℕ Unfit
measured room text = measured_by (first_met room 0 text) text

-- the text fits, and is just as long as the room
pub record Exact (room : ℕ) (t : List ℕ) (w : ℕ) : Type 0 where
  pub met : first_met room 0 (text_for room t w) ≡ nothing
  pub size : length (text_for room t w) ≡ room

-- a buffer with the text at its front, by what was measured: what stands behind the text stands, and all of it where the text does not fit
abbrev pub front : Result ℕ Unfit → List ℕ → List ℕ → List ℕ
front (Ok n) text old = text ++ drop n old
front (Err unfit) text old = old

pub record PutText (t : List ℕ) (w : ℕ) (old new : List ℕ) (answer : Result ℕ Unfit) : Type 0 where
  pub exact : answer ≡ measured (length old) (text_for (length old) t w)
  pub put : new ≡ front answer (text_for (length old) t w) old
