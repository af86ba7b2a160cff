-- What writing a text gives, on every store: the machine's reply, and the buffer with it.
use Rattle.std.specs.Prelude.{Result, Ok, Err, ◌≡◌, List, [], ◌++◌, ℕ, length, drop}
use Rattle.machine.specs.declared.Queue.{Queue}
use Rattle.machine.specs.declared.Refusal.{Refusal}
use Rattle.machine.specs.Answers.{LengthAnswer}
use Rattle.machine.specs.Calls.{write, Reply, store}
use Rattle.machine.specs.Machine.{machine}
use Rattle.machine.specs.Answers.{TellsLength, filled_part}
use Rattle.printer.specs.declared.Unfit.{Unfit}

-- what was measured, as an answer
abbrev pub answer_of : Result ℕ Unfit → LengthAnswer
answer_of (Ok n) = Ok n
answer_of (Err Unfit.TooDeep) = Err Refusal.TooDeep
answer_of (Err Unfit.NoRoom) = Err Refusal.BufferTooShort

-- the machine's reply to writing the word w into so much room
abbrev pub reply_to : List ℕ → Queue → ℕ → ℕ → Reply
reply_to t q w room = (machine (store t q []) (write w room)).reply

-- the answer tells it, and the text is the buffer's front; the rest of the buffer stands, and all of it where the writing is refused
pub record Puts (t : List ℕ) (q : Queue) (w : ℕ) (old new : List ℕ) (answer : LengthAnswer) : Type 0 where
  pub told : TellsLength answer (reply_to t q w (length old))
  pub buffer : new ≡ filled_part (reply_to t q w (length old)) ++ drop (length (filled_part (reply_to t q w (length old)))) old

-- the part handed back begins where the buffer begins, and is the text; where the writing is refused it is empty, which no text is
pub record Writes (t : List ℕ) (q : Queue) (w room : ℕ) (buffer begin : ℕ × ℕ) (part : List ℕ) : Type 0 where
  pub filled : part ≡ filled_part (reply_to t q w room)
  pub front : begin ≡ buffer
