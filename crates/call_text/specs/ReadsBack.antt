-- The line of a call is read as that call, and that of none as none. The proof is `reads_back` in proofs/ReadsBack.
use Rattle.std.specs.Prelude.{◌≡◌, ◌≤◌, Some, None}
use Rattle.std.specs.declared.option.Option.{Option}
use Rattle.machine.specs.declared.RowCall.{RowCall}
use Rattle.line_text.specs.declared.Request.{Request}
use Rattle.line_text.specs.Requests.{most_operand, request_of}
use Rattle.call_text.specs.CallText.{asked_text}

-- operands are words of 16 bits
abbrev pub RowWords : RowCall → Type 0
RowWords (RowCall.Car x) = x ≤ most_operand
RowWords (RowCall.Cdr x) = x ≤ most_operand
RowWords (RowCall.Cons x y) = (x ≤ most_operand) × (y ≤ most_operand)
RowWords (RowCall.SetLeft x y) = (x ≤ most_operand) × (y ≤ most_operand)
RowWords (RowCall.SetRight x y) = (x ≤ most_operand) × (y ≤ most_operand)
RowWords (RowCall.Up x n) = (x ≤ most_operand) × (n ≤ most_operand)
RowWords (RowCall.Down x n) = (x ≤ most_operand) × (n ≤ most_operand)

abbrev pub Words : Request → Type 0
Words (Request.Fresh c) = c ≤ most_operand
Words (Request.Row call) = RowWords call
Words Request.Step = Unit {0}

abbrev pub AskedWords : Option Request → Type 0
AskedWords (Some request) = Words request
AskedWords None = Unit {0}

abbrev pub ReadsBack : Type 0
ReadsBack = (asked : Option Request) → AskedWords asked → request_of (asked_text asked) ≡ asked
