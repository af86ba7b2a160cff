-- For each enum of the code the paper's call, number or values.
use Rattle.std.specs.Prelude.{◌≡◌, List, [], ℕ, Result, Ok, Err, length}
use Rattle.machine.specs.declared.Refusal.{Refusal}
use Rattle.machine.specs.declared.Refusal.TheVariants.{StoreOutOfRange, ScratchTooShort, NumberOutOfRange, IllegalWord, NotACell, NotHeld, QueueFull, NoFreeCell, HeldCountTooHigh, TooManyPointers, NotInNotation, TooDeep, BufferTooShort, ClippedReading, SeatOutOfRange}
use Rattle.machine.specs.declared.RowCall as declared
use Rattle.machine.specs.declared.Step.{Step}
use Rattle.machine.specs.declared.Rule.{Rule}
use Rattle.machine.specs.declared.Finding.{Finding}
use Rattle.machine.specs.Calls.{RowCall, car, cdr, cons, set_left, set_right, up, down}
use Rattle.machine.specs.Calls.{Reply, value, refused, idle, applied, sound, broken, text}

-- the answers' types, by the code's names
abbrev pub Asked : Type 0
Asked = Result (Unit {0}) Refusal

abbrev pub RowAnswer : Type 0
RowAnswer = Result ℕ Refusal

abbrev pub FreshAnswer : Type 0
FreshAnswer = Result (Unit {0}) Refusal

abbrev pub StepAnswer : Type 0
StepAnswer = Result Step Refusal

abbrev pub AuditAnswer : Type 0
AuditAnswer = Result Finding Refusal

abbrev pub LengthAnswer : Type 0
LengthAnswer = Result ℕ Refusal

-- the question answered "no"
abbrev pub refusal_number : Refusal → ℕ
refusal_number StoreOutOfRange = 1
refusal_number ScratchTooShort = 2
refusal_number NumberOutOfRange = 3
refusal_number IllegalWord = 4
refusal_number NotACell = 5
refusal_number NotHeld = 6
refusal_number QueueFull = 7
refusal_number NoFreeCell = 8
refusal_number HeldCountTooHigh = 9
refusal_number TooManyPointers = 10
refusal_number NotInNotation = 11
refusal_number TooDeep = 12
refusal_number BufferTooShort = 13
refusal_number ClippedReading = 14
refusal_number SeatOutOfRange = 15

-- the first "no" of a call's questions, or 0
abbrev pub asked_number : Asked → ℕ
asked_number (Ok _) = 0
asked_number (Err r) = refusal_number r

-- the rule broken
abbrev pub rule_number : Rule → ℕ
rule_number Rule.Cells = 1
rule_number Rule.FreeChain = 2
rule_number Rule.Packets = 3
rule_number Rule.Pointers = 4
rule_number Rule.Reached = 5

-- the row call
abbrev pub call_of : declared.RowCall → RowCall
call_of (declared.RowCall.Car x) = car x
call_of (declared.RowCall.Cdr x) = cdr x
call_of (declared.RowCall.Cons x y) = cons x y
call_of (declared.RowCall.SetLeft x y) = set_left x y
call_of (declared.RowCall.SetRight x y) = set_right x y
call_of (declared.RowCall.Up x n) = up x n
call_of (declared.RowCall.Down x n) = down x n

abbrev pub row_reply : RowAnswer → Reply
row_reply (Ok w) = value w
row_reply (Err r) = refused (refusal_number r)

abbrev pub fresh_reply : FreshAnswer → Reply
fresh_reply (Ok _) = value 0
fresh_reply (Err r) = refused (refusal_number r)

abbrev pub step_reply : StepAnswer → Reply
step_reply (Ok Step.Idle) = idle
step_reply (Ok (Step.Applied k n)) = applied k n
step_reply (Err r) = refused (refusal_number r)

abbrev pub audit_answer_reply : AuditAnswer → Reply
audit_answer_reply (Ok Finding.Sound) = sound
audit_answer_reply (Ok (Finding.Broken r)) = broken (rule_number r)
audit_answer_reply (Err r) = refused (refusal_number r)

-- writing a text: its length, or the refusal
abbrev pub TellsLength : LengthAnswer → Reply → Type 0
TellsLength (Ok n) r = (bytes : List ℕ) × (r ≡ text bytes) × (n ≡ length bytes)
TellsLength (Err f) r = r ≡ refused (refusal_number f)

-- the part of the buffer that the reply to writing a text fills: of a refusal nothing
abbrev pub filled_part : Reply → List ℕ
filled_part (value w) = []
filled_part (refused n) = []
filled_part idle = []
filled_part (applied k n) = []
filled_part sound = []
filled_part (broken n) = []
filled_part (text bytes) = bytes
