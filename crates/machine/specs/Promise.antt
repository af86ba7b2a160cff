-- The one promise that every public call keeps, for any store s, call, reply r and store afterwards s'.
use Rattle.std.specs.Prelude.{◌≡◌, true, ◌⊎◌, List, ◌++◌, map, ℕ, suc, length, drop}
use Rattle.machine.specs.Table.{capacity, table_length, scratch_words}
use Rattle.machine.specs.Packets.{contains}
use Rattle.machine.specs.Calls.{Call, fresh, row, step, audit, read, write, Reply, refused, Store, reads_nil}
use Rattle.machine.specs.Questions.{Question, first_no, early, late, text_pairs}
use Rattle.machine.specs.Audit.{Sound}
use Rattle.machine.specs.Machine.{machine}
use Rattle.machine.specs.Answers.{LengthAnswer}
use Rattle.machine.specs.Answers.{TellsLength, filled_part}

-- Where the papers decide all that a call gives: fresh and the audit always, any other call on a sound store. On every store decided are an idle step and
-- a read of nil; and, stronger than the papers ask, reading a text without pairs and writing.
abbrev pub Decided : Store → Call → Type 0
Decided s (fresh c) = Unit {0}
Decided s (row r) = Sound s.table s.queue ⊎ (reads_nil r ≡ true)
Decided s step = Sound s.table s.queue ⊎ (s.queue.count ≡ 0)
Decided s audit = Unit {0}
Decided s (read text) = Sound s.table s.queue ⊎ (text_pairs text ≡ 0)
Decided s (write w room) = Unit {0}

-- nothing past the last cell's words or past the scratch that a table of C cells needs is written, and C stands
pub record Untouched (s s' : Store) : Type 0 where
  pub same_length : length s'.table ≡ length s.table
  pub same_capacity : capacity s'.table ≡ capacity s.table
  pub past_cells : drop (table_length (capacity s.table)) s'.table ≡ drop (table_length (capacity s.table)) s.table
  pub scratch_length : length s'.scratch ≡ length s.scratch
  pub past_scratch : drop (scratch_words (capacity s.table)) s'.scratch ≡ drop (scratch_words (capacity s.table)) s.scratch

-- fresh alone sets another C; all that it gives is decided; writing leaves the store as it was
abbrev pub Bounded : Call → Store → Store → Type 0
Bounded (fresh c) s s' = Unit {0}
Bounded (row r) s s' = Untouched s s'
Bounded step s s' = Untouched s s'
Bounded audit s s' = Untouched s s'
Bounded (read text) s s' = Untouched s s'
Bounded (write w room) s s' = s' ≡ s

-- reply and store are the machine's
abbrev pub ByMachine : Store → Call → Reply → Store → Type 0
ByMachine s call r s' = (r ≡ (machine s call).reply) × (s' ≡ (machine s call).after)

-- what the papers let each call give where they decide
abbrev pub Gives : Store → Call → Reply → Store → Type 0
Gives s (fresh c) r s' = ByMachine s (fresh c) r s'
Gives s (row k) r s' = ByMachine s (row k) r s'
Gives s step r s' = ByMachine s step r s'
Gives s audit r s' = ByMachine s audit r s'
Gives s (read text) r s' = ByMachine s (read text) r s'
Gives s (write w room) r s' = ByMachine s (write w room) r s'

unfoldable pub numbers : List Question → List ℕ
numbers ks = map (λ (k : Question). k.number) ks

pub record Promise (s : Store) (call : Call) (r : Reply) (s' : Store) : Type 0 where
  -- questions 1 to 5 and 14, and 11 and 12 of a text read, are answered as written on any store: the first "no" gives its number, and nothing lent changes
  pub asked : (n : ℕ) → first_no (early s call) ≡ suc n → (r ≡ refused (suc n)) × (s' ≡ s)
  -- where none of them says "no", a refusal carries one of the call's later numbers, and nothing lent changes
  pub refusal : (n : ℕ) → first_no (early s call) ≡ 0 → r ≡ refused n → (contains (numbers (late s call)) n ≡ true) × (s' ≡ s)
  -- where the papers decide, no other reply and store
  pub exact : Decided s call → Gives s call r s'
  -- on any store
  pub bounded : Bounded call s s'

-- Writing a text into a lent buffer: some reply keeps the promise, the answer tells it, and its text is the buffer's front; the rest of the buffer stands,
-- and all of it where the writing is refused.
pub record TextPut (s : Store) (w : ℕ) (old new : List ℕ) (answer : LengthAnswer) : Type 0 where
  pub reply : Reply
  pub promise : Promise s (write w (length old)) reply s
  pub told : TellsLength answer reply
  pub buffer : new ≡ filled_part reply ++ drop (length (filled_part reply)) old

-- The part of the buffer that is handed back begins where the buffer begins, and is the text; where the writing is refused it is empty, which no text is. A
-- place in memory is a block and an offset in it.
pub record TextHanded (s : Store) (w room : ℕ) (buffer begin : ℕ × ℕ) (part : List ℕ) : Type 0 where
  pub reply : Reply
  pub promise : Promise s (write w room) reply s
  pub filled : part ≡ filled_part reply
  pub front : begin ≡ buffer
