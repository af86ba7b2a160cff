-- A request served by the machine: what is said of its reply, and the store afterwards. The stores that a program which serves requests can have.
use Rattle.std.specs.Prelude.{◌≡◌, ◌⊎◌, Option, Some, None, List, ℕ, replicate}
use Rattle.machine.specs.declared.Queue.{Queue}
use Rattle.machine.specs.Table.{capacity, table_length, scratch_words}
use Rattle.machine.specs.Queue.{empty_queue}
use Rattle.machine.specs.Calls.{Call, fresh, row, step, Store, store}
use Rattle.machine.specs.Answers.{call_of}
use Rattle.machine.specs.Machine.{machine}
use Rattle.soundness.specs.Whole.{Whole}
use Rattle.line_text.specs.declared.Request.{Request}
use Rattle.line_text.specs.declared.Verdict.{Verdict}
use Rattle.line_text.specs.Verdicts.{verdict_of}

-- a verdict, and the store afterwards
pub record Served : Type 0 where
  pub verdict : Verdict
  pub after : Store

unfoldable pub called : Store → Call → Served
called s call = let o = machine s call in record { verdict = verdict_of o.reply; after = o.after }

abbrev pub served : Store → Request → Served
served s (Request.Fresh c) = called s (fresh c)
served s (Request.Row call) = called s (row (call_of call))
served s Request.Step = called s step

-- a line that asks for nothing leaves the store as it is
abbrev pub served_line : Store → Option Request → Served
served_line s (Some request) = served s request
served_line s None = record { verdict = Verdict.Bad; after = s }

-- before a fresh the table is zero
abbrev pub unmade : ℕ → Store
unmade c = store (replicate (table_length c) 0) empty_queue (replicate (scratch_words c) 0)

-- a store without an accepted fresh yet, or a sound one
abbrev pub Good : List ℕ → Queue → Type 0
Good t q = (capacity t ≡ 0) ⊎ Whole t q

-- verdict and store are these, and the store is good again
pub record Serves (o : Served) (v : Verdict) (s' : Store) : Type 0 where
  pub verdict : v ≡ o.verdict
  pub after : s' ≡ o.after
  pub good : Good s'.table s'.queue
