-- The machine: for any store and call, the reply and the store afterwards.
use Rattle.std.specs.Prelude.{List, [], ◌∷◌, ℕ, zero, suc}
use Rattle.notation.specs.Trees.{Tree}
use Rattle.notation.specs.Parse.{parse, meaning}
use Rattle.machine.specs.Queue.{empty_queue, appended_all}
use Rattle.machine.specs.Calls.{RowCall, cons, Call, fresh, row, step, audit, read, write, Reply, value, refused, text, Store, store, packets_of, written, value_of, fresh_table}
use Rattle.machine.specs.Step.{named_all, Outcome, outcome, stepped}
use Rattle.machine.specs.Texts.{build_by, text_for}
use Rattle.machine.specs.Questions.{questions, first_no}
use Rattle.machine.specs.Audit.{audited}

-- the first "no" gives its number, and nothing lent changes; else o
abbrev pub refused_or : ℕ → Store → Outcome → Outcome
refused_or zero s o = o
refused_or (suc n) s o = outcome (refused (suc n)) s

-- what an accepted row call gives: its packet is queued, and the cells that it names are named so much more often
abbrev pub accepted_row : Store → RowCall → Outcome
accepted_row s r =
    let ps = packets_of s.table r in
    outcome (value (value_of s.table r)) (store (named_all (written s.table r) ps) (appended_all s.queue ps) s.scratch)

-- the machine's cons
unfoldable pub consed : Store → ℕ → ℕ → Outcome
consed s x y = refused_or (first_no (questions s (row (cons x y)))) s (accepted_row s (cons x y))

-- a text read: its cells are built by the machine's cons, and the reply is the word
unfoldable pub text_read : Store → Tree → Outcome
text_read s t = let b = build_by consed s t in outcome (value b.word) b.after

-- what an accepted call gives
unfoldable pub accepted : Store → Call → Outcome
accepted s (fresh c) = outcome (value 0) (store (fresh_table c s.table) empty_queue s.scratch)
accepted s (row r) = accepted_row s r
accepted s step = stepped s
accepted s audit = audited s
accepted s (read bytes) = text_read s (meaning (parse bytes))
accepted s (write w room) = outcome (text (text_for room s.table w)) s

unfoldable pub answered : ℕ → Store → Call → Outcome
answered n s call = refused_or n s (accepted s call)

unfoldable pub machine : Store → Call → Outcome
machine s call = answered (first_no (questions s call)) s call

-- a list of calls, first to last: the store afterwards
unfoldable pub run : Store → List Call → Store
run s [] = s
run s (call ∷ calls) = run (machine s call).after calls

-- the replies
unfoldable pub replies : Store → List Call → List Reply
replies s [] = []
replies s (call ∷ calls) = (machine s call).reply ∷ replies (machine s call).after calls
