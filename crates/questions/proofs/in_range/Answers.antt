use mathlib.Core.Path.{sym, ap, ◌∙◌}
use Prim.Native.Nat.{ℕ}
use native.Mathlib.Omega.{arith}
use lib.Dec.{leb}
use lib.ListN.{length}
use Rattle.machine.specs.Table.{table_length}
use Rattle.machine.proofs.Questions.{not_in_range, in_range_length}
use Rattle.questions.proofs.in_range.Goals as goal
use Rattle.questions.proofs.in_range.Goals.{then-c-first_free-via-then-c-first_free, then-c-first_free-via-else-c-first_free+then-c-last_free, then-queue-ge-SLOTS-via-then-queue-ge-SLOTS, then-queue-ge-SLOTS-via-else-queue-ge-SLOTS+then-queue-gt-SLOTS}

pub returns-then-table-words_for : goal.returns-then-table-words_for
returns-then-table-words_for c = sym (not_in_range _ _ (λ s. let t = s.table in let r = s.queue in omega arith))

pub returns-then-c-lt1 : goal.returns-then-c-lt1
returns-then-c-lt1 c = sym (not_in_range _ _ (λ s. let t = s.table in let r = s.queue in omega arith))

pub returns-then-c-first_free : goal.returns-then-c-first_free
returns-then-c-first_free c =
    sym (not_in_range _ _ (λ s. let t = s.table in
    elim c.then-c-first_free.branch [
      | then-c-first_free-via-then-c-first_free w ↦ omega arith
      | then-c-first_free-via-else-c-first_free+then-c-last_free w ↦ omega arith
    ]))

pub returns-then-queue-ge-SLOTS : goal.returns-then-queue-ge-SLOTS
returns-then-queue-ge-SLOTS c =
    sym (not_in_range _ _ (λ s. let r = s.queue in
    elim c.then-queue-ge-SLOTS.branch [
      | then-queue-ge-SLOTS-via-then-queue-ge-SLOTS w ↦ omega arith
      | then-queue-ge-SLOTS-via-else-queue-ge-SLOTS+then-queue-gt-SLOTS w ↦ omega arith
    ]))

pub returns : goal.returns
returns c =
    let i = c.args in
    let t = i.table.now in
    ap (λ (n : ℕ). leb n (length t)) (c.words_for-2.ensures ∙ ap table_length c.capacity_of-c.ensures)
    ∙ sym (in_range_length t i.queue.now (omega arith) (omega arith) (omega arith) (omega arith) (omega arith) (omega arith))
