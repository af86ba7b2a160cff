-- The table of wrong answers, by computation.
use mathlib.Core.Path.{◌≡◌, refl, sym, ap, ◌∙◌}
use mathlib.Core.Bool.{true≢false}
use mathlib.Core.List.{List, [], ◌∷◌}
use Prim.Native.Nat.{ℕ, ◌≤◌}
use native.Mathlib.Omega.{arith}
use lib.ListN.{length}
use Rattle.base_ten.specs.Bytes.{ascii}
use borrow.Author.Tests.{le-leb}
use Rattle.machine.specs.Table.{table_length}
use Rattle.machine.specs.Queue.{empty_queue}
use Rattle.machine.specs.Calls.{fresh, write, Reply, value, text, Store, store, fresh_table}
use Rattle.machine.specs.Step.{outcome}
use Rattle.machine.specs.Questions.{first_no, cells_in_range, long_enough, early, late, questions}
use Rattle.machine.specs.Machine.{accepted}
use Rattle.machine.specs.Answers.{filled_part}
use Rattle.machine.specs.Promise.{numbers, TextHanded}
use Rattle.machine.specs.WrongAnswers as table
use Rattle.machine.specs.WrongAnswers.{noes, OnlyAnswer, OnDamaged, WrongAnswers}
use Rattle.machine.proofs.Computes.{computes, computes_text}
use Rattle.machine.proofs.ManyPointers.{pointers_only}
use Rattle.machine.proofs.PointerCeiling.{pointer_ceiling}
use Rattle.machine.proofs.NilReads.{only_nil}
use Rattle.machine.proofs.RingText.{ring_deep, ring_short}
use Rattle.machine.proofs.TextBorders.{refuses_spaced, only_reads, only_refuses}
use Rattle.machine.proofs.Kept.{machine_accepted}
use Rattle.machine.proofs.OnlyAnswers.{is_sound, is_decided, is_settled, computed, expected, only_decided, only_first, all_only}

most_made : (s : Store) → table_length 4096 ≤ length s.table → OnlyAnswer s (fresh 4096) (value 0) (store (fresh_table 4096 s.table) empty_queue s.scratch)
unfolding questions early late first_no cells_in_range long_enough accepted
most_made s h =
    only_decided s (fresh 4096) (outcome (value 0) (store (fresh_table 4096 s.table) empty_queue s.scratch)) tt
    (machine_accepted s (fresh 4096) asked)
  where
    asked : first_no (questions s (fresh 4096)) ≡ 0
    asked = rw (le-leb (table_length 4096) (length s.table) h)

pub on_damaged : OnDamaged
unfolding computes computes_text numbers
on_damaged = record {
  step_refuses = λ n s' p. true≢false (sym (p.refusal n refl refl).0);
  row_refuses = λ n s' p. (p.refusal n refl refl).0;
  cons_refuses = λ n s' p. (p.refusal n refl refl).0;
  refused_stands = λ n s' p. (p.refusal n refl refl).1;
  row_past = λ r s' e p. absurd (omega (arith, heads (sym e ∙ p.bounded.past_cells)));
  step_past = λ r s' e p. absurd (omega (arith, heads (sym e ∙ p.bounded.past_cells)));
  read_past = λ r s' e p. absurd (omega (arith, heads (sym e ∙ p.bounded.past_cells)));
  scratch_past = λ r s' e p. absurd (omega (arith, heads (sym e ∙ p.bounded.past_scratch)));
}
  where
    heads : {a b : ℕ} {u v : List ℕ} → a ∷ u ≡ b ∷ v → a ≡ b
    heads e = cc

-- the part handed back is that of the only reply
handed_part : {s : Store} {w room : ℕ} {r : Reply} {after : Store} → OnlyAnswer s (write w room) r after → (buffer begin : ℕ × ℕ) (part : List ℕ)
    → TextHanded s w room buffer begin part → (begin ≡ buffer) × (part ≡ filled_part r)
handed_part {s} only buffer begin part h = (h.front, h.filled ∙ ap filled_part (only h.reply s h.promise).0)

pub wrong_answers : WrongAnswers
unfolding computes computes_text noes is_sound is_decided is_settled computed expected
wrong_answers = record {
  first_no_lem = only_first;
  nil_reads = λ s r e h. only_nil r e s h;
  fresh_most = most_made;
  longest_text = λ s h. only_reads s h 4094 (omega arith);
  too_long_text = λ s h. refuses_spaced s h 4095 (omega arith);
  too_long_refused = λ s h. only_refuses s h 4095 (omega arith);
  ring_deep = ring_deep;
  ring_short = ring_short;
  range = all_only table.range_entries refl;
  skipped = all_only table.skipped_entries refl;
  damaged = all_only table.damaged_entries refl;
  on_damaged = on_damaged;
  handed = handed_part (all_only (table.gives table.quiet (write 1 8) (text (ascii "(() . 7)")) table.quiet ∷ []) refl).0;
  handed_none = handed_part (all_only (table.refuses table.quiet (write 1 7) 13 [] ∷ []) refl).0.1;
  pointers = pointers_only;
  ceiling = pointer_ceiling;
  order = all_only table.order_entries refl;
  rows = all_only table.row_entries refl;
  nils = all_only table.nil_entries refl;
  texts = all_only table.text_entries refl;
  borders = all_only table.border_entries refl;
  clipped = all_only table.clipped_entries refl;
  clip_order = all_only table.clip_order_entries refl;
  unclipped = all_only table.unclipped_entries refl;
  names = all_only table.named_entries refl;
  freshes = all_only table.fresh_entries refl;
  steps = all_only table.step_entries refl;
  hanging = all_only table.hanging_entries refl;
  warm = all_only table.warm_entries refl;
  place_63 = all_only table.ring_entries refl;
  audits = all_only table.audit_entries refl;
  S1 = all_only table.s1_entries refl;
  S2 = all_only table.s2_entries refl;
  S3 = all_only table.s3_entries refl;
  S4 = all_only table.s4_entries refl;
  S5 = all_only table.s5_entries refl;
}
