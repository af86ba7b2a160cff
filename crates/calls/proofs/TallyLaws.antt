-- The sums of an operand.
use mathlib.Core.Path.{◌≡◌, ap, ◌∙◌}
use mathlib.Core.List.{List}
use Rattle.std.specs.Prelude.{Some, None}
use Prim.Native.Nat.{ℕ, pred}
use native.Mathlib.Omega.{arith}
use Rattle.machine.specs.Table.{word_at}
use Rattle.machine.specs.Queue.{Packet}
use Rattle.machine.specs.Packets.{Counter}
use Rattle.machine.specs.Step.{counter_word}
use Rattle.machine.proofs.Range.{not_both}
use Rattle.queue.specs.Sums.{CounterSums, WithCount}
use Rattle.counts.specs.Cells.{IndexOf}
use Rattle.calls.specs.Tally.{CounterTally}

-- of the cell at index i, one counter's: the counter n, and the sums r and l of its waiting changes
pub counter_tally : (k : Counter) (m : ℕ) (t : List ℕ) (ps : List Packet) (w i n r l r' l' : ℕ) → IndexOf t w (Some i)
    → n ≡ word_at t i (counter_word k) → CounterSums k ps w r l → WithCount n r l r' l' → CounterTally k m t ps w r' l'
counter_tally k m t ps w i n r l r' l' h e s c =
    let p : i ≡ pred w = omega (arith, h.1) in
    record {
      raised = λ _. omega (arith, e ∙ ap (λ (j : ℕ). word_at t j (counter_word k)) p, s.raised, c.raised);
      lowered = λ _. c.lowered ∙ s.lowered;
      other = λ f. absurd (not_both h.0 f);
    }

-- and of any other word
pub counter_other : (k : Counter) (m : ℕ) (t : List ℕ) (ps : List Packet) (w r l : ℕ) → IndexOf t w None → r ≡ m → l ≡ 0 → CounterTally k m t ps w r l
counter_other k m t ps w r l h d e = record {
  raised = λ f. absurd (not_both f h);
  lowered = λ f. absurd (not_both f h);
  other = λ _. (d, e);
}
