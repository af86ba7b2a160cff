-- The answer of a rule's test that works in the scratch.
use Rattle.std.specs.Prelude.{◌≡◌, Bool, List, ℕ, drop}
use Rattle.machine.specs.Table.{capacity, scratch_words}

-- the rule's answer, with the scratch's words past those that the table needs as they were
pub record Audits (t : List ℕ) (rule : Bool) (s s' : List ℕ) (r : Bool) : Type 0 where
  pub answer : r ≡ rule
  pub past : drop (scratch_words (capacity t)) s' ≡ drop (scratch_words (capacity t)) s
