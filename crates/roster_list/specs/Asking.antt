-- Questions asked of any store with nothing changed.
use Rattle.std.specs.Prelude.{◌≡◌, true, List, ℕ}
use Rattle.machine.specs.declared.Queue.{Queue}
use Rattle.machine.specs.Answers.{Asked}
use Rattle.machine.specs.Answers.{asked_number}
use Rattle.machine.specs.Calls.{store}
use Rattle.machine.specs.Questions.{Question, first_no, in_range}
use Rattle.readings.specs.Calls.{ask_store}

-- the answer is the first "no" of these questions, or "yes"; table and scratch are unchanged
pub record Asks (ks : List Question) (t s : List ℕ) (r : Asked) (t' s' : List ℕ) : Type 0 where
  pub number : asked_number r ≡ first_no ks
  pub table : t' ≡ t
  pub scratch : s' ≡ s

-- question 2 where question 1 says "yes"
abbrev pub ScratchAsks : List ℕ → List ℕ → Asked → List ℕ → List ℕ → Type 0
ScratchAsks t s r t' s' = (q : Queue) → in_range t q ≡ true → Asks (ask_store (store t q s)) t s r t' s'
