-- What building a text's tree gives.
use Rattle.std.specs.Prelude.{◌≡◌, false, List, [], ℕ, ◌≤◌}
use Rattle.notation.specs.Trees.{Tree, pairs}
use Rattle.notation.specs.Parse.{parse, tree}
use Rattle.notation.specs.Brackets.{too_deep}
use Rattle.machine.specs.declared.Queue.{Queue}
use Rattle.machine.specs.Queue.{slots}
use Rattle.machine.specs.Calls.{Store, store, cons}
use Rattle.machine.specs.Step.{Outcome}
use Rattle.machine.specs.Texts.{Built, built, build_by}
use Rattle.calls.specs.Called.{outcome_of}

-- a cons as the code makes it, which is lent no scratch
abbrev pub code_cons : Store → ℕ → ℕ → Outcome
code_cons s x y = outcome_of s.table s.queue (cons x y)

-- the word, the table and the queue are those of b
abbrev pub Leaves : Built → ℕ → List ℕ → Queue → Type 0
Leaves b w t q = b ≡ built w (store t q [])

-- a text that is read: in the notation, not too deep, with no more pairs than the queue has slots
pub record Readable (text : List ℕ) : Type 0 where
  pub means : Tree
  pub parsed : parse text ≡ tree means
  pub shallow : too_deep 0 text ≡ false
  pub few : pairs means ≤ slots

-- its tree is built
abbrev pub Builds : List ℕ → Queue → List ℕ → ℕ → List ℕ → Queue → Type 0
Builds t q text w t' q' = (u : Tree) → parse text ≡ tree u → Leaves (build_by code_cons (store t q []) u) w t' q'
