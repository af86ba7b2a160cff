-- Calls one after the other that take bytes and give bytes.
use Rattle.std.specs.Prelude.{◌≡◌, List, ℕ}
use Rattle.serving.specs.Chain.{Linked, last_of, joined}

-- some calls, each handed the state that the last one left, lead from s to s', take the bytes x and give the bytes y
pub record Threads {S P : Type 0} (Promise : S → P → Type 0) (after : P → S) (taken given : P → List ℕ) (s : S) (x y : List ℕ) (s' : S) : Type 0 where
  pub parts : List P
  pub linked : Linked Promise after s parts
  pub last : last_of after s parts ≡ s'
  pub took : joined taken parts ≡ x
  pub gave : joined given parts ≡ y
