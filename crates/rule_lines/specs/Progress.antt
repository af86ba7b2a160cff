-- How far the rules have come: what is still to be written follows from the bytes of the present line and the input to come.
use Rattle.std.specs.Prelude.{◌≡◌, Option, IsSome, MatchOption, List, [], ◌++◌, ℕ, ◌+◌, ◌≤◌, ◌<◌, length, take}
use Rattle.base_ten.specs.Bytes.{lines_of}
use Rattle.base_ten.specs.Lines.{onto}
use Rattle.machine.specs.declared.Queue.{Queue}
use Rattle.rule_lines.specs.declared.Rules.{Rules}
use Rattle.rule_lines.specs.Answers.{answers, room}
use Rattle.rule_lines.specs.Kept.{kept_bytes}
use Rattle.rule_lines.specs.Stores.{Clean, Freshens}

-- what is carried beside the table, the scratch and the line's bytes that are lent
pub record State : Type 0 where
  pub rules : Rules
  pub table : List ℕ
  pub scratch : List ℕ
  pub line : List ℕ

abbrev pub state : Rules → List ℕ → List ℕ → List ℕ → State
state r t scratch line = record { rules = r; table = t; scratch = scratch; line = line }

abbrev pub rules_of : ℕ → Queue → Rules
rules_of held queue = record { held = held; queue = queue }

-- between two lines the store is clean; and as many bytes of a line are kept as tell that it is too long
pub record CleanState (s : State) : Type 0 where
  pub store : Clean s.table s.rules.queue s.scratch
  pub kept : length s.line ≡ kept_bytes

abbrev pub begun_line : State → List ℕ
begun_line s = take s.rules.held s.line

-- the output still to come when this is the rest of the input
unfoldable pub ahead : State → List ℕ → List ℕ
ahead s rest = answers (onto (begun_line s) (lines_of rest))

-- the input x takes the state s to s' and gives the output y
pub record Tells (s : State) (x y : List ℕ) (s' : State) : Type 0 where
  pub clean : CleanState s → CleanState s'
  pub listing : CleanState s → (rest : List ℕ) → ahead s (x ++ rest) ≡ y ++ ahead s' rest

-- Of an input some is taken, and all of it if the buffer has room; the buffer's front is the output for what was taken.
pub record Feeds (s : State) (input : List ℕ) (s' : State) (taken written : ℕ) (out : List ℕ) : Type 0 where
  pub most : taken ≤ length input
  pub within : written ≤ length out
  pub some : 0 < length input → room ≤ length out → 0 < taken
  pub all : written + room ≤ length out → taken ≡ length input
  pub tells : Tells s (take taken input) (take written out) s'

-- At the end of the input the buffer's front is all that was ahead.
pub record Finishes (s : State) (written : ℕ) (out : List ℕ) : Type 0 where
  pub within : written ≤ length out
  pub listing : CleanState s → ahead s [] ≡ take written out

-- Any buffer may be lent for that: with room for an answer all is written, and how much is told. Without room nothing may be told, and then nothing has
-- changed.
pub record FinishesWithRoom (s : State) (out : List ℕ) (written : Option ℕ) (s' : State) (out' : List ℕ) : Type 0 where
  pub over : room ≤ length out → IsSome written
  pub finishes : MatchOption written ((s' ≡ s) × (out' ≡ out)) (λ n. Finishes s n out')

-- a table long enough, and scratch enough: clean before any input
pub record Starts (t t' : List ℕ) (r : Rules) : Type 0 where
  pub held : r.held ≡ 0
  pub freshens : Freshens t t' r.queue
