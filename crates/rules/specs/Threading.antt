-- What the rules program hands on: the calls of `feed` make a list of parts as the theorem on whole inputs wants it (rule_lines/specs/Whole), and what is
-- read is fed, and what they give is written, where the bytes of the reader and the writer are known. Of the system's own streams std's contracts say
-- nothing of bytes.
use Rattle.std.specs.Prelude.{◌≡◌, Bool, true, false, List, ◌++◌, ℕ, take, OnOk}
use mathlib.Core.Bool.{true≢false}
use Rattle.std.specs.declared.option.Option.{Option}
use Rattle.std.specs.declared.result.Result.{Result}
use Rattle.serving.specs.Threads.{Threads}
use Rattle.rule_lines.specs.Answers.{listing}
use Rattle.rule_lines.specs.Progress.{State, state, Finishes}
use Rattle.rule_lines.specs.Whole.{FedPart, left, taken, written}
use Rattle.streams.specs.declared.Failure.{Failure}
use Rattle.streams.specs.Service.{Serves}
use Rattle.rules.specs.declared.Answering.{Answering}

-- what is answered from, as the theorem on whole inputs has it
abbrev pub state_of : Answering → State
state_of s = state s.rules s.table s.scratch s.line

-- some calls of `feed`, each handed the state that the last one left, lead from s to s', take the bytes x and give the bytes y
abbrev pub Feeds : Answering → List ℕ → List ℕ → Answering → Type 0
Feeds s x y s' = Threads FedPart left taken written (state_of s) x y (state_of s')

-- `finish` kept its promise: the buffer's front is all that was ahead, and nothing is to come
pub record Finished (s : State) (y : List ℕ) (more : Bool) (out : List ℕ) : Type 0 where
  pub over : more ≡ false
  pub written : ℕ
  pub finishes : Finishes s written out
  pub gives : y ≡ take written out

-- so it is called once
pub finished_once : {s : State} {y out : List ℕ} {A : Type 0} → Finished s y true out → A
finished_once f = absurd (true≢false f.over)

-- a whole run: where it comes to the input's end, what was given is, by the theorem on whole inputs, the listing of what was taken
pub record Runs (s : Answering) (r w : Option (List ℕ)) (result : Result (Unit {0}) Failure) (out : List ℕ) (s' : Answering) (r' w' : Option (List ℕ)) : Type 0 where
  pub serves : Serves Feeds (λ last y. Finished (state_of last) y false out) (λ last y. (more : Bool) × Finished (state_of last) y more out) s r w result s' r' w'
  pub listed : OnOk result (serves.given ++ serves.ending ≡ listing serves.taken)
