-- What the session program hands on: the calls of `feed` make a list of parts as the theorem on whole sessions wants it (session_lines/specs/Whole), and
-- what is read is fed, and what they give is written, where the bytes of the reader and the writer are known. Of the system's own streams std's contracts
-- say nothing of bytes.
use Rattle.std.specs.Prelude.{◌≡◌, Bool, true, false, List, ◌++◌, ℕ, ◌+◌, ◌^◌, ◌<◌, length, take, OnOk}
use mathlib.Core.Bool.{true≢false}
use Rattle.std.specs.declared.option.Option.{Option}
use Rattle.std.specs.declared.result.Result.{Result}
use Rattle.serving.specs.Threads.{Threads}
use Rattle.session_lines.specs.Listing.{listing}
use Rattle.session_lines.specs.Progress.{Finishes}
use Rattle.session_lines.specs.Whole.{State, FedPart, left, taken, written}
use Rattle.streams.specs.declared.Failure.{Failure}
use Rattle.streams.specs.Service.{Serves}
use Rattle.session.specs.declared.Serving.{Serving}

-- what is served, as the theorem on whole sessions has it
abbrev pub state : Serving → State
state s = record { session = s.session; table = s.table; scratch = s.scratch }

-- some calls of `feed`, each handed the state that the last one left, lead from s to s', take the bytes x and give the bytes y
abbrev pub Feeds : Serving → List ℕ → List ℕ → Serving → Type 0
Feeds s x y s' = Threads FedPart left taken written (state s) x y (state s')

-- `finish` kept its promise: the buffer's front is all that was ahead, and nothing is to come
pub record Finished (s : State) (y : List ℕ) (more : Bool) (out : List ℕ) : Type 0 where
  pub over : more ≡ false
  pub written : ℕ
  pub finishes : Finishes s.session s.table s.scratch written out
  pub gives : y ≡ take written out

-- so it is called once
pub finished_once : {s : State} {y out : List ℕ} {A : Type 0} → Finished s y true out → A
finished_once f = absurd (true≢false f.over)

-- a whole run: where it comes to the input's end, what was given is, by the theorem on whole sessions, the listing of what was taken
pub record Runs (s : Serving) (r w : Option (List ℕ)) (result : Result (Unit {0}) Failure) (out : List ℕ) (s' : Serving) (r' w' : Option (List ℕ)) : Type 0 where
  pub serves : Serves Feeds (λ last y. Finished (state last) y false out) (λ last y. (more : Bool) × Finished (state last) y more out) s r w result s' r' w'
  pub listed : OnOk result (length serves.taken + 1 < 2 ^ 64 → serves.given ++ serves.ending ≡ listing serves.taken)
