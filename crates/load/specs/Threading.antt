-- What the load program hands on: the calls of `keep` and of `next` make the lists that the theorem on whole loads wants (load_lines/specs/Whole), and what
-- is kept is of what is read, and what they give is written, where the bytes of the reader and the writer are known. Of the system's own streams std's
-- contracts say nothing of bytes.
use Rattle.std.specs.Prelude.{◌≡◌, Bool, true, false, List, [], ◌++◌, ℕ, ◌≤◌, replicate, OnOk}
use Rattle.std.proofs.Common.{refl}
use Rattle.std.specs.declared.option.Option.{Option}
use Rattle.std.specs.declared.result.Result.{Result}
use Rattle.line_text.specs.Kept.{kept_bytes}
use Rattle.serving.specs.Threads.{Threads}
use Rattle.serving.proofs.ThreadsLaws.{threads_none, threads_both}
use Rattle.streams.specs.declared.Failure.{Failure}
use Rattle.streams.specs.Service.{Serves}
use Rattle.traffic.specs.Workload.{workload_of}
use Rattle.load_lines.specs.Listing.{listing}
use Rattle.load_lines.specs.Progress.{is_more}
use Rattle.load_lines.specs.Whole.{Kept, kept, kept_input, Read, KeptPart, part, State, Part, WrotePart, left, written, begin}
use Rattle.load.specs.declared.Input.{Input}
use Rattle.load.specs.declared.Sending.{Sending}

-- what is kept, and what is sent from, as the theorem on whole loads has them
abbrev pub kept_of : Input → Kept
kept_of k = record { line = k.line; held = k.held }

abbrev pub state : Sending → State
state s = record { load = s.load; table = s.table; scratch = s.scratch }

-- a call of `keep` gives nothing
abbrev pub none_given : Read → List ℕ
none_given r = []

-- some calls of `keep`, each handed what the last one kept, lead from k to k', and take the bytes x
pub record Gathers (k : Input) (x y : List ℕ) (k' : Input) : Type 0 where
  pub threads : Threads KeptPart kept part none_given (kept_of k) x y (kept_of k')
  pub most : k.held ≤ kept_bytes → k'.held ≤ kept_bytes
  pub gives : y ≡ []

pub gathers_none : (k : Input) → Gathers k [] [] k
gathers_none k = record { threads = threads_none (kept_of k); most = λ h. h; gives = refl }

pub gathers_both : {k k' k'' : Input} {x y x' y' : List ℕ} → Gathers k x y k' → Gathers k' x' y' k'' → Gathers k (x ++ x') (y ++ y') k''
gathers_both a b = record { threads = threads_both a.threads b.threads; most = λ h. b.most (a.most h); gives = rw (a.gives, b.gives) refl }

-- a call of `next` takes nothing
abbrev pub none_taken : Part → List ℕ
none_taken p = []

-- some calls of `next`, each handed the state that the last one left, lead from s to s', and give the bytes y; and whether there is more
pub record Sends (s : Sending) (y : List ℕ) (more : Bool) (s' : Sending) : Type 0 where
  pub threads : Threads WrotePart left none_taken written (state s) [] y (state s')
  pub goes : more ≡ is_more s'.load

pub sends_both : {s s' s'' : Sending} {x y : List ℕ} {more : Bool} → Sends s x true s' → Sends s' y more s'' → Sends s (x ++ y) more s''
sends_both a b = record { threads = threads_both a.threads b.threads; goes = b.goes }

-- the calls of `next` began with the workload of what was kept, and there is no more
pub record Ends (k : Input) (y : List ℕ) : Type 0 where
  pub first : Sending
  pub last : Sending
  pub begins : state first ≡ begin (workload_of (kept_input (kept_of k)))
  pub sends : Sends first y false last

-- the calls of `next` began with that, as far as they came
pub record Tries (k : Input) (y : List ℕ) : Type 0 where
  pub first : Sending
  pub last : Sending
  pub more : Bool
  pub begins : state first ≡ begin (workload_of (kept_input (kept_of k)))
  pub sends : Sends first y more last

-- nothing is kept yet
abbrev pub no_input : Input
no_input = record { line = replicate kept_bytes 0; held = 0 }

-- a whole run: where it comes to the input's end, what was given is, by the theorem on whole loads, the listing of what was taken
pub record Runs (r w : Option (List ℕ)) (result : Result (Unit {0}) Failure) (r' w' : Option (List ℕ)) : Type 0 where
  pub kept_last : Input
  pub serves : Serves Gathers Ends Tries no_input r w result kept_last r' w'
  pub listed : OnOk result (serves.given ++ serves.ending ≡ listing serves.taken)
