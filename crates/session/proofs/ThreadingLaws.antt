-- The theorem on whole sessions at what a run hands on.
use Rattle.std.proofs.Common.{◌≡◌, Bool, ℕ, ◌+◌, ◌^◌, ◌<◌, List, false, ◌++◌, length, Ok, Err, OnOk}
use Rattle.std.specs.declared.option.Option.{Option}
use Rattle.std.specs.declared.result.Result.{Result}
use Rattle.session_lines.specs.Listing.{listing}
use Rattle.session_lines.specs.Whole.{begin, last_state}
use Rattle.session_lines.specs.Progress.{Finishes}
use Rattle.session_lines.proofs.Theorem.{whole}
use Rattle.streams.specs.declared.Failure.{Failure}
use Rattle.streams.specs.Service.{Serves}
use Rattle.session.specs.declared.Serving.{Serving}
use Rattle.session.specs.Threading.{state, Feeds, Finished}

pub serves_listed : {s s' : Serving} {r r' w w' : Option (List ℕ)} {out : List ℕ} (result : Result (Unit {0}) Failure) → state s ≡ begin
    → (a : Serves Feeds (λ last y. Finished (state last) y false out) (λ last y. (more : Bool) × Finished (state last) y more out) s r w result s' r' w') → OnOk result (length a.taken + 1 < 2 ^ 64 → a.given ++ a.ending ≡ listing a.taken)
serves_listed {out = out} (Ok u) e a = λ short.
    let t = rw e at a.threads in
    let f : Finishes (last_state begin t.parts).session (last_state begin t.parts).table (last_state begin t.parts).scratch a.ends.written out =
    rw t.last a.ends.finishes in
    rw (← t.took, ← t.gave, a.ends.gives) (whole t.parts a.ends.written out t.linked f (rw t.took short))
serves_listed (Err e) b a = tt
