-- The theorem on whole inputs at what a run hands on.
use Rattle.std.proofs.Common.{◌≡◌, Bool, ℕ, List, false, ◌++◌, Ok, Err, OnOk}
use Rattle.std.specs.declared.option.Option.{Option}
use Rattle.std.specs.declared.result.Result.{Result}
use Rattle.rule_lines.specs.Answers.{listing}
use Rattle.rule_lines.specs.Progress.{Finishes}
use Rattle.rule_lines.specs.Whole.{Begins, last_state}
use Rattle.rule_lines.proofs.Theorem.{whole}
use Rattle.streams.specs.declared.Failure.{Failure}
use Rattle.streams.specs.Service.{Serves}
use Rattle.rules.specs.declared.Answering.{Answering}
use Rattle.rules.specs.Threading.{state_of, Feeds, Finished}

pub serves_listed : {s s' : Answering} {r r' w w' : Option (List ℕ)} {out : List ℕ} (result : Result (Unit {0}) Failure) → Begins (state_of s)
    → (a : Serves Feeds (λ last y. Finished (state_of last) y false out) (λ last y. (more : Bool) × Finished (state_of last) y more out) s r w result s' r' w') → OnOk result (a.given ++ a.ending ≡ listing a.taken)
serves_listed {s = s} {out = out} (Ok u) b a =
    let t = a.threads in
    let f : Finishes (last_state (state_of s) t.parts) a.ends.written out = rw t.last a.ends.finishes in
    rw (← t.took, ← t.gave, a.ends.gives) (whole (state_of s) t.parts a.ends.written out b t.linked f)
serves_listed (Err e) b a = tt
