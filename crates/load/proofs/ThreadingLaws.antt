-- The theorem on whole loads at what a run hands on.
use Rattle.std.proofs.Common.{◌≡◌, refl, sym, false, ℕ, List, ◌++◌, replicate, Ok, Err, OnOk}
use Rattle.std.specs.declared.option.Option.{Option}
use Rattle.std.specs.declared.result.Result.{Result}
use Rattle.line_text.specs.Kept.{kept_bytes}
use Rattle.streams.specs.declared.Failure.{Failure}
use Rattle.streams.specs.Service.{Serves}
use Rattle.traffic.specs.Workload.{workload_of}
use Rattle.load_lines.specs.Listing.{listing}
use Rattle.load_lines.specs.Progress.{is_more}
use Rattle.load_lines.specs.Whole.{nothing, kept_input, begin, Wrote, last_kept, last_state}
use Rattle.load_lines.proofs.Theorem.{whole}
use Rattle.load.specs.declared.Input.{Input}
use Rattle.load.specs.Threading.{Gathers, Ends, Tries, no_input}

pub serves_listed : {k : Input} {r r' w w' : Option (List ℕ)} (result : Result (Unit {0}) Failure) (a : Serves Gathers Ends Tries no_input r w result k r' w')
    → OnOk result (a.given ++ a.ending ≡ listing a.taken)
serves_listed (Ok u) a =
    let t = a.threads.threads in
    let e = a.ends in
    let sent = e.sends.threads in
    let k = nothing (replicate kept_bytes 0) in
    let wrote : Wrote (begin (workload_of (kept_input (last_kept k t.parts)))) sent.parts = rw (t.last, ← e.begins) sent.linked in
    let over : is_more (last_state (begin (workload_of (kept_input (last_kept k t.parts)))) sent.parts).load ≡ false =
    rw (t.last, ← e.begins, sent.last) (sym e.sends.goes) in
    rw (← t.took, a.threads.gives, ← sent.gave) (whole (replicate kept_bytes 0) t.parts sent.parts refl t.linked wrote over)
serves_listed (Err e) a = tt
