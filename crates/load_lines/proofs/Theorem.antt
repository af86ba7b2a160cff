-- The parts' outputs joined are the listing of the inputs joined.
use mathlib.Core.Path.{◌≡◌, refl, sym, ap, ◌∙◌}
use mathlib.Core.List.{List, [], ◌∷◌, ◌++◌, append_assoc}
use Prim.Native.Nat.{ℕ, zero, suc}
use Rattle.std.specs.Prelude.{Option, Some, None}
use lib.ListN.{length, take}
use borrow.Author.Tests.{leb-false}
use Rattle.base_ten.proofs.WordLaws.{append_none}
use Rattle.machine.specs.Words.{most_cells}
use Rattle.line_text.specs.Kept.{kept_bytes}
use Rattle.serving.specs.Serving.{Good}
use Rattle.serving.proofs.ServeLaws.{unmade_good}
use Rattle.traffic.specs.declared.Workload.{Workload}
use Rattle.traffic.specs.Workload.{workload_of}
use Rattle.traffic.specs.Traffic.{traffic}
use Rattle.traffic.proofs.CapLaws.{workload_capped}
use Rattle.load_lines.specs.Listing.{listing_with, listing}
use Rattle.load_lines.specs.Progress.{upcoming, ahead, calls_of}
use Rattle.load_lines.specs.Whole.{Kept, kept_input, Read, Reads, last_kept, inputs, State, Part, Wrote, last_state, outputs, nothing, begin, Whole}
use Rattle.load_lines.proofs.WriteLaws.{nothing_ahead}

-- keeping the front of what is kept and more is keeping the front of all
take_front : (n : ℕ) (xs ys : List ℕ) → take n (take n xs ++ ys) ≡ take n (xs ++ ys)
take_front zero xs ys = refl
take_front (suc n) [] ys = refl
take_front (suc n) (x ∷ xs) ys = ap {B = List ℕ} (λ l. x ∷ l) (take_front n xs ys)

-- what is kept is the front of all that was read
kept_front : (k : Kept) (xs : List ℕ) (rs : List Read) → length k.line ≡ kept_bytes → kept_input k ≡ take kept_bytes xs → Reads k rs
    → kept_input (last_kept k rs) ≡ take kept_bytes (xs ++ inputs rs)
kept_front k xs [] size e h = e ∙ ap (take kept_bytes) (sym (append_none xs))
kept_front k xs (r ∷ rs) size e h =
    kept_front r.after (xs ++ r.part) rs (h.0.size ∙ size)
    (rw size at h.0.front ∙ ap (λ (x : List ℕ). take kept_bytes (x ++ r.part)) e ∙ take_front kept_bytes xs r.part)
    h.1
    ∙ ap (take kept_bytes) (append_assoc xs r.part (inputs rs))

-- what was written is the first of what was ahead
all_written : (s : State) (ps : List Part) → Wrote s ps → Good s.table s.load.queue
    → ahead s.load s.table s.scratch
    ≡ outputs ps ++ ahead (last_state s ps).load (last_state s ps).table (last_state s ps).scratch
all_written s [] h g = refl
all_written s (p ∷ ps) h g =
    let rest = ahead (last_state s (p ∷ ps)).load (last_state s (p ∷ ps)).table (last_state s (p ∷ ps)).scratch in
    h.0.listing g
    ∙ ap (λ (x : List ℕ). take p.written p.buffer ++ x) (all_written p.after ps h.1 (h.0.good g))
    ∙ sym (append_assoc (take p.written p.buffer) (outputs ps) rest)

-- before the first line the listing is all that is ahead
ahead_all : (w : Option Workload) → ahead (begin w).load (begin w).table (begin w).scratch ≡ listing_with most_cells w
unfolding ahead upcoming listing_with traffic
ahead_all (Some w) = refl
ahead_all None = refl

begun_good : (w : Option Workload) → Good (begin w).table (begin w).load.queue
begun_good (Some w) = unmade_good
begun_good None = unmade_good

pub whole : Whole
unfolding listing
whole line reads parts size h wrote over =
    let kept = kept_input (last_kept (nothing line) reads) in
    let input : workload_of kept ≡ workload_of (inputs reads) =
    ap workload_of (kept_front (nothing line) [] reads size refl h) ∙ workload_capped (inputs reads) in
    let s = begin (workload_of kept) in
    let last = last_state s parts in
    let done = leb-false last.load.done (calls_of last.load.asked) over in
    sym (append_none (outputs parts))
    ∙ ap (λ (x : List ℕ). outputs parts ++ x) (sym (nothing_ahead last.load last.table last.scratch done))
    ∙ sym (all_written s parts wrote (begun_good (workload_of kept)))
    ∙ ahead_all (workload_of kept)
    ∙ ap (listing_with most_cells) input
