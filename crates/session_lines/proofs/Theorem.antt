-- The parts' outputs joined are the listing of the parts joined.
use mathlib.Core.Path.{◌≡◌, sym, ap, ◌∙◌}
use mathlib.Core.List.{List, [], ◌∷◌, ◌++◌}
use Prim.Native.Nat.{ℕ}
use native.Mathlib.Omega.{arith}
use Rattle.base_ten.specs.Bytes.{lines_of}
use Rattle.base_ten.proofs.WordLaws.{append_none}
use Rattle.base_ten.proofs.LineLaws.{onto_none}
use Rattle.session_lines.specs.Listing.{listed, listing_with, listing}
use Rattle.machine.specs.Words.{most_cells}
use Rattle.serving.specs.Serving.{unmade}
use Rattle.serving.proofs.ServeLaws.{unmade_good}
use Rattle.session_lines.specs.Progress.{ahead, Tells}
use Rattle.session_lines.specs.Whole.{State, Part, Fed, last_state, inputs, outputs, begin, Whole}
use Rattle.session_lines.proofs.TellsLaws.{tells_both, tells_none}

all_tells : (s : State) (ps : List Part) → Fed s ps
    → Tells s.session s.table s.scratch (inputs ps) (outputs ps) (last_state s ps).session (last_state s ps).table (last_state s ps).scratch
all_tells s [] f = tells_none s.session s.table s.scratch
all_tells s (p ∷ ps) f = tells_both f.0.tells (all_tells p.after ps f.1)

-- before any input the listing is all that is ahead
ahead_all : (x : List ℕ) → listing x ≡ ahead begin.session begin.table begin.scratch x
unfolding ahead listing listing_with
ahead_all x = ap (listed 0 (unmade most_cells)) (sym (onto_none (lines_of x)))

pub whole : Whole
whole ps written buffer f e l =
    let t = all_tells begin ps f in
    let x = inputs ps in
    sym (
    ahead_all x
    ∙ ap (ahead begin.session begin.table begin.scratch) (sym (append_none x))
    ∙ t.listing unmade_good (omega arith) []
    ∙ ap (λ (z : List ℕ). outputs ps ++ z) (e.listing (t.good unmade_good) (omega (arith, t.counted))))
