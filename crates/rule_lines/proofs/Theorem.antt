-- The parts' outputs joined are the listing of the parts joined.
use mathlib.Core.Path.{◌≡◌, sym, ap, ◌∙◌}
use mathlib.Core.List.{List, [], ◌∷◌, ◌++◌}
use Prim.Native.Nat.{ℕ}
use Rattle.base_ten.specs.Bytes.{lines_of}
use Rattle.base_ten.specs.Lines.{onto}
use Rattle.base_ten.proofs.WordLaws.{append_none}
use Rattle.base_ten.proofs.LineLaws.{onto_none}
use Rattle.rule_lines.specs.Answers.{answers, listing}
use Rattle.rule_lines.specs.Progress.{State, CleanState, begun_line, ahead, Tells}
use Rattle.rule_lines.specs.Whole.{Begins, Part, Fed, last_state, inputs, outputs, Whole}
use Rattle.rule_lines.proofs.TellsLaws.{tells_both, tells_none}

all_tells : (s : State) (ps : List Part) → Fed s ps → Tells s (inputs ps) (outputs ps) (last_state s ps)
all_tells s [] f = tells_none s
all_tells s (p ∷ ps) f = tells_both f.0.tells (all_tells p.after ps f.1)

-- before any input the listing is all that is ahead
ahead_all : (s : State) → Begins s → (x : List ℕ) → listing x ≡ ahead s x
unfolding ahead listing
ahead_all s b x =
    let none : begun_line s ≡ [] = rw b.starts.held in
    ap answers (sym (onto_none (lines_of x))) ∙ ap (λ (l : List ℕ). answers (onto l (lines_of x))) (sym none)

pub begins_clean : {s : State} → Begins s → CleanState s
begins_clean {s} b = record { store = b.starts.freshens s.scratch b.long b.lent; kept = b.kept }

pub whole : Whole
whole s ps written buffer b f e =
    let t = all_tells s ps f in
    let x = inputs ps in
    let c = begins_clean b in
    sym (
    ahead_all s b x
    ∙ ap (ahead s) (sym (append_none x))
    ∙ t.listing c []
    ∙ ap (λ (z : List ℕ). outputs ps ++ z) (e.listing (t.clean c)))
