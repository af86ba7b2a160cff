-- The session program, given the call lines of a load, writes its reply lines. The proof is `agrees` in proofs/Agrees.
use Rattle.std.specs.Prelude.{◌≡◌, List, [], ◌∷◌, ◌++◌, ℕ, suc, ◌≤◌}
use Rattle.machine.specs.Words.{most_cells}
use Rattle.machine.specs.Calls.{Store}
use Rattle.line_text.specs.declared.Request.{Request}
use Rattle.line_text.specs.Texts.{output_line}
use Rattle.call_text.specs.CallText.{call_line}
use Rattle.serving.specs.Serving.{served, unmade}
use Rattle.session_lines.specs.Listing as session
use Rattle.traffic.specs.Workload.{most_count}
use Rattle.traffic.specs.Traffic.{traffic}

-- of what `Listing.told` has in turns, the call lines alone and the reply lines alone
unfoldable pub call_lines : List Request → List ℕ
call_lines [] = []
call_lines (request ∷ rest) = call_line request ++ call_lines rest

unfoldable pub reply_lines : ℕ → Store → List Request → List ℕ
reply_lines n s [] = []
reply_lines n s (request ∷ rest) =
    let r = served s request in
    output_line (suc n) r.verdict ++ reply_lines (suc n) r.after rest

abbrev pub Agrees : Type 0
Agrees = (seed c n : ℕ) → c ≤ most_count → session.listing (call_lines (traffic seed c n)) ≡ reply_lines 0 (unmade most_cells) (traffic seed c n)
