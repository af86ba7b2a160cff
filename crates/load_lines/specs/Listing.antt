-- The listing of an input: what the load program writes, as a definition on the list of the input's bytes.
use Rattle.std.specs.Prelude.{Option, Some, None, List, [], ◌∷◌, ◌++◌, ℕ, suc}
use Rattle.base_ten.specs.Bytes.{ascii, line_feed}
use Rattle.machine.specs.Words.{most_cells}
use Rattle.machine.specs.Calls.{Store}
use Rattle.line_text.specs.declared.Request.{Request}
use Rattle.line_text.specs.Texts.{output_line}
use Rattle.call_text.specs.CallText.{call_line}
use Rattle.serving.specs.Serving.{served, unmade}
use Rattle.traffic.specs.declared.Workload.{Workload}
use Rattle.traffic.specs.Workload.{workload_of}
use Rattle.traffic.specs.Traffic.{traffic}

-- "each call's line .. followed by its reply line", after so many calls
unfoldable pub told : ℕ → Store → List Request → List ℕ
told n s [] = []
told n s (request ∷ rest) =
    let r = served s request in
    call_line request ++ output_line (suc n) r.verdict ++ told (suc n) r.after rest

-- "any other input gives the one line BAD"
abbrev pub bad_line : List ℕ
bad_line = ascii "BAD" ++ (line_feed ∷ [])

-- "fresh's first", numbered "from 1 for fresh", with a table for so many cells
unfoldable pub listing_with : ℕ → Option Workload → List ℕ
listing_with most (Some w) = told 0 (unmade most) (traffic w.seed w.cells w.calls)
listing_with most None = bad_line

-- the program's table is long enough for 4,096 cells, as a session's is
unfoldable pub listing : List ℕ → List ℕ
listing input = listing_with most_cells (workload_of input)
