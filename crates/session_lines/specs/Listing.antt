-- The listing of an input: what the session program writes, as a definition on the list of the input's bytes.
use Rattle.std.specs.Prelude.{List, [], ◌∷◌, ◌++◌, ℕ, suc}
use Rattle.base_ten.specs.Bytes.{lines_of}
use Rattle.machine.specs.Words.{most_cells}
use Rattle.machine.specs.Calls.{Store}
use Rattle.line_text.specs.Requests.{request_of}
use Rattle.line_text.specs.Texts.{output_line}
use Rattle.serving.specs.Serving.{served_line, unmade}

-- the output of these lines, after so many
unfoldable pub listed : ℕ → Store → List (List ℕ) → List ℕ
listed n s [] = []
listed n s (line ∷ rest) =
    let r = served_line s (request_of line) in
    output_line (suc n) r.verdict ++ listed (suc n) r.after rest

-- with a table for c cells
unfoldable pub listing_with : ℕ → List ℕ → List ℕ
listing_with c input = listed 0 (unmade c) (lines_of input)

-- the session's table is long enough for 4,096 cells
unfoldable pub listing : List ℕ → List ℕ
listing input = listing_with most_cells input
