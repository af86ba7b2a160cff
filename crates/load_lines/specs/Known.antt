-- Worked loads, with a table for three cells, as the reference program writes them: calls of every kind, a cell made, read and freed, a C that is refused; and
-- inputs that are no workload.
use Rattle.std.specs.Prelude.{◌≡◌, List, [], ◌∷◌, ◌++◌, ℕ}
use Prim.Native.String.{String}
use Rattle.base_ten.specs.Bytes.{ascii, line_feed}
use Rattle.session_lines.specs.Known.{text}
use Rattle.traffic.specs.Workload.{workload_of}
use Rattle.load_lines.specs.Listing.{listing_with}

pub record Case : Type 0 where
  pub input : List ℕ
  pub output : List ℕ

abbrev case : String → List String → Case
case input output = record { input = ascii input ++ (line_feed ∷ []); output = text output }

-- the same input without its line feed
abbrev unfed : String → List String → Case
unfed input output = record { input = ascii input; output = text output }

abbrev bad : List String → Case
bad input = record { input = text input; output = text ("BAD" ∷ []) }

abbrev pub cases : List Case
cases =
    case "1 3 12"
    ("fresh 3" ∷ "1 OK 0" ∷ "car 0" ∷ "2 OK 0" ∷ "down 0 0" ∷ "3 NO 3" ∷ "car 32768" ∷ "4 NO 5" ∷ "cons 0 3" ∷ "5 NO 6" ∷ "up 0 3" ∷ "6 NO 5" ∷ "cdr 0" ∷ "7 OK 0" ∷ "car 32768" ∷ "8 NO 5" ∷ "down 0 1" ∷ "9 NO 5" ∷ "step" ∷ "10 IDLE" ∷ "cons 3 3" ∷ "11 NO 6" ∷ "setl 0 0" ∷ "12 NO 5" ∷ "cons 2 1" ∷ "13 NO 6" ∷ [])
    ∷ unfed "20 1 7"
    ("fresh 1" ∷ "1 OK 0" ∷ "cons 32768 32768" ∷ "2 OK 1" ∷ "step" ∷ "3 OK 0" ∷ "cdr 1" ∷ "4 OK 32768" ∷ "step" ∷ "5 OK 1" ∷ "up 0 3" ∷ "6 NO 5" ∷ "cdr 32768" ∷ "7 NO 5" ∷ "setl 32768 1" ∷ "8 NO 5" ∷ [])
    ∷ case "4294967295 0 3" ("fresh 0" ∷ "1 NO 3" ∷ "up 32768 3" ∷ "2 NO 1" ∷ "step" ∷ "3 NO 1" ∷ "up 0 1" ∷ "4 NO 1" ∷ [])
    ∷ case "7 65535 3" ("fresh 65535" ∷ "1 NO 3" ∷ "car 59866" ∷ "2 NO 1" ∷ "setr 60750 3233" ∷ "3 NO 1" ∷ "setr 23657 3480" ∷ "4 NO 1" ∷ [])
    ∷ case "0 3 0" ("fresh 3" ∷ "1 OK 0" ∷ [])
    ∷ bad []
    ∷ bad ("" ∷ [])
    ∷ bad ("1 3 12" ∷ "" ∷ [])
    ∷ bad ("1 3" ∷ [])
    ∷ bad ("1 3 12 " ∷ [])
    ∷ bad ("1  3 12" ∷ [])
    ∷ bad (" 1 3 12" ∷ [])
    ∷ bad ("01 3 12" ∷ [])
    ∷ bad ("1 3 +12" ∷ [])
    ∷ bad ("4294967296 3 12" ∷ [])
    ∷ bad ("1 65536 12" ∷ [])
    ∷ bad ("1 3 65536" ∷ [])
    ∷ []

abbrev pub AllGiven : List Case → Type 0
AllGiven [] = Unit {0}
AllGiven (k ∷ ks) = (listing_with 3 (workload_of k.input) ≡ k.output) × AllGiven ks

abbrev pub Known : Type 0
Known = AllGiven cases
