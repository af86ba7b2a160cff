-- The worked cases of document 01 as sessions: the input's lines and the output's, with a table for three cells.
use Rattle.std.specs.Prelude.{◌≡◌, List, [], ◌∷◌, ◌++◌, ℕ}
use Prim.Native.String.{String}
use Rattle.base_ten.specs.Bytes.{ascii, line_feed}
use Rattle.session_lines.specs.Listing.{listing_with}

-- lines, each with its line feed
abbrev pub text : List String → List ℕ
text [] = []
text (l ∷ ls) = ascii l ++ line_feed ∷ text ls

pub record Case : Type 0 where
  pub input : List ℕ
  pub output : List ℕ

abbrev case : List String → List String → Case
case input output = record { input = text input; output = text output }

-- "each in a fresh store of 3 after `cons 0 32775`"
abbrev more : List String → List String → Case
more input output = case ("fresh 3" ∷ "cons 0 32775" ∷ input) ("1 OK 0" ∷ "2 OK 1" ∷ output)

-- K1; K2 and K3; K4 to K11, the last as document 02 (A1) has it; reads of nil before and after a fresh; clipped
-- readings (A5); and lines that are no calls
abbrev pub cases : List Case
cases =
    case
    ("fresh 3" ∷ "cons 0 32775" ∷ "cons 1 0" ∷ "up 2 1" ∷ "setr 2 2" ∷ "down 2 1" ∷ "step" ∷ "step" ∷ "step" ∷ "step" ∷ "step" ∷ "step" ∷ [])
    ("1 OK 0" ∷ "2 OK 1" ∷ "3 OK 2" ∷ "4 OK 0" ∷ "5 OK 0" ∷ "6 OK 0" ∷ "7 OK 0" ∷ "8 OK 0" ∷ "9 OK 0" ∷ "10 OK 0" ∷ "11 OK 2" ∷ "12 IDLE" ∷ [])
    ∷ more ("up 1 4094" ∷ "up 1 1" ∷ []) ("3 OK 0" ∷ "4 NO 9" ∷ [])
    ∷ more ("up 1 0" ∷ []) ("3 NO 3" ∷ [])
    ∷ more ("setr 1 1" ∷ []) ("3 NO 6" ∷ [])
    ∷ more ("cons 1 1" ∷ []) ("3 NO 6" ∷ [])
    ∷ more ("cons 3 0" ∷ []) ("3 NO 6" ∷ [])
    ∷ more ("cons 4 0" ∷ []) ("3 NO 4" ∷ [])
    ∷ more ("car 32775" ∷ []) ("3 NO 5" ∷ [])
    ∷ more ("cdr 1" ∷ "step" ∷ "step" ∷ []) ("3 OK 32775" ∷ "4 OK 0" ∷ "5 OK 1" ∷ [])
    ∷ more ("car 0" ∷ []) ("3 OK 0" ∷ [])
    ∷ case ("cdr 0" ∷ "fresh 1" ∷ "car 0" ∷ "cdr 0" ∷ "up 0 1" ∷ "step" ∷ []) ("1 NO 1" ∷ "2 OK 0" ∷ "3 OK 0" ∷ "4 OK 0" ∷ "5 NO 5" ∷ "6 IDLE" ∷ [])
    ∷ case ("fresh 2" ∷ "cons 36862 0" ∷ "cons 36863 0" ∷ "setl 1 65535" ∷ "setl 36863 36863" ∷ []) ("1 OK 0" ∷ "2 OK 1" ∷ "3 NO 14" ∷ "4 NO 14" ∷ "5 NO 5" ∷ [])
    ∷ case ("step" ∷ "" ∷ "audit" ∷ "fresh 03" ∷ "fresh  3" ∷ "fresh 3 " ∷ "fresh 65536" ∷ []) ("1 NO 1" ∷ "2 BAD" ∷ "3 BAD" ∷ "4 BAD" ∷ "5 BAD" ∷ "6 BAD" ∷ "7 BAD" ∷ [])
    ∷ []

abbrev pub AllGiven : List Case → Type 0
AllGiven [] = Unit {0}
AllGiven (k ∷ ks) = (listing_with 3 k.input ≡ k.output) × AllGiven ks

abbrev pub Known : Type 0
Known = AllGiven cases
