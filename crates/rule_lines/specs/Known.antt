-- Worked lines: what is answered to each. Proved by computation.
use Rattle.std.specs.Prelude.{◌≡◌, List, [], ◌∷◌, ◌++◌, map, ℕ, zero, suc, ◌<◌, length}
use Prim.Native.String.{String}
use Rattle.base_ten.specs.Bytes.{line_feed, ascii}
use Rattle.notation.specs.Grammar.{most_text}
use Rattle.notation.specs.Cases.{nested}
use Rattle.rule_lines.specs.Answers.{answer_of, listing}

-- lines with their answers
abbrev pub lines : List (String × String)
lines =
    ("(1 (2 . 3) ())", "(1 (2 . 3) ())")
    ∷ ("( 1 . ( 2 . ( ) ) )", "(1 2)")
    ∷ ("((1)2)", "((1) 2)")
    ∷ ("()", "()")
    ∷ (" 7 ", "7")
    ∷ ("4094", "4094")
    ∷ ("4095", "NO 14")
    ∷ ("(1 (2 . 4095))", "NO 14")
    ∷ ("32767", "NO 14")
    ∷ ("32768", "NO 11")
    ∷ ("(4095", "NO 11")
    ∷ ("(1", "NO 11")
    ∷ ("", "NO 11")
    ∷ []

-- a list of so many ones
abbrev ones : ℕ → List ℕ
ones n = ascii "(1" ++ more n
  where
    more : ℕ → List ℕ
    more zero = ascii ")"
    more (suc k) = ascii " 1" ++ more k

pub record Known : Type 0 where
  pub each : map (λ (c : String × String). answer_of (ascii c.0)) lines ≡ map (λ (c : String × String). ascii c.1) lines
  -- 32 brackets open together, and 33
  pub deep : (answer_of (nested 32) ≡ nested 32) × (answer_of (nested 33) ≡ ascii "NO 12")
  -- 64 pairs, and 65
  pub many : (answer_of (ones 63) ≡ ones 63) × (answer_of (ones 64) ≡ ascii "NO 7")
  -- a line over 4,096 bytes is no text, whatever its bytes
  pub long : (line : List ℕ) → most_text < length line → answer_of line ≡ ascii "NO 11"
  -- an empty line is a line, and the last one may lack its line feed
  pub whole : listing (ascii "1" ++ (line_feed ∷ line_feed ∷ ascii "(2)")) ≡ ascii "1" ++ (line_feed ∷ ascii "NO 11") ++ (line_feed ∷ ascii "(2)") ++ (line_feed ∷ [])
