-- The input of the load program (document 02, A2): "one line with a seed (32 bits), C and a number of calls (each 0 to 65,535), in base ten without
-- leading zeros and with one space between"; "the input's line feed may lack".
use Rattle.std.specs.Prelude.{ℕ, List, [], ◌∷◌, Option, Some, None}
use Rattle.base_ten.specs.Bytes.{lines_of, words_of}
use Rattle.base_ten.specs.Numbers.{number_of}
use Rattle.traffic.specs.declared.Workload.{Workload}

-- the largest seed
abbrev pub most_seed : ℕ
most_seed = 4294967295

-- the largest C, and the largest number of calls
abbrev pub most_count : ℕ
most_count = 65535

abbrev pub if_all : Option ℕ → Option ℕ → Option ℕ → Option Workload
if_all (Some seed) (Some c) (Some n) = Some (record { seed = seed; cells = c; calls = n })
if_all (Some seed) (Some c) None = None
if_all (Some seed) None calls = None
if_all None cells calls = None

-- three words, with one space between
unfoldable pub by_words : List (List ℕ) → Option Workload
by_words [] = None
by_words (seed ∷ []) = None
by_words (seed ∷ cells ∷ []) = None
by_words (seed ∷ cells ∷ calls ∷ []) = if_all (number_of most_seed seed) (number_of most_count cells) (number_of most_count calls)
by_words (seed ∷ cells ∷ calls ∷ more ∷ rest) = None

-- one line
unfoldable pub by_lines : List (List ℕ) → Option Workload
by_lines [] = None
by_lines (line ∷ []) = by_words (words_of line)
by_lines (line ∷ more ∷ rest) = None

unfoldable pub workload_of : List ℕ → Option Workload
workload_of input = by_lines (lines_of input)
