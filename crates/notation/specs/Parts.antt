-- A text left to right is made of parts: a tree as an element, or as the rest of a list behind an element.
use Rattle.std.specs.Prelude.{List, ℕ}
use Rattle.base_ten.specs.Bytes.{space}
use Rattle.notation.specs.Trees.{Tree}
use Rattle.notation.specs.Grammar.{open_byte}
use Rattle.notation.specs.Print.{print, print_rest}

pub data Part : Type 0 where
  element : Part
  rest : Part

abbrev pub shown : Part → Tree → List ℕ
shown element t = print t
shown rest t = print_rest t

-- the byte before a pair's own parts
abbrev pub lead : Part → ℕ
lead element = open_byte
lead rest = space
