-- Text as it is written: one space between elements and on each side of a dot, none elsewhere; a dot only before a last part that is neither a pair nor nil.
use Rattle.std.specs.Prelude.{List, [], ◌∷◌, ◌++◌, ℕ}
use Rattle.base_ten.specs.Bytes.{space}
use Rattle.base_ten.specs.Decimal.{decimal}
use Rattle.notation.specs.Trees.{Tree, nil, atom, pair}
use Rattle.notation.specs.Grammar.{open_byte, close_byte, dot_byte}

unfoldable mutual
  pub print : Tree → List ℕ
  print nil = open_byte ∷ close_byte ∷ []
  print (atom v) = decimal v
  print (pair a d) = open_byte ∷ (print a ++ print_rest d)

  -- what follows an element, up to the closing bracket
  pub print_rest : Tree → List ℕ
  print_rest nil = close_byte ∷ []
  print_rest (atom v) = space ∷ dot_byte ∷ space ∷ (decimal v ++ (close_byte ∷ []))
  print_rest (pair a d) = space ∷ (print a ++ print_rest d)
