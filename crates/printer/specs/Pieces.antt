-- The bytes of a piece.
use Rattle.std.specs.Prelude.{List, [], ◌∷◌, ◌++◌, ℕ}
use Rattle.base_ten.specs.Bytes.{space}
use Rattle.base_ten.specs.Decimal.{decimal}
use Rattle.notation.specs.Grammar.{open_byte, close_byte, dot_byte}
use Rattle.printer.specs.declared.walk.Piece.{Piece}

unfoldable pub bytes_of : Piece → List ℕ
bytes_of Piece.Opening = open_byte ∷ []
bytes_of Piece.Empty = open_byte ∷ close_byte ∷ []
bytes_of (Piece.Number v) = decimal v
bytes_of Piece.Space = space ∷ []
bytes_of (Piece.Dotted v) = space ∷ dot_byte ∷ space ∷ (decimal v ++ (close_byte ∷ []))
bytes_of Piece.Closing = close_byte ∷ []
