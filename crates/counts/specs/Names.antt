-- The words that a packet names, padded with nil to three: nil is no cell.
use Rattle.std.specs.Prelude.{List, [], ◌∷◌, ℕ}
use Rattle.machine.specs.Packets.{Kind, reads, makes, replaces, raises, lowers, unknown}

unfoldable pub three_of : Kind → ℕ → ℕ → ℕ → List ℕ
three_of reads a b c = a ∷ b ∷ c ∷ []
three_of makes a b c = a ∷ b ∷ c ∷ []
three_of (replaces field) a b c = a ∷ b ∷ c ∷ []
three_of raises a b c = a ∷ 0 ∷ 0 ∷ []
three_of lowers a b c = a ∷ 0 ∷ 0 ∷ []
three_of unknown a b c = 0 ∷ 0 ∷ 0 ∷ []
