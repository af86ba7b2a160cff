-- What is behind a line.
use Rattle.std.proofs.Common.{◌≡◌, refl, ℕ, suc, ◌+◌, ◌-◌, ◌<◌, List, ◌∷◌, length, take, drop, arith}
use Rattle.std.proofs.lemmas.List.{take_rest}
use Rattle.state_lines.specs.Lines.{Behind}

pub behind_line : (input rest : List ℕ) (b i : ℕ) → input ≡ b ∷ rest → i < length rest → Behind input (take (length rest - (i + 1)) (drop (i + 1) rest))
behind_line input rest b i e l =
    rw (e, take_rest rest (i + 1)) (record { next = suc (i + 1); some = omega arith; within = omega arith; behind = refl })
