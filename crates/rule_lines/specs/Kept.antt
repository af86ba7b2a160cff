-- The bytes of the present line.
use Rattle.std.specs.Prelude.{ℕ, suc}
use Rattle.notation.specs.Grammar.{most_text}

-- the bytes of a line that are kept: more than 4,096 tell that it is too long
abbrev pub kept_bytes : ℕ
kept_bytes = suc most_text
