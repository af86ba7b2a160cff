-- The checksum of reference/FORMAT.md.
use Rattle.std.specs.Prelude.{ℕ, ◌+◌, ◌*◌, ◌%◌}

abbrev pub modulus : ℕ
modulus = 4294967291

abbrev pub mixed : ℕ → ℕ → ℕ
mixed s m = (65599 * s + m + 1) % modulus
