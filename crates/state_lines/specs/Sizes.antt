-- How long the arrays are.
use Rattle.std.specs.Prelude.{ℕ, ◌+◌, ◌*◌}
use Rattle.machine.specs.Words.{most_cells}
use Rattle.machine.specs.Table.{table_length}

abbrev pub table_size : ℕ
table_size = table_length most_cells + 17

abbrev pub scratch_size : ℕ
scratch_size = most_cells + 4

-- of a line the letter too
abbrev pub line_numbers : ℕ
line_numbers = 3 + 2 * table_size

abbrev pub text_size : ℕ
text_size = 20480
