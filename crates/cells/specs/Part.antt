-- Words of cells in the part of the table that begins at word 3.
use Rattle.std.specs.Prelude.{List, ℕ, ◌+◌, ◌*◌, get_or, set}
use Rattle.machine.specs.Table.{stride}

abbrev pub word_in : List ℕ → ℕ → ℕ → ℕ
word_in cells i k = get_or cells (stride * i + k) 0

abbrev pub put_word_in : List ℕ → ℕ → ℕ → ℕ → List ℕ
put_word_in cells i k v = set cells (stride * i + k) v
