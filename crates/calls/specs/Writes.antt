-- What a row call needs of the table in order to write.
use Rattle.std.specs.Prelude.{List, ℕ, ◌≤◌, length}
use Rattle.machine.specs.Table.{first_free, table_length}
use Rattle.machine.specs.Calls.{RowCall, car, cdr, cons, set_left, set_right, up, down}

-- x is the number of a cell whose words the table has
pub record InTable (t : List ℕ) (x : ℕ) : Type 0 where
  pub some : 1 ≤ x
  pub room : table_length x ≤ length t

-- such is the cell that the call writes
abbrev pub Writable : List ℕ → RowCall → Type 0
Writable t (car x) = Unit {0}
Writable t (cdr x) = Unit {0}
Writable t (cons x y) = InTable t (first_free t)
Writable t (set_left x y) = InTable t x
Writable t (set_right x y) = InTable t x
Writable t (up x n) = Unit {0}
Writable t (down x n) = Unit {0}
