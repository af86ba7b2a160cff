-- "Held count" and "pointers to a cell". A held count is root count plus waiting root changes; it is compared as two sums, so that nothing is floored.
use Rattle.std.specs.Prelude.{Bool, cond, List, ℕ, suc, ◌+◌, leb}
use Rattle.machine.specs.Range.{total, matching}
use Rattle.machine.specs.Table.{left, right, root_count, capacity, word_at, in_use}
use Rattle.machine.specs.Queue.{Packet}
use Rattle.machine.specs.Packets.{root, plus, minus, waiting_change}

-- the cell at index i is held n times or more
unfoldable pub held_at_least : List ℕ → List Packet → ℕ → ℕ → Bool
held_at_least t ps i n = leb (waiting_change root minus (suc i) ps + n) (word_at t i root_count + waiting_change root plus (suc i) ps)

-- the cell at index i is held n times or less
unfoldable pub held_at_most : List ℕ → List Packet → ℕ → ℕ → Bool
held_at_most t ps i n = leb (word_at t i root_count + waiting_change root plus (suc i) ps) (n + waiting_change root minus (suc i) ps)

-- fields of the cell at index i that contain x, if it is in use
unfoldable pub pointers_from : List ℕ → ℕ → ℕ → ℕ
pointers_from t x i = cond (in_use t i) (matching (word_at t i left) x 1 + matching (word_at t i right) x 1) 0

-- "Pointers to a cell": fields in cells in use that contain it
unfoldable pub pointers : List ℕ → ℕ → ℕ
pointers t x = total (capacity t) (pointers_from t x)
