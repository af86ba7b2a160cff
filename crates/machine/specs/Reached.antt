-- "Root", "reached" and "reached from": as the paper words them, and computed. Indices stand for cells.
use Rattle.std.specs.Prelude.{◌≡◌, Bool, true, false, ◌&&◌, ◌||◌, List, ℕ, zero, suc, ◌<◌, ltb, eqb, get_or}
use Rattle.machine.specs.Range.{exists, tabulate}
use Rattle.machine.specs.Table.{left, right, root_count, name_count, capacity, word_at}
use Rattle.machine.specs.Queue.{Packet}
use Rattle.machine.specs.Packets.{is_named}

-- protected: waiting packets name the cell
unfoldable pub is_protected : List ℕ → ℕ → Bool
is_protected t i = ltb 0 (word_at t i name_count)

-- "Root", told from the cell alone (document 02, A6): its root count is above 0, or it is protected
unfoldable pub is_root : List ℕ → ℕ → Bool
is_root t i = ltb 0 (word_at t i root_count) || is_protected t i

-- going through the queue, as document 01 words it: a cell whose root count is above 0 or which a waiting packet names
unfoldable pub is_root_by_queue : List ℕ → List Packet → ℕ → Bool
is_root_by_queue t ps i = ltb 0 (word_at t i root_count) || is_named ps (suc i)

-- the cell at index i is in a field of the cell at index j
unfoldable pub points_to : List ℕ → ℕ → ℕ → Bool
points_to t j i = eqb (word_at t j left) (suc i) || eqb (word_at t j right) (suc i)

-- of c cells: a start, or led to by an edge from one reached
pub data ReachedBy (c : ℕ) (start : ℕ → Bool) (edge : ℕ → ℕ → Bool) : ℕ → Type 0 where
  begun : {i : ℕ} → i < c → start i ≡ true → ReachedBy c start edge i
  onward : {j i : ℕ} → ReachedBy c start edge j → i < c → edge j i ≡ true → ReachedBy c start edge i

-- "Reached": a root, or in a field of a reached cell
abbrev pub Reached : List ℕ → ℕ → Type 0
Reached t = ReachedBy (capacity t) (is_root t) (points_to t)

abbrev pub ReachedByQueue : List ℕ → List Packet → ℕ → Type 0
ReachedByQueue t ps = ReachedBy (capacity t) (is_root_by_queue t ps) (points_to t)

-- "Reached from" a cell: that cell itself, or in a field of a cell reached from it
abbrev pub ReachedFrom : List ℕ → ℕ → ℕ → Type 0
ReachedFrom t j = ReachedBy (capacity t) (eqb j) (points_to t)

unfoldable pub marked : List Bool → ℕ → Bool
marked ms i = get_or ms i false

-- the marks, and a mark wherever an edge leads from one
unfoldable pub spread : ℕ → (ℕ → ℕ → Bool) → List Bool → List Bool
spread c edge ms = tabulate c (λ i. marked ms i || exists c (λ j. marked ms j && edge j i))

-- the starts marked, and the marks spread n times
unfoldable pub marks : ℕ → (ℕ → Bool) → (ℕ → ℕ → Bool) → ℕ → List Bool
marks c start edge zero = tabulate c start
marks c start edge (suc n) = spread c edge (marks c start edge n)

-- reached, computed: c rounds are enough for c cells
unfoldable pub reached_by : ℕ → (ℕ → Bool) → (ℕ → ℕ → Bool) → ℕ → Bool
reached_by c start edge i = marked (marks c start edge c) i

unfoldable pub reached : List ℕ → ℕ → Bool
reached t i = reached_by (capacity t) (is_root t) (points_to t) i

unfoldable pub reached_from : List ℕ → ℕ → ℕ → Bool
reached_from t j i = reached_by (capacity t) (eqb j) (points_to t) i
