-- How a plain list of seat and reading lies in the cells of a store: two cells for each seat. Cells are told by their indices.
use Rattle.std.specs.Prelude.{◌≡◌, true, cond, List, [], ◌∷◌, map, ℕ, suc, ◌+◌, ◌≤◌, ◌<◌, eqb}
use Rattle.machine.specs.Range.{occurrences}
use Rattle.machine.specs.Words.{first_atom}
use Rattle.machine.specs.Calls.{RowCall, car, cdr}
use Rattle.soundness.specs.Reliable.{Fields, fields}
use Rattle.readings.specs.Readings.{Entry}
use Rattle.readings.specs.Calls.{is_seat}
use Rattle.roster_list.specs.declared.walk.Part.{Part}

-- a seat's two cells: one of the list, whose left is the entry's cell and whose right is the next; the entry's, with the seat and the reading as atoms
pub record Node : Type 0 where
  pub cell : ℕ
  pub pair : ℕ
  pub entry : Entry

abbrev pub atom_of : ℕ → ℕ
atom_of v = first_atom + v

-- the number that a part of an entry is, and the read of the entry's cell that gives its atom
abbrev pub part_of : Part → Entry → ℕ
part_of Part.Seat e = e.seat
part_of Part.Reading e = e.reading

abbrev pub read_of : Part → ℕ → RowCall
read_of Part.Seat pair = car pair
read_of Part.Reading pair = cdr pair

abbrev pub entries_of : List Node → List Entry
entries_of [] = []
entries_of (n ∷ ns) = n.entry ∷ entries_of ns

abbrev pub cells_of : List Node → List ℕ
cells_of [] = []
cells_of (n ∷ ns) = n.cell ∷ n.pair ∷ cells_of ns

-- the word w is the list's cell of the node n, in a store of c cells with the fields f
pub record NodeAt (c : ℕ) (f : ℕ → Fields) (w : ℕ) (n : Node) : Type 0 where
  pub here : w ≡ suc n.cell
  pub cell : n.cell < c
  pub pair : n.pair < c
  pub opens : (f w).left ≡ suc n.pair
  pub seat : (f (suc n.pair)).left ≡ atom_of n.entry.seat
  pub reading : (f (suc n.pair)).right ≡ atom_of n.entry.reading

-- the nodes lead from the word w to the word v
abbrev pub Leads : ℕ → (ℕ → Fields) → ℕ → List Node → ℕ → Type 0
Leads c f w [] v = w ≡ v
Leads c f w (n ∷ ns) v = NodeAt c f w n × Leads c f (f w).right ns v

-- y put into the right field of the cell x
abbrev pub put_right : (ℕ → Fields) → ℕ → ℕ → ℕ → Fields
put_right f x y c = cond (eqb x c) (fields (f c).left y) (f c)

-- no cell twice
abbrev pub Apart : List Node → Type 0
Apart ns = (i : ℕ) → occurrences i (cells_of ns) ≤ 1

abbrev pub seats_of : List Entry → List ℕ
seats_of es = map (λ (e : Entry). e.seat) es

-- each seat once, and 1 to 600
pub record Proper (es : List Entry) : Type 0 where
  pub once : (s : ℕ) → occurrences s (seats_of es) ≤ 1
  pub seats : (s : ℕ) → 0 < occurrences s (seats_of es) → is_seat s ≡ true

-- the list es lies in cells that begin at the word w and end in nil
pub record Listed (c : ℕ) (f : ℕ → Fields) (w : ℕ) (es : List Entry) : Type 0 where
  pub nodes : List Node
  pub leads : Leads c f w nodes 0
  pub apart : Apart nodes
  pub same : entries_of nodes ≡ es
  pub proper : Proper es
