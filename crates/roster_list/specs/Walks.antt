-- What the walks over the list give: on any store what calls of the store make, and on a list of nodes what lies there.
use Rattle.std.specs.Prelude.{◌≡◌, ◌≢◌, cond, List, [], ◌∷◌, ◌++◌, ℕ, Option, Some, None, ◌+◌, ◌≤◌, leb, length}
use Rattle.machine.specs.declared.Queue.{Queue}
use Rattle.machine.specs.Words.{ceiling}
use Rattle.machine.specs.Calls.{store}
use Rattle.soundness.specs.Reliable.{Fields}
use Rattle.resting.specs.Rests.{At, After}
use Rattle.resting.specs.Runs.{Runs}
use Rattle.readings.specs.Readings.{counted}
use Rattle.readings.specs.Calls.{seats}
use Rattle.roster_list.specs.declared.walk.Part.{Part}
use Rattle.roster_list.specs.declared.walk.Place.{Place}
use Rattle.roster_list.specs.Nodes.{Node, atom_of, part_of, entries_of, NodeAt, Leads}

-- so few words are held that a walk may hold some more
abbrev pub Few : List ℕ → Type 0
Few hs = length hs + 3 ≤ ceiling

-- The seat or the reading of the entry at a cell of the list, of which a hold is kept.
pub record Looks (t : List ℕ) (q : Queue) (s : List ℕ) (at : ℕ) (part : Part) (t' : List ℕ) (q' : Queue) (s' : List ℕ) (w : ℕ) : Type 0 where
  pub runs : Runs (store t q s) (store t' q' s')
  pub shown : (c : ℕ) (s₀ hs : List ℕ) (f : ℕ → Fields) (n : Node) → Few hs → NodeAt c f at n → At c s₀ (at ∷ hs) f t q s
      → (w ≡ atom_of (part_of part n.entry)) × After c s₀ (at ∷ hs) f t' q' s'

-- One turn of a search: where the seat's atom is the key there is no next cell and the walk stays, else it goes on to the next cell.
abbrev pub Turn : ℕ → List ℕ → List ℕ → (ℕ → Fields) → Node → ℕ → ℕ → List ℕ → Queue → List ℕ → Option ℕ → Type 0
Turn c s₀ hs f n key at t' q' s' None = (atom_of n.entry.seat ≡ key) × After c s₀ (at ∷ hs) f t' q' s'
Turn c s₀ hs f n key at t' q' s' (Some at') = (atom_of n.entry.seat ≢ key) × (at' ≡ (f at).right) × After c s₀ (at' ∷ hs) f t' q' s'

pub record Turns (t : List ℕ) (q : Queue) (s : List ℕ) (at key : ℕ) (t' : List ℕ) (q' : Queue) (s' : List ℕ) (next : Option ℕ) : Type 0 where
  pub runs : Runs (store t q s) (store t' q' s')
  pub shown : (c : ℕ) (s₀ hs : List ℕ) (f : ℕ → Fields) (n : Node) → Few hs → NodeAt c f at n → At c s₀ (at ∷ hs) f t q s
      → Turn c s₀ hs f n key at t' q' s' next

-- One turn of a count: whether the reading is at or above the threshold, as 1 or 0, and the next cell.
pub record Weighs (t : List ℕ) (q : Queue) (s : List ℕ) (at threshold : ℕ) (t' : List ℕ) (q' : Queue) (s' : List ℕ) (at' weight : ℕ) : Type 0 where
  pub runs : Runs (store t q s) (store t' q' s')
  pub most : weight ≤ 1
  pub shown : (c : ℕ) (s₀ hs : List ℕ) (f : ℕ → Fields) (n : Node) → Few hs → NodeAt c f at n → At c s₀ (at ∷ hs) f t q s
      → (weight ≡ cond (leb threshold n.entry.reading) 1 0) × (at' ≡ (f at).right) × After c s₀ (at' ∷ hs) f t' q' s'

-- How far a walk along the nodes ns, which lead from the word `from` to the word `end`, has come: past xs, of which P is known, to the word `at`.
pub record Walked (P : List Node → Type 0) (c : ℕ) (s₀ hs : List ℕ) (f : ℕ → Fields) (from : ℕ) (ns : List Node) (end : ℕ) (t : List ℕ) (q : Queue) (s : List ℕ) (at i : ℕ) : Type 0 where
  pub xs : List Node
  pub ys : List Node
  pub parts : ns ≡ xs ++ ys
  pub passed : length xs ≡ i
  pub known : P xs
  pub to : Leads c f from xs at
  pub on : Leads c f at ys end
  pub after : After c s₀ (at ∷ hs) f t q s

-- none of these nodes has the seat whose atom is key
abbrev pub NoneOf : ℕ → List Node → Type 0
NoneOf key [] = Unit {0}
NoneOf key (n ∷ ns) = (atom_of n.entry.seat ≢ key) × NoneOf key ns

-- the first of these nodes has it
abbrev pub Begins : ℕ → List Node → Type 0
Begins key [] = ⊥
Begins key (n ∷ ns) = atom_of n.entry.seat ≡ key

-- A search ends at the cell of the seat whose atom is key, which is held, or at no place, where no node has that seat.
abbrev pub Sought : ℕ → ℕ → List ℕ → List ℕ → (ℕ → Fields) → ℕ → List Node → List ℕ → Queue → List ℕ → Option Place → Type 0
Sought key c s₀ hs f from ns t' q' s' None = NoneOf key ns × After c s₀ hs f t' q' s'
Sought key c s₀ hs f from ns t' q' s' (Some p) = (w : Walked (NoneOf key) c s₀ hs f from ns 0 t' q' s' p.at p.before) × Begins key w.ys

pub record Seeks (t : List ℕ) (q : Queue) (s : List ℕ) (from key : ℕ) (t' : List ℕ) (q' : Queue) (s' : List ℕ) (place : Option Place) : Type 0 where
  pub runs : Runs (store t q s) (store t' q' s')
  pub shown : (c : ℕ) (s₀ hs : List ℕ) (f : ℕ → Fields) (ns : List Node) → Few hs → After c s₀ (from ∷ hs) f t q s → Leads c f from ns 0 → length ns ≤ seats
      → Sought key c s₀ hs f from ns t' q' s' place

-- A search from the roster's word, whose hold is kept.
pub record Finds (t : List ℕ) (q : Queue) (s : List ℕ) (word key : ℕ) (t' : List ℕ) (q' : Queue) (s' : List ℕ) (place : Option Place) : Type 0 where
  pub runs : Runs (store t q s) (store t' q' s')
  pub shown : (c : ℕ) (s₀ : List ℕ) (f : ℕ → Fields) (ns : List Node) → At c s₀ (word ∷ []) f t q s → Leads c f word ns 0 → length ns ≤ seats
      → Sought key c s₀ (word ∷ []) f word ns t' q' s' place

-- A count goes along all nodes.
pub record Tallies (t : List ℕ) (q : Queue) (s : List ℕ) (from threshold : ℕ) (t' : List ℕ) (q' : Queue) (s' : List ℕ) (count : ℕ) : Type 0 where
  pub runs : Runs (store t q s) (store t' q' s')
  pub shown : (c : ℕ) (s₀ hs : List ℕ) (f : ℕ → Fields) (ns : List Node) → Few hs → After c s₀ (from ∷ hs) f t q s → Leads c f from ns 0 → length ns ≤ seats
      → (count ≡ counted (entries_of ns) threshold) × After c s₀ hs f t' q' s'

-- A count from the roster's word, whose hold is kept.
pub record Counts (t : List ℕ) (q : Queue) (s : List ℕ) (word threshold : ℕ) (t' : List ℕ) (q' : Queue) (s' : List ℕ) (count : ℕ) : Type 0 where
  pub runs : Runs (store t q s) (store t' q' s')
  pub shown : (c : ℕ) (s₀ : List ℕ) (f : ℕ → Fields) (ns : List Node) → At c s₀ (word ∷ []) f t q s → Leads c f word ns 0 → length ns ≤ seats
      → (count ≡ counted (entries_of ns) threshold) × After c s₀ (word ∷ []) f t' q' s'

-- A walk past k nodes.
pub record Passes (t : List ℕ) (q : Queue) (s : List ℕ) (from k : ℕ) (t' : List ℕ) (q' : Queue) (s' : List ℕ) (at : ℕ) : Type 0 where
  pub runs : Runs (store t q s) (store t' q' s')
  pub shown : (c : ℕ) (s₀ hs : List ℕ) (f : ℕ → Fields) (ns : List Node) (end : ℕ) → Few hs → After c s₀ (from ∷ hs) f t q s → Leads c f from ns end → length ns ≡ k
      → (at ≡ end) × After c s₀ (end ∷ hs) f t' q' s'
