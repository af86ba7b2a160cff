-- What each change makes of the list: on any store what calls of the store make, and on a list of nodes what lies there then.
use Rattle.std.specs.Prelude.{◌≡◌, true, cond, List, [], ◌∷◌, ◌++◌, ℕ, suc, ◌+◌, ◌*◌, ◌≤◌, ◌<◌, leb, length}
use Rattle.machine.specs.declared.Queue.{Queue}
use Rattle.machine.specs.Range.{occurrences}
use Rattle.machine.specs.Words.{clip, is_cell}
use Rattle.machine.specs.Calls.{store}
use Rattle.soundness.specs.Reliable.{Fields}
use Rattle.soundness.specs.Reliable as reliable
use Rattle.resting.specs.Rests.{At, After}
use Rattle.resting.specs.Runs.{Runs}
use Rattle.readings.specs.Readings.{Entry, entry, missing, looked_up}
use Rattle.readings.specs.Calls.{seats, is_seat, RosterReply, value, refused}
use Rattle.readings.specs.Answers.{Given, given}
use Rattle.roster_list.specs.Nodes.{Node, atom_of, cells_of, NodeAt, Leads, put_right, Listed}
use Rattle.roster_list.specs.Walks.{Few}

-- the reading at a cell of the list, whose hold is released
pub record ReadsOut (t : List ℕ) (q : Queue) (s : List ℕ) (at : ℕ) (t' : List ℕ) (q' : Queue) (s' : List ℕ) (v : ℕ) : Type 0 where
  pub runs : Runs (store t q s) (store t' q' s')
  pub shown : (c : ℕ) (s₀ hs : List ℕ) (f : ℕ → Fields) (n : Node) → Few hs → NodeAt c f at n → At c s₀ (at ∷ hs) f t q s
      → (v ≡ n.entry.reading) × After c s₀ hs f t' q' s'

-- another reading put there, and the hold released
pub record Replaces (t : List ℕ) (q : Queue) (s : List ℕ) (at reading : ℕ) (t' : List ℕ) (q' : Queue) (s' : List ℕ) : Type 0 where
  pub runs : Runs (store t q s) (store t' q' s')
  pub shown : (c : ℕ) (s₀ hs : List ℕ) (f : ℕ → Fields) (n : Node) → Few hs → reading < clip → NodeAt c f at n → At c s₀ (at ∷ hs) f t q s
      → After c s₀ hs (put_right f (suc n.pair) (atom_of reading)) t' q' s'

-- a roster of c cells whose scratch is s₀ cleared
pub record Rostered (c : ℕ) (s₀ : List ℕ) (w : ℕ) (es : List Entry) (t : List ℕ) (q : Queue) (s : List ℕ) : Type 0 where
  pub fields : ℕ → Fields
  pub after : After c s₀ (w ∷ []) fields t q s
  pub listed : Listed c fields w es

-- what a set of a new seat gives
abbrev pub added : ℕ → List Entry → ℕ → ℕ → Given
added c es s r = cond (leb (2 * length es + 2) c) (given (value 0) (entry s r ∷ es)) (given (refused 8) es)

pub record Adds (t : List ℕ) (q : Queue) (s : List ℕ) (w seat reading : ℕ) (r : RosterReply) (t' : List ℕ) (q' : Queue) (s' : List ℕ) (w' : ℕ) : Type 0 where
  pub runs : Runs (store t q s) (store t' q' s')
  pub refusal : (n : ℕ) → r ≡ refused n → n ≡ 8
  pub shown : (c : ℕ) (s₀ : List ℕ) (es : List Entry) → is_seat seat ≡ true → reading < clip → looked_up es seat ≡ missing → Rostered c s₀ w es t q s
      → (r ≡ (added c es seat reading).reply) × Rostered c s₀ w' (added c es seat reading).entries t' q' s'

-- the entry's cell is made, and held beside the roster's word
pub record Paired (c : ℕ) (s₀ : List ℕ) (w : ℕ) (es : List Entry) (seat reading pair : ℕ) (t : List ℕ) (q : Queue) (s : List ℕ) : Type 0 where
  pub fields : ℕ → Fields
  pub after : After c s₀ (pair ∷ w ∷ []) fields t q s
  pub listed : Listed c fields w es
  pub cell : ℕ
  pub here : pair ≡ suc cell
  pub below : cell < c
  pub entry : fields (suc cell) ≡ reliable.fields (atom_of seat) (atom_of reading)
  pub new : occurrences cell (cells_of listed.nodes) ≡ 0

pub record Links (t : List ℕ) (q : Queue) (s : List ℕ) (w pair : ℕ) (r : RosterReply) (t' : List ℕ) (q' : Queue) (s' : List ℕ) (w' : ℕ) : Type 0 where
  pub runs : Runs (store t q s) (store t' q' s')
  pub refusal : (n : ℕ) → r ≡ refused n → n ≡ 8
  pub shown : (c : ℕ) (s₀ : List ℕ) (es : List Entry) (seat reading : ℕ) → is_seat seat ≡ true → looked_up es seat ≡ missing → Paired c s₀ w es seat reading pair t q s
      → (r ≡ (added c es seat reading).reply) × Rostered c s₀ w' (added c es seat reading).entries t' q' s'

-- the first cell of the list let go
pub record DropsFirst (t : List ℕ) (q : Queue) (s : List ℕ) (w at : ℕ) (t' : List ℕ) (q' : Queue) (s' : List ℕ) (next : ℕ) : Type 0 where
  pub runs : Runs (store t q s) (store t' q' s')
  pub shown : (c : ℕ) (s₀ : List ℕ) (f : ℕ → Fields) → is_cell c w ≡ true → at ≡ w → At c s₀ (at ∷ w ∷ []) f t q s
      → (next ≡ (f w).right) × After c s₀ (next ∷ []) f t' q' s'

-- the cell `next` put behind the cell `at`, whose hold is released
pub record Relinks (t : List ℕ) (q : Queue) (s : List ℕ) (at next : ℕ) (t' : List ℕ) (q' : Queue) (s' : List ℕ) : Type 0 where
  pub runs : Runs (store t q s) (store t' q' s')
  pub shown : (c : ℕ) (s₀ : List ℕ) (f : ℕ → Fields) (w : ℕ) (xs : List Node) (n m : Node) (zs : List Node) → Leads c f w xs at → Leads c f at (n ∷ m ∷ zs) 0
      → next ≡ (f (f at).right).right → length (xs ++ (n ∷ m ∷ zs)) ≤ seats → At c s₀ (at ∷ next ∷ w ∷ []) f t q s
      → After c s₀ (w ∷ []) (put_right f at next) t' q' s'

-- the cell `at` linked past: k cells of the list come before the one that links to it
pub record LinksPast (t : List ℕ) (q : Queue) (s : List ℕ) (w at k : ℕ) (t' : List ℕ) (q' : Queue) (s' : List ℕ) : Type 0 where
  pub runs : Runs (store t q s) (store t' q' s')
  pub shown : (c : ℕ) (s₀ : List ℕ) (f : ℕ → Fields) (xs : List Node) (n m : Node) (zs : List Node) (b : ℕ) → Leads c f w xs b → Leads c f b (n ∷ m ∷ zs) 0
      → at ≡ (f b).right → length xs ≡ k → length (xs ++ (n ∷ m ∷ zs)) ≤ seats → At c s₀ (at ∷ w ∷ []) f t q s
      → After c s₀ (w ∷ []) (put_right f b (f at).right) t' q' s'
