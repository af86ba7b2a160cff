-- A list of cells closed under what its cells lead on to.
use Rattle.std.specs.Prelude.{◌≡◌, Bool, true, false, List, map, ℕ, suc, ◌%◌, ◌<◌, ◌≤◌, length, get_or, take, replicate, Option, is_some, IfSome, OnSome, IfNone}
use Rattle.machine.specs.Range.{select, occurrences}
use Rattle.machine.specs.Table.{capacity}
use Rattle.machine.specs.Packets.{contains}
use Rattle.machine.specs.Reached.{is_root, reached_by}
use Rattle.machine.specs.Facts.{TableShape, pointers_out}
use Rattle.machine.specs.Suspects.{leads_on}

-- the most cells that a walk meets
abbrev pub most_walked : ℕ
most_walked = 64

-- the first place of x in the list, or None
pub record Places (list : List ℕ) (x : ℕ) (r : Option ℕ) : Type 0 where
  pub within : IfSome r (λ k. k < length list)
  pub before : IfSome r (λ k. contains (take k list) x ≡ false)
  pub there : IfSome r (λ k. get_or list k 0 ≡ x)
  pub found : contains list x ≡ is_some r

-- the filter is set at each of these cells, at their indices modulo 64
abbrev pub Filtered : List ℕ → List Bool → Type 0
Filtered cells seen = (i : ℕ) → contains cells i ≡ true → get_or seen (i % most_walked) false ≡ true

-- What a walk begins with: cells that are no roots, each once, none of them counted yet.
pub record Starts (t list inner : List ℕ) (most : ℕ) : Type 0 where
  pub shape : TableShape t
  pub few : length list ≤ most
  pub within : most ≤ most_walked
  pub below : (i : ℕ) → contains list i ≡ true → i < capacity t
  pub no_roots : (i : ℕ) → contains list i ≡ true → is_root t i ≡ false
  pub once : (i : ℕ) → occurrences i list ≤ 1
  pub uncounted : inner ≡ replicate (length list) 0

-- The cells that the starts lead on to, each once, and how many pointers to each come from them.
pub record Walked (t starts list inner : List ℕ) : Type 0 where
  pub members : (i : ℕ) → contains list i ≡ reached_by (capacity t) (contains starts) (leads_on t) i
  pub below : (i : ℕ) → contains list i ≡ true → i < capacity t
  pub once : (i : ℕ) → occurrences i list ≤ 1
  pub counts : inner ≡ map (λ i. pointers_out t list (suc i)) list

-- what a walk leaves, and its answer: None where it gave up
pub record Walks (t : List ℕ) (most : ℕ) (starts list inner : List ℕ) (r : Option (Unit {0})) : Type 0 where
  pub few : OnSome r (length list ≤ most)
  pub walked : OnSome r (Walked t starts list inner)
  -- it gives up only where the starts lead on to more than most cells
  pub gave_up : IfNone r (most < length (select (capacity t) (reached_by (capacity t) (contains starts) (leads_on t))))
