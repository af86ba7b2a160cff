-- The suspects that are kept, from a list of suspects and how many pointers come to each from the list.
use Rattle.std.specs.Prelude.{◌≡◌, true, false, cond, List, [], ◌∷◌, ◌++◌, ℕ, zero, suc, ◌≤◌, ◌<◌, ltb, length, get_or, replicate}
use Rattle.machine.specs.Range.{occurrences}
use Rattle.machine.specs.Table.{cell_count, capacity, word_at}
use Rattle.machine.specs.Packets.{contains}
use Rattle.machine.specs.Reached.{is_root, reached_by}
use Rattle.machine.specs.Facts.{TableShape}
use Rattle.machine.specs.Suspects.{leads_on}
use Rattle.walks.specs.Walk.{most_walked}
use Rattle.walks.specs.Tally.{Tally}

-- the word at place i, where fewer pointers come to it than its cell count says
unfoldable pub supported_at : List ℕ → List ℕ → List ℕ → ℕ → List ℕ
supported_at t list inner i = cond (ltb (get_or inner i 0) (word_at t (get_or list i 0) cell_count)) (get_or list i 0 ∷ []) []

-- those among the first n, in order
unfoldable pub supported : List ℕ → List ℕ → List ℕ → ℕ → List ℕ
supported t list inner zero = []
supported t list inner (suc n) = supported t list inner n ++ supported_at t list inner n

-- After the first n of the suspects: the supported ones, to begin a walk at.
pub record Supports (t : List ℕ) (suspects : Tally) (n : ℕ) (kept : Tally) : Type 0 where
  pub few : length kept.cells ≤ n
  pub exact : kept.cells ≡ supported t suspects.cells suspects.counts n
  pub uncounted : kept.counts ≡ replicate (length kept.cells) 0

-- what looking at all needs: they are cells
pub record Countable (t list : List ℕ) : Type 0 where
  pub shape : TableShape t
  pub listed : length list ≤ most_walked
  pub below : (i : ℕ) → contains list i ≡ true → i < capacity t

-- What is to be known of the list: cells that are no roots, each once, closed under what they lead on to.
pub record Closed (t list : List ℕ) (most : ℕ) : Type 0 where
  pub shape : TableShape t
  pub few : length list ≤ most
  pub within : most ≤ most_walked
  pub below : (i : ℕ) → contains list i ≡ true → i < capacity t
  pub no_roots : (i : ℕ) → contains list i ≡ true → is_root t i ≡ false
  pub once : (i : ℕ) → occurrences i list ≤ 1
  pub onward : (j i : ℕ) → i < capacity t → contains list j ≡ true → leads_on t j i ≡ true → contains list i ≡ true

-- the supported ones and what these lead on to
pub record Keeps (t : List ℕ) (suspects kept : Tally) : Type 0 where
  pub members : (i : ℕ) → contains kept.cells i ≡ reached_by (capacity t) (contains (supported t suspects.cells suspects.counts (length suspects.cells))) (leads_on t) i
