-- The local way of a step, no part of the machine's definition: it looks only at what hangs on the cell that lost its last root (source 001's figure 9 collects
-- from the cell lowered, and counts the pointers that come from inside). On every sound store it tells the dead cells (soundness/proofs/LocalWay).
use Rattle.std.specs.Prelude.{◌≡◌, Bool, not, ◌&&◌, List, ◌∷◌, ℕ, suc, ltb, eqb}
use Rattle.machine.specs.declared.Queue.{Queue}
use Rattle.machine.specs.Range.{select}
use Rattle.machine.specs.Table.{cell_count, capacity, word_at}
use Rattle.machine.specs.Queue.{Packet, waiting}
use Rattle.machine.specs.Reached.{is_root, points_to, ReachedBy, reached_by}
use Rattle.machine.specs.Step.{apply_packet, unreached}
use Rattle.machine.specs.Audit.{Sound}
use Rattle.machine.specs.Facts.{pointers_out}
use Rattle.machine.specs.ShortWay.{watched}

-- the cell at index i is in the watched word w and is no root: it has lost its last root
unfoldable pub is_lost : List ℕ → ℕ → ℕ → Bool
is_lost t w i = eqb w (suc i) && not (is_root t i)

-- the cell at index i is in a field of the cell at index j and is no root: roots are not entered
unfoldable pub leads_on : List ℕ → ℕ → ℕ → Bool
leads_on t j i = points_to t j i && not (is_root t i)

-- a suspect: a lost cell, or one that a suspect leads on to
abbrev pub Suspect : List ℕ → ℕ → ℕ → Type 0
Suspect t w = ReachedBy (capacity t) (is_lost t w) (leads_on t)

unfoldable pub is_suspect : List ℕ → ℕ → ℕ → Bool
is_suspect t w i = reached_by (capacity t) (is_lost t w) (leads_on t) i

unfoldable pub suspects : List ℕ → ℕ → List ℕ
suspects t w = select (capacity t) (is_suspect t w)

-- supported: fewer pointers come from suspects than its cell count says, so that one comes from a cell that is none
unfoldable pub is_supported : List ℕ → ℕ → ℕ → Bool
is_supported t w i = is_suspect t w i && ltb (pointers_out t (suspects t w) (suc i)) (word_at t i cell_count)

-- a supported suspect, or one that such lead on to
unfoldable pub is_kept : List ℕ → ℕ → ℕ → Bool
is_kept t w i = reached_by (capacity t) (is_supported t w) (leads_on t) i

-- the indices of the suspects that are not kept, ascending
unfoldable pub local_dead : List ℕ → ℕ → List ℕ
local_dead t w = select (capacity t) (λ i. is_suspect t w i && not (is_kept t w i))

-- the dead cells of a step are the suspects less what its supported ones lead on to
abbrev pub LocalWay : Type 0
LocalWay = (t : List ℕ) (q : Queue) (p : Packet) (ps : List Packet) → Sound t q → waiting q ≡ p ∷ ps
    → local_dead (apply_packet t p) (watched p) ≡ unreached (apply_packet t p)
