-- A settled call: a row call, and a step after it. The theorems speak of whoever keeps the store's promise; their proofs are in proofs/Settles.
use Rattle.std.specs.Prelude.{◌≡◌, List, [], ◌∷◌, ◌++◌, ℕ, ◌≤◌, length}
use Rattle.machine.specs.declared.Queue.{Queue}
use Rattle.machine.specs.Table.{capacity, scratch_words}
use Rattle.machine.specs.Calls.{row, step, RowCall, cons, Reply, value, refused, idle, applied, sound, broken, text, store}
use Rattle.machine.specs.Questions.{first_no, early_row}
use Rattle.machine.specs.Step.{cleared}
use Rattle.machine.specs.Promise.{Promise}
use Rattle.soundness.specs.Reliable.{Fields, puts, RepliesField}
use Rattle.resting.specs.Rests.{needs, leaves, New, Rests, cells_in_use, Allowed}

-- the word of a reply, nil where there is none
abbrev pub word_of : Reply → ℕ
word_of (value w) = w
word_of (refused n) = 0
word_of idle = 0
word_of (applied k n) = 0
word_of sound = 0
word_of (broken n) = 0
word_of (text bs) = 0

-- The row call leaves t₁ and q₁; the step after it is lent the scratch s. The word is the row call's.
pub record Settling (t : List ℕ) (q : Queue) (s : List ℕ) (r : RowCall) (t' : List ℕ) (q' : Queue) (s' : List ℕ) (w : ℕ) : Type 0 where
  pub reply : Reply
  pub word : w ≡ word_of reply
  pub t₁ : List ℕ
  pub q₁ : Queue
  pub row : Promise (store t q []) (row r) reply (store t₁ q₁ [])
  pub taken : Reply
  pub step : Promise (store t₁ q₁ s) step taken (store t' q' s')

-- An allowed call that is settled: the store rests again, with other words held and what the call put.
pub record Settled (t s hs : List ℕ) (f : ℕ → Fields) (r : RowCall) (w : ℕ) (t' : List ℕ) (q' : Queue) (s' : List ℕ) : Type 0 where
  pub replied : RepliesField f r w
  pub new : New t r w
  pub rests : Rests t' q' (leaves r w ++ hs) (λ c. puts r w c (f c))
  pub scratch : s' ≡ cleared (scratch_words (capacity t)) s

-- The frame rule of settled calls: the words hs are held before and after, whatever they are.
abbrev pub Settles : Type 0
Settles = (t : List ℕ) (q : Queue) (s hs : List ℕ) (f : ℕ → Fields) (r : RowCall) → Rests t q (needs r ++ hs) f → Allowed t hs r
    → scratch_words (capacity t) ≤ length s → (t' : List ℕ) (q' : Queue) (s' : List ℕ) (w : ℕ) → Settling t q s r t' q' s' w
    → Settled t s hs f r w t' q' s'

-- With no free cell a cons is refused, and the step after it is idle: nothing changes.
abbrev pub Fills : Type 0
Fills = (t : List ℕ) (q : Queue) (s hs : List ℕ) (f : ℕ → Fields) (x y : ℕ) → Rests t q (x ∷ y ∷ hs) f
    → first_no (early_row t (cons x y)) ≡ 0 → cells_in_use t ≡ capacity t
    → (t' : List ℕ) (q' : Queue) (s' : List ℕ) (w : ℕ) → Settling t q s (cons x y) t' q' s' w
    → (w ≡ 0) × (store t' q' s' ≡ store t q s)
