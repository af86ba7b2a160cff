-- "The queue is one record" (document 01), in C `struct row_queue`: 258 words, the four arrays one after the other, then place and count.
use Rattle.std.specs.Prelude.{◌≡◌, List, ℕ, ◌+◌, ◌*◌, length, take, drop, get_or}
use Rattle.std.proofs.Math.Seq.{paste}
use Rattle.machine.specs.declared.Queue.{Queue}
use Rattle.machine.specs.Queue.{slots, queue_of}

-- how many words go before the array k
abbrev pub array_at : ℕ → ℕ
array_at k = slots * k

-- the words of an array: 0 are the kinds, 1 to 3 the words a, b and c
abbrev pub array_in : ℕ → List ℕ → List ℕ
array_in k words = take slots (drop (array_at k) words)

abbrev pub place_at : ℕ
place_at = array_at 4

abbrev pub count_at : ℕ
count_at = place_at + 1

abbrev pub queue_words : ℕ
queue_words = count_at + 1

-- the queue that the words are
abbrev pub queue_in : List ℕ → Queue
queue_in words =
    queue_of (array_in 0 words) (array_in 1 words) (array_in 2 words) (array_in 3 words) (get_or words place_at 0) (get_or words count_at 0)

-- the array k put in its place
pub record ArrayPut (old : List ℕ) (k : ℕ) (array new : List ℕ) : Type 0 where
  pub words : new ≡ paste old (array_at k) array slots
  pub size : length new ≡ queue_words
