-- The queue's words, array by array.
use mathlib.Core.Path.{◌≡◌, sym, ap, ◌∙◌}
use mathlib.Core.List.{List, [], ◌∷◌, ◌++◌, append_assoc}
use Prim.Native.Nat.{ℕ, zero, suc, ◌+◌, ◌≤◌, ◌<◌}
use native.Mathlib.Nat.{zero-add, suc-add}
use native.Mathlib.Omega.{arith}
use lib.ListN.{length, take, drop, get_or, set, length-set}
use lib.Seq.{take_all, length-take-le, get_or-set_same, get_or-set_other, take-set-le, take-take, take_at, drop_at, take-nil}
use Rattle.machine.specs.declared.Queue.{Queue}
use Rattle.machine.specs.Queue.{slots, Arrays}
use Rattle.c_layout.specs.Queues.{array_at, array_in, place_at, count_at, queue_words, queue_in, ArrayPut}

part_of_front : (n m : ℕ) (l : List ℕ) → take n (drop m l) ≡ drop m (take (m + n) l)
part_of_front n zero l = ap (λ (k : ℕ). take k l) (sym (zero-add n))
part_of_front n (suc m) [] = take-nil n ∙ ap (λ (k : ℕ). drop (suc m) (take k [])) (sym (suc-add m n))
part_of_front n (suc m) (w ∷ l) = part_of_front n m l ∙ ap (λ (k : ℕ). drop (suc m) (take k (w ∷ l))) (sym (suc-add m n))

-- an array goes by the words in front of any place behind it
front_same : (k place : ℕ) (u v : List ℕ) → array_at k + slots ≤ place → take place u ≡ take place v → array_in k u ≡ array_in k v
front_same k place u v h e = front u ∙ ap (λ (l : List ℕ). drop (array_at k) (take (array_at k + slots) l)) e ∙ sym (front v)
  where
    front : (w : List ℕ) → array_in k w ≡ drop (array_at k) (take (array_at k + slots) (take place w))
    front w = part_of_front slots (array_at k) w ∙ ap (drop (array_at k)) (sym (take-take (array_at k + slots) place w h))

module _ (words array : List ℕ) (k : ℕ) (new : List ℕ) (l : length words ≡ queue_words) (a : length array ≡ slots) (h : k < 4) (p : ArrayPut words k array new) where
  abbrev front : List ℕ
  front = take (array_at k) words

  abbrev rest : List ℕ
  rest = array ++ drop (array_at k + slots) words

  split : new ≡ front ++ rest
  split =
      p.words
      ∙ ap (λ (x : List ℕ). front ++ x ++ drop (array_at k + slots) words) (take_all slots array (omega arith))
      ∙ append_assoc front array (drop (array_at k + slots) words)

  front_length : length front ≡ array_at k
  front_length = length-take-le (array_at k) words (omega arith)

  -- an array put is the one that is read there
  pub put_read : array_in k new ≡ array
  put_read =
      ap (array_in k) split
      ∙ ap (take slots) (drop_at front rest (array_at k) front_length)
      ∙ take_at array (drop (array_at k + slots) words) slots a

  -- and those in front of it stand
  pub put_kept : (j : ℕ) → j < k → array_in j new ≡ array_in j words
  put_kept j g = front_same j (array_at k) new words (omega arith) (ap (take (array_at k)) split ∙ take_at front rest (array_at k) front_length)

-- whatever is written behind an array, it stands
set_kept : (k i w : ℕ) (words : List ℕ) → array_at k + slots ≤ i → array_in k (set words i w) ≡ array_in k words
set_kept k i w words h = front_same k i (set words i w) words h (take-set-le i words i w (omega arith))

-- a queue is its arrays, its place and its count
pub queue_is : (q : Queue) (words : List ℕ) → array_in 0 words ≡ q.kinds → array_in 1 words ≡ q.a → array_in 2 words ≡ q.b → array_in 3 words ≡ q.c
    → get_or words place_at 0 ≡ q.place → get_or words count_at 0 ≡ q.count → queue_in words ≡ q
queue_is q words kinds a b c place count = rw (kinds, a, b, c, place, count)

-- the four arrays put one after the other, as a queue has them
pub record Puts (q : Queue) (w₀ w₁ w₂ w₃ w₄ : List ℕ) : Type 0 where
  pub arrays : Arrays q
  pub size : length w₀ ≡ queue_words
  pub kinds : ArrayPut w₀ 0 q.kinds w₁
  pub a : ArrayPut w₁ 1 q.a w₂
  pub b : ArrayPut w₂ 2 q.b w₃
  pub c : ArrayPut w₃ 3 q.c w₄

-- then place and count
module _ (q : Queue) (w₀ w₁ w₂ w₃ w₄ : List ℕ) (p : Puts q w₀ w₁ w₂ w₃ w₄) where
  abbrev placed : List ℕ
  placed = set w₄ place_at q.place

  abbrev saved : List ℕ
  saved = set placed count_at q.count

  ends_kept : (k : ℕ) → k < 4 → array_in k saved ≡ array_in k w₄
  ends_kept k h = set_kept k count_at q.count placed (omega arith) ∙ set_kept k place_at q.place w₄ (omega arith)

  c_kept : (k : ℕ) → k < 3 → array_in k saved ≡ array_in k w₃
  c_kept k h = ends_kept k (omega arith) ∙ put_kept w₃ q.c 3 w₄ p.b.size p.arrays.c (omega arith) p.c k h

  b_kept : (k : ℕ) → k < 2 → array_in k saved ≡ array_in k w₂
  b_kept k h = c_kept k (omega arith) ∙ put_kept w₂ q.b 2 w₃ p.a.size p.arrays.b (omega arith) p.b k h

  a_kept : array_in 0 saved ≡ array_in 0 w₁
  a_kept = b_kept 0 (omega arith) ∙ put_kept w₁ q.a 1 w₂ p.kinds.size p.arrays.a (omega arith) p.a 0 (omega arith)

  pub saved_is : queue_in saved ≡ q
  saved_is =
      queue_is q saved (a_kept ∙ put_read w₀ q.kinds 0 w₁ p.size p.arrays.kinds (omega arith) p.kinds)
      (b_kept 1 (omega arith) ∙ put_read w₁ q.a 1 w₂ p.kinds.size p.arrays.a (omega arith) p.a)
      (c_kept 2 (omega arith) ∙ put_read w₂ q.b 2 w₃ p.a.size p.arrays.b (omega arith) p.b)
      (ends_kept 3 (omega arith) ∙ put_read w₃ q.c 3 w₄ p.b.size p.arrays.c (omega arith) p.c)
      (get_or-set_other placed count_at place_at q.count 0 (omega arith) ∙ get_or-set_same w₄ place_at q.place 0 (omega (arith, p.c.size)))
      (get_or-set_same placed count_at q.count 0 (simp length-set (omega (arith, p.c.size))))
