-- A reply is read back from its numbers, and each of the 258 words from the queue.
use mathlib.Core.Path.{◌≡◌, refl, sym, ap, ◌∙◌}
use mathlib.Core.Logic.{⊎_elim}
use mathlib.Core.Bool.{true, false}
use mathlib.Core.List.{List}
use mathlib.Core.Option.{some, some-injective}
use Prim.Native.Nat.{ℕ, zero, suc, ◌+◌, ◌/◌, ◌%◌, ◌<◌, ◌≤◌}
use native.Mathlib.Omega.{arith}
use lib.Dec.{eqb, ltb}
use lib.ListN.{drop, get_or}
use lib.Seq.{ext_get_or, get_or-take, get_or-drop}
use borrow.Author.Tests.{ltb-true, ltb-false, eqb-true, eqb-false}
use Rattle.machine.specs.declared.Queue.{Queue}
use Rattle.machine.specs.Queue.{slots}
use Rattle.machine.specs.Calls as machine
use Rattle.machine.specs.Calls.{value, refused, idle, applied, sound, broken, text}
use Rattle.machine.proofs.Range.{tested}
use Rattle.c_layout.specs.Queues.{array_at, array_in, place_at, count_at, queue_words, queue_in}
use Rattle.c_layout.specs.Replies.{told, said}
use Rattle.c_layout.specs.Faithful.{length_only, Faithful}

back : (r : machine.Reply) → said (told r) ≡ some (length_only r)
back (value w) = refl
back (refused n) = refl
back idle = refl
back (applied k n) = refl
back sound = refl
back (broken n) = refl
back (text bytes) = refl

same_reply : (r r' : machine.Reply) → told r ≡ told r' → length_only r ≡ length_only r'
same_reply r r' e = some-injective (length_only r) (length_only r') (sym (back r) ∙ ap said e ∙ back r')

word_read_lem : (k i : ℕ) (w : List ℕ) → i < slots → get_or w (array_at k + i) 0 ≡ get_or (array_in k w) i 0
word_read_lem k i w h = sym (get_or-take slots (drop (array_at k) w) i 0 h ∙ get_or-drop (array_at k) w i 0)

module _ (u v : List ℕ) (e : queue_in u ≡ queue_in v) where
  same_array : (k : ℕ) → k < 4 → array_in k u ≡ array_in k v
  same_array zero h = ap (λ (q : Queue). q.kinds) e
  same_array (suc zero) h = ap (λ (q : Queue). q.a) e
  same_array (suc (suc zero)) h = ap (λ (q : Queue). q.b) e
  same_array (suc (suc (suc zero))) h = ap (λ (q : Queue). q.c) e
  same_array (suc (suc (suc (suc k)))) h = absurd (omega arith)

  same_slot : (k i : ℕ) → k < 4 → i < slots → get_or u (array_at k + i) 0 ≡ get_or v (array_at k + i) 0
  same_slot k i h g = word_read_lem k i u g ∙ ap (λ (l : List ℕ). get_or l i 0) (same_array k h) ∙ sym (word_read_lem k i v g)

  in_array : (i : ℕ) → i < place_at → get_or u i 0 ≡ get_or v i 0
  in_array i h =
      let at : array_at (i / slots) + i % slots ≡ i = omega arith in
      rw at at (same_slot (i / slots) (i % slots) (omega arith) (omega arith))

  behind : (i : ℕ) → place_at ≤ i → i < queue_words → get_or u i 0 ≡ get_or v i 0
  behind i h g = ⊎_elim place count (tested (eqb i place_at))
    where
      place : eqb i place_at ≡ true → get_or u i 0 ≡ get_or v i 0
      place t = rw (eqb-true i place_at t) (ap (λ (q : Queue). q.place) e)

      count : eqb i place_at ≡ false → get_or u i 0 ≡ get_or v i 0
      count t =
          let n : i ≡ count_at = omega (arith, eqb-false i place_at t) in
          rw n (ap (λ (q : Queue). q.count) e)

  same_word : (i : ℕ) → i < queue_words → get_or u i 0 ≡ get_or v i 0
  same_word i h = ⊎_elim (λ t. in_array i (ltb-true i place_at t)) (λ t. behind i (ltb-false i place_at t) h) (tested (ltb i place_at))

pub faithful : Faithful
faithful = record {
  back = back;
  replies = same_reply;
  words = λ u v lu lv e. ext_get_or 0 u v (lu ∙ sym lv) (λ i h. same_word u v e i (omega arith));
}
