-- What the step's sweep means: lowering the counts, then wiping the cells and joining them to the chain.
use mathlib.Core.Path.{◌≡◌, refl, sym, ap, ◌∙◌}
use mathlib.Core.Logic.{⊎_elim, ◌≢◌}
use mathlib.Core.Bool.{true, false, cond, false≢true}
use mathlib.Core.List.{List, [], ◌∷◌, ◌++◌, map}
use Prim.Native.Nat.{ℕ, suc, ◌+◌, ◌-◌, ◌≤◌, ◌<◌}
use native.Mathlib.Omega.{arith}
use lib.Dec.{eqb}
use lib.ListN.{length, drop}
use borrow.Author.Tests.{eqb-true, eqb-false, ne_eqb}
use Rattle.machine.specs.Range.{matching, occurrences, last_of}
use Rattle.machine.specs.Table.{stride, left, right, cell_count, free_cell, capacity, first_free, last_free, table_length, word_at, put_cell}
use Rattle.machine.specs.Packets.{cell, minus, contains}
use Rattle.machine.specs.Step.{move_count, lower_pointers, join, join_all, swept}
use Rattle.machine.specs.Facts.{Linked, pointers_out, Sweep}
use Rattle.machine.proofs.Range.{tested, not_both, occurrences_append, or_true, or-false, matching_same}
use Rattle.machine.proofs.Table.{Inside, cell_word, free_word, cell_other, capacity_put_cell, past_put_cell, room, length_put_ends, length_put_cell, capacity_put_ends, first_free_put_ends, last_free_put_ends, word_put_ends, past_put_ends}
use Rattle.machine.proofs.Moves.{length_move, capacity_move, first_free_move, last_free_move, past_move, word_move, count_move}
use Rattle.machine.proofs.Lists.{contains_cons, Indices}

pub out_append : (t : List ℕ) (is js : List ℕ) (x : ℕ) → pointers_out t (is ++ js) x ≡ pointers_out t is x + pointers_out t js x
unfolding pointers_out
out_append t [] js x = omega arith
out_append t (i ∷ is) js x = omega (arith, out_append t is js x)

-- two tables alike but for the cell counts
pub record SameButCounts (t t' : List ℕ) : Type 0 where
  pub same_length : length t' ≡ length t
  pub same_capacity : capacity t' ≡ capacity t
  pub same_first : first_free t' ≡ first_free t
  pub same_last : last_free t' ≡ last_free t
  pub past_cells : drop (table_length (capacity t)) t' ≡ drop (table_length (capacity t)) t
  pub same_words : (i k : ℕ) → k < stride → k ≢ cell_count → word_at t' i k ≡ word_at t i k

alike_refl : (t : List ℕ) → SameButCounts t t
alike_refl t = record { same_length = refl; same_capacity = refl; same_first = refl; same_last = refl; past_cells = refl; same_words = λ i k l h. refl }

alike_trans : (t u v : List ℕ) → SameButCounts t u → SameButCounts u v → SameButCounts t v
alike_trans t u v f g = record {
  same_length = g.same_length ∙ f.same_length;
  same_capacity = g.same_capacity ∙ f.same_capacity;
  same_first = g.same_first ∙ f.same_first;
  same_last = g.same_last ∙ f.same_last;
  past_cells = (rw f.same_capacity at g.past_cells) ∙ f.past_cells;
  same_words = λ i k l h. g.same_words i k l h ∙ f.same_words i k l h;
}

alike_move : (t : List ℕ) (w n : ℕ) → SameButCounts t (move_count t cell w minus n)
alike_move t w n = record {
  same_length = length_move t cell w minus n;
  same_capacity = capacity_move t cell w minus n;
  same_first = first_free_move t cell w minus n;
  same_last = last_free_move t cell w minus n;
  past_cells = past_move t cell w minus n;
  same_words = λ i k l h. word_move t cell w minus n i k l h;
}

-- both pointers out of the cell at index i lower a count
unfoldable pub lower_both : List ℕ → ℕ → List ℕ
lower_both t i = move_count (move_count t cell (word_at t i left) minus 1) cell (word_at t i right) minus 1

alike_both : (t : List ℕ) (i : ℕ) → SameButCounts t (lower_both t i)
unfolding lower_both
alike_both t i =
    alike_trans t (move_count t cell (word_at t i left) minus 1) (lower_both t i) (alike_move t (word_at t i left) 1)
    (alike_move (move_count t cell (word_at t i left) minus 1) (word_at t i right) 1)

pub alike_lower : (t : List ℕ) (is : List ℕ) → SameButCounts t (lower_pointers t is)
unfolding lower_pointers lower_both
alike_lower t [] = alike_refl t
alike_lower t (i ∷ is) = alike_trans t (lower_pointers t is) (lower_pointers t (i ∷ is)) (alike_lower t is) (alike_both (lower_pointers t is) i)

count_both : (t : List ℕ) (i : ℕ) → table_length (capacity t) ≤ length t → (j : ℕ) → j < capacity t
    → word_at (lower_both t i) j cell_count ≡ word_at t j cell_count - (matching (word_at t i left) (suc j) 1 + matching (word_at t i right) (suc j) 1)
unfolding lower_both
count_both t i f j l =
    let u = move_count t cell (word_at t i left) minus 1 in
    let e = count_move t cell (word_at t i left) minus 1 f j l in
    let g = count_move u cell (word_at t i right) minus 1 (rw (capacity_move t cell (word_at t i left) minus 1, length_move t cell (word_at t i left) minus 1) f) j (rw (capacity_move t cell (word_at t i left) minus 1) l) in
    omega arith

pub count_lower : (t : List ℕ) (is : List ℕ) → table_length (capacity t) ≤ length t → (j : ℕ) → j < capacity t
    → word_at (lower_pointers t is) j cell_count ≡ word_at t j cell_count - pointers_out t is (suc j)
unfolding lower_pointers pointers_out lower_both
count_lower t [] f j l = omega arith
count_lower t (i ∷ is) f j l =
    let u = lower_pointers t is in
    let h = alike_lower t is in
    let e = count_lower t is f j l in
    let g = count_both u i (rw (h.same_capacity, h.same_length) f) j (rw h.same_capacity l) in
    let a = ap (λ (w : ℕ). matching w (suc j) 1) (h.same_words i left (omega arith) (omega arith)) in
    let b = ap (λ (w : ℕ). matching w (suc j) 1) (h.same_words i right (omega arith) (omega arith)) in
    omega (arith, e, g, a, b)

occurrences_cons : (j x : ℕ) (xs : List ℕ) → occurrences j (x ∷ xs) ≡ matching x j 1 + occurrences j xs
unfolding occurrences
occurrences_cons j x xs = refl

-- a chain without the cell at index i is a chain in every table whose other left words are the same
linked_unchanged : (t t' : List ℕ) (i : ℕ) → capacity t' ≡ capacity t → ((j : ℕ) → j ≢ i → word_at t' j left ≡ word_at t j left) → (w : ℕ) (is : List ℕ)
    → occurrences i is ≡ 0 → Linked t w is → Linked t' w is
linked_unchanged t t' i c keep w [] n h = h
linked_unchanged t t' i c keep w (x ∷ xs) n h =
    (h.0, rw c h.1, rw (keep x other) (linked_unchanged t t' i c keep (word_at t x left) xs (omega (arith, occurrences_cons i x xs)) h.2))
  where
    other : x ≢ i
    other e = omega (arith, occurrences_cons i x xs, matching_same x i 1 e)

-- what joining the cell at index i to the chain does
pub record Joins (t : List ℕ) (i : ℕ) (t' : List ℕ) : Type 0 where
  pub same_length : length t' ≡ length t
  pub same_capacity : capacity t' ≡ capacity t
  pub past_cells : drop (table_length (capacity t)) t' ≡ drop (table_length (capacity t)) t
  pub new_first : first_free t' ≡ suc i
  pub new_last : last_free t' ≡ cond (eqb (first_free t) 0) (suc i) (last_free t)
  pub next : word_at t' i left ≡ first_free t
  pub wiped : (k : ℕ) → right ≤ k → k < stride → word_at t' i k ≡ 0
  pub unchanged : (j k : ℕ) → k < stride → j ≢ i → word_at t' j k ≡ word_at t j k

module _ (t : List ℕ) (i : ℕ) (f : table_length (capacity t) ≤ length t) (l : i < capacity t) where
  abbrev wipe : List ℕ
  wipe = put_cell t i (free_cell (first_free t))

  abbrev end : ℕ
  end = cond (eqb (first_free t) 0) (suc i) (last_free t)

  inside : Inside t i
  inside = room t (capacity t) i f l

  long : 2 < length wipe
  long = rw length_put_cell (omega arith)

  pub joins : Joins t i (join t i)
  unfolding join
  joins = record {
    same_length = length_put_ends wipe (suc i) end ∙ length_put_cell t i (free_cell (first_free t));
    same_capacity = capacity_put_ends wipe (suc i) end ∙ capacity_put_cell t i (free_cell (first_free t)) refl;
    past_cells = past_put_ends wipe (capacity t) (suc i) end ∙ past_put_cell t (capacity t) i (free_cell (first_free t)) refl l;
    new_first = first_free_put_ends wipe (suc i) end long;
    new_last = last_free_put_ends wipe (suc i) end long;
    next = word_put_ends wipe (suc i) end i left ∙ cell_word t i (free_cell (first_free t)) refl inside left (omega arith);
    wiped = λ k m h. word_put_ends wipe (suc i) end i k ∙ cell_word t i (free_cell (first_free t)) refl inside k h ∙ free_word (first_free t) k m h;
    unchanged = λ j k m d. word_put_ends wipe (suc i) end j k ∙ cell_other t i (free_cell (first_free t)) refl j k m (λ x. d (sym x));
  }

  -- the chain is one cell longer
  pub join_linked : (is : List ℕ) → Linked t (first_free t) is → last_of (map suc is) ≡ last_free t → occurrences i is ≡ 0
      → Linked (join t i) (first_free (join t i)) (i ∷ is) × (last_of (map suc (i ∷ is)) ≡ last_free (join t i))
  unfolding last_of
  join_linked is h e n = (
    (
      joins.new_first,
      rw joins.same_capacity l,
      rw joins.next
          (linked_unchanged t (join t i) i joins.same_capacity (λ j d. joins.unchanged j left (omega arith) d) (first_free t) is n h),
    ),
    last is h e ∙ sym joins.new_last,
  )
    where
      last : (is : List ℕ) → Linked t (first_free t) is → last_of (map suc is) ≡ last_free t → last_of (map suc (i ∷ is)) ≡ end
      last [] g d = rw g
      last (x ∷ xs) g d = let n : first_free t ≢ 0 = λ z. omega (arith, g.0) in rw (ne_eqb (first_free t) 0 n) d

contains_none : (i : ℕ) → contains [] i ≡ true → ⊥
unfolding contains
contains_none i h = false≢true h

-- what joining a list of cells does
pub record JoinsAll (t : List ℕ) (dead : List ℕ) (t' : List ℕ) : Type 0 where
  pub same_length : length t' ≡ length t
  pub same_capacity : capacity t' ≡ capacity t
  pub past_cells : drop (table_length (capacity t)) t' ≡ drop (table_length (capacity t)) t
  pub freed : (i k : ℕ) → contains dead i ≡ true → right ≤ k → k < stride → word_at t' i k ≡ 0
  pub unchanged : (i k : ℕ) → k < stride → contains dead i ≡ false → word_at t' i k ≡ word_at t i k
  pub joined : (is : List ℕ) → Linked t (first_free t) is → last_of (map suc is) ≡ last_free t → ((i : ℕ) → occurrences i is + occurrences i dead ≤ 1)
      → Linked t' (first_free t') (dead ++ is) × (last_of (map suc (dead ++ is)) ≡ last_free t')

module _ (t u v : List ℕ) (i : ℕ) (dead : List ℕ) (a : JoinsAll t dead u) (j : Joins u i v) where
  freed_then : (x k : ℕ) → contains (i ∷ dead) x ≡ true → right ≤ k → k < stride → word_at v x k ≡ 0
  freed_then x k m low high = ⊎_elim (λ e. rw (← eqb-true i x e) (j.wiped k low high)) (λ e. other e) (tested (eqb i x))
    where
      other : eqb i x ≡ false → word_at v x k ≡ 0
      other e =
          j.unchanged x k high (λ d. eqb-false i x e (sym d))
          ∙ a.freed x k (⊎_elim (λ d. absurd (not_both d e)) (λ d. d) (or_true (eqb i x) (contains dead x) (rw contains_cons at m))) low high

  unchanged_then : (x k : ℕ) → k < stride → contains (i ∷ dead) x ≡ false → word_at v x k ≡ word_at t x k
  unchanged_then x k l m =
      let o = or-false (eqb i x) (contains dead x) (rw contains_cons at m) in
      j.unchanged x k l (λ e. eqb-false i x o.0 (sym e)) ∙ a.unchanged x k l o.1

joins_all : (t : List ℕ) (dead : List ℕ) → table_length (capacity t) ≤ length t → Indices (capacity t) dead → JoinsAll t dead (join_all t dead)
unfolding join_all
joins_all t [] f p = record {
  same_length = refl;
  same_capacity = refl;
  past_cells = refl;
  freed = λ i k m. absurd (contains_none i m);
  unchanged = λ i k l m. refl;
  joined = λ is h e once. (h, e);
}
joins_all t (i ∷ dead) f p =
    let u = join_all t dead in
    let a = joins_all t dead f p.1 in
    let g : table_length (capacity u) ≤ length u = rw (a.same_capacity, a.same_length) f in
    let b : i < capacity u = rw a.same_capacity p.0 in
    let j = joins u i g b in
    record {
      same_length = j.same_length ∙ a.same_length;
      same_capacity = j.same_capacity ∙ a.same_capacity;
      past_cells = (rw a.same_capacity at j.past_cells) ∙ a.past_cells;
      freed = freed_then t u (join u i) i dead a j;
      unchanged = unchanged_then t u (join u i) i dead a j;
      joined = λ is h e once.
          let n = a.joined is h e (λ x. omega (arith, once x, occurrences_cons x i dead)) in
          join_linked u i g b (dead ++ is) n.0 n.1
          (omega (arith, once i, occurrences_cons i i dead, matching_same i i 1 refl, occurrences_append i dead is));
    }

-- a chain is a chain in a table that differs only in cell counts
linked_alike : (t u : List ℕ) → SameButCounts t u → (w : ℕ) (is : List ℕ) → Linked t w is → Linked u w is
linked_alike t u s w [] h = h
linked_alike t u s w (i ∷ is) h =
    (h.0, rw s.same_capacity h.1, rw (s.same_words i left (omega arith) (omega arith)) (linked_alike t u s (word_at t i left) is h.2))

-- the sweep's meaning
pub sweeps : (t : List ℕ) (dead : List ℕ) → table_length (capacity t) ≤ length t → Indices (capacity t) dead → Sweep t dead (swept t dead)
unfolding swept
sweeps t dead f p =
    let u = lower_pointers t dead in
    let s = alike_lower t dead in
    let a = joins_all u dead (rw (s.same_capacity, s.same_length) f) (rw s.same_capacity p) in
    record {
      same_length = a.same_length ∙ s.same_length;
      same_capacity = a.same_capacity ∙ s.same_capacity;
      past_cells = (rw s.same_capacity at a.past_cells) ∙ s.past_cells;
      freed = a.freed;
      lowered = λ i l m. a.unchanged i cell_count (omega arith) m ∙ count_lower t dead f i l;
      unchanged = λ i k l n m. a.unchanged i k l m ∙ s.same_words i k l n;
      joined = λ is h e once. a.joined is (rw s.same_first (linked_alike t u s (first_free t) is h)) (e ∙ sym s.same_last) once;
    }
