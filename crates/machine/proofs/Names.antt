-- Laws of name counts: what naming and unnaming a packet's cells changes and what stands, and how often packets name a word.
use mathlib.Core.Path.{◌≡◌, refl, sym, ap, ap₂, ◌∙◌}
use mathlib.Core.Logic.{⊎_elim, ◌≢◌}
use mathlib.Core.Bool.{Bool, true, false, ◌||◌}
use mathlib.Core.List.{List, [], ◌∷◌, ◌++◌}
use Prim.Native.Nat.{ℕ, zero, suc, ◌+◌, ◌*◌, ◌≤◌, ◌<◌}
use native.Mathlib.Omega.{arith}
use lib.Dec.{ltb, eqb}
use lib.ListN.{length}
use borrow.Author.Tests.{ltb-false, lt-ltb, eqb-true, eqb-false}
use Rattle.machine.specs.Range.{matching, occurrences}
use Rattle.machine.specs.Table.{stride, right, root_count, state, name_count, capacity, first_free, last_free, table_length, word_at, in_use}
use Rattle.machine.specs.Queue.{Packet}
use Rattle.machine.specs.Packets.{Kind, reads, makes, replaces, raises, lowers, unknown, kind_of, name, Direction, plus, minus, names_of, names, name_changes, contains, is_named, times_named}
use Rattle.machine.specs.Step.{shifted, move_count, apply_changes, named}
use Rattle.machine.proofs.Range.{tested, matching_same, matching_other}
use Rattle.machine.proofs.Moves.{length_move, capacity_move, first_free_move, last_free_move, word_move, count_move}

-- what every move of a name count keeps, naming keeps
pub naming_keeps : (P : List ℕ → Type 0) (d : Direction) → ((t : List ℕ) (w : ℕ) → P t → P (move_count t name w d 1)) → (t : List ℕ) (ws : List ℕ) → P t
    → P (apply_changes t (name_changes d ws))
unfolding apply_changes name_changes
naming_keeps P d f t [] h = h
naming_keeps P d f t (w ∷ ws) h = naming_keeps P d f (move_count t name w d 1) ws (f t w h)

shifted_twice : (d : Direction) (n a b : ℕ) → shifted d (shifted d n a) b ≡ shifted d n (a + b)
shifted_twice plus n a b = omega arith
shifted_twice minus n a b = omega arith

-- a table with these words named: each cell's count moves by the places at which it stands
naming_counts : (d : Direction) (t : List ℕ) (ws : List ℕ) → table_length (capacity t) ≤ length t → (i : ℕ) → i < capacity t
    → word_at (apply_changes t (name_changes d ws)) i name_count ≡ shifted d (word_at t i name_count) (occurrences (suc i) ws)
unfolding apply_changes name_changes occurrences
naming_counts plus t [] f i l = omega arith
naming_counts minus t [] f i l = omega arith
naming_counts d t (w ∷ ws) f i l =
    let u = move_count t name w d 1 in
    naming_counts d u ws (rw (capacity_move t name w d 1, length_move t name w d 1) f) i (rw (capacity_move t name w d 1) l)
    ∙ ap (λ (n : ℕ). shifted d n (occurrences (suc i) ws)) (count_move t name w d 1 f i l)
    ∙ shifted_twice d (word_at t i name_count) (matching w (suc i) 1) (occurrences (suc i) ws)

module _ (d : Direction) (t : List ℕ) (p : Packet) where
  pub named_length : length (named d t p) ≡ length t
  unfolding named
  named_length = naming_keeps (λ u. length u ≡ length t) d (λ u w h. length_move u name w d 1 ∙ h) t (names p) refl

  pub named_capacity : capacity (named d t p) ≡ capacity t
  unfolding named
  named_capacity = naming_keeps (λ u. capacity u ≡ capacity t) d (λ u w h. capacity_move u name w d 1 ∙ h) t (names p) refl

  pub named_first : first_free (named d t p) ≡ first_free t
  unfolding named
  named_first = naming_keeps (λ u. first_free u ≡ first_free t) d (λ u w h. first_free_move u name w d 1 ∙ h) t (names p) refl

  pub named_last : last_free (named d t p) ≡ last_free t
  unfolding named
  named_last = naming_keeps (λ u. last_free u ≡ last_free t) d (λ u w h. last_free_move u name w d 1 ∙ h) t (names p) refl

  -- every word but the name count stands
  pub named_word : (i k : ℕ) → k < stride → k ≢ name_count → word_at (named d t p) i k ≡ word_at t i k
  unfolding named
  named_word i k l e = naming_keeps (λ u. word_at u i k ≡ word_at t i k) d (λ u w h. word_move u name w d 1 i k l e ∙ h) t (names p) refl

  pub named_field : (i k : ℕ) → k ≤ right → word_at (named d t p) i k ≡ word_at t i k
  named_field i k l = named_word i k (omega arith) (omega arith)

  pub named_root : (i : ℕ) → word_at (named d t p) i root_count ≡ word_at t i root_count
  named_root i = named_word i root_count (omega arith) (omega arith)

  pub named_use : (i : ℕ) → in_use (named d t p) i ≡ in_use t i
  unfolding in_use
  named_use i = ap (ltb 0) (named_word i state (omega arith) (omega arith))

  pub named_count : table_length (capacity t) ≤ length t → (i : ℕ) → i < capacity t
      → word_at (named d t p) i name_count ≡ shifted d (word_at t i name_count) (occurrences (suc i) (names p))
  unfolding named
  named_count f i l = naming_counts d t (names p) f i l

-- a word stands in a list as often as once or more exactly where the list has it
pub occurs_contains : (x : ℕ) (ws : List ℕ) → ltb 0 (occurrences x ws) ≡ contains ws x
unfolding occurrences contains
occurs_contains x [] = refl
occurs_contains x (w ∷ ws) = ⊎_elim here (λ e. there e (occurs_contains x ws)) (tested (eqb w x))
  where
    here : eqb w x ≡ true → ltb 0 (matching w x 1 + occurrences x ws) ≡ eqb w x || contains ws x
    here e = rw e (lt-ltb 0 (matching w x 1 + occurrences x ws) (omega (arith, matching_same w x 1 (eqb-true w x e))))

    there : eqb w x ≡ false → ltb 0 (occurrences x ws) ≡ contains ws x → ltb 0 (matching w x 1 + occurrences x ws) ≡ eqb w x || contains ws x
    there e ih =
        let none : matching w x 1 + occurrences x ws ≡ occurrences x ws = omega (arith, matching_other w x 1 (eqb-false w x e)) in
        rw e (ap (ltb 0) none ∙ ih)

-- a list that does not have x has it nowhere
pub none_contained : (x : ℕ) (ws : List ℕ) → contains ws x ≡ false → occurrences x ws ≡ 0
none_contained x ws e = let z = ltb-false 0 (occurrences x ws) (occurs_contains x ws ∙ e) in omega arith

sum_some : (a b : ℕ) → ltb 0 (a + b) ≡ ltb 0 a || ltb 0 b
sum_some zero b = let none : 0 + b ≡ b = omega arith in ap (ltb 0) none
sum_some (suc a) b = lt-ltb 0 (suc a + b) (omega arith) ∙ sym (ap (λ (x : Bool). x || ltb 0 b) (lt-ltb 0 (suc a) (omega arith)))

-- and packets name a word so often exactly where one of them names it
pub times_named_lem : (ps : List Packet) (x : ℕ) → ltb 0 (times_named ps x) ≡ is_named ps x
unfolding times_named is_named
times_named_lem [] x = refl
times_named_lem (p ∷ ps) x = sum_some (occurrences x (names p)) (times_named ps x) ∙ ap₂ ◌||◌ (occurs_contains x (names p)) (times_named_lem ps x)

pub times_append : (ps qs : List Packet) (x : ℕ) → times_named (ps ++ qs) x ≡ times_named ps x + times_named qs x
unfolding times_named
times_append [] qs x = omega arith
times_append (p ∷ ps) qs x = omega (arith, times_append ps qs x)

-- a packet names a word at three places or fewer
pub matching_few : (w x : ℕ) → matching w x 1 ≤ 1
matching_few w x = ⊎_elim (λ e. omega (arith, matching_same w x 1 (eqb-true w x e))) (λ e. omega (arith, matching_other w x 1 (eqb-false w x e))) (tested (eqb w x))

names_few : (k : Kind) (a b c x : ℕ) → occurrences x (names_of k a b c) ≤ 3
unfolding names_of occurrences
names_few reads a b c x = omega (arith, matching_few a x, matching_few b x, matching_few c x)
names_few makes a b c x = omega (arith, matching_few a x, matching_few b x, matching_few c x)
names_few (replaces k) a b c x = omega (arith, matching_few a x, matching_few b x, matching_few c x)
names_few raises a b c x = omega (arith, matching_few a x)
names_few lowers a b c x = omega (arith, matching_few a x)
names_few unknown a b c x = omega arith

pub packet_names : (p : Packet) (x : ℕ) → occurrences x (names p) ≤ 3
unfolding names
packet_names p x = names_few (kind_of p.kind) p.a p.b p.c x

pub times_most : (ps : List Packet) (x : ℕ) → times_named ps x ≤ 3 * length ps
unfolding times_named
times_most [] x = omega arith
times_most (p ∷ ps) x = omega (arith, packet_names p x, times_most ps x)
