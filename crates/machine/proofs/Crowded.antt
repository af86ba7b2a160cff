-- A table of so many cells that all point to the first one is too long to compute with: that it is sound is shown by laws.
use mathlib.Core.Path.{◌≡◌, refl, sym, ap, ap₂, ◌∙◌}
use mathlib.Core.Bool.{Bool, true, false, cond, ◌||◌}
use mathlib.Core.List.{List, [], ◌∷◌}
use Prim.Native.Nat.{ℕ, zero, suc, ◌+◌, ◌*◌, ◌≤◌, ◌<◌}
use native.Mathlib.Omega.{arith}
use lib.Dec.{leb, eqb}
use lib.ListN.{length, get_or, length-append, get_or-append}
use lib.Seq.{get_or-append-add}
use borrow.Author.Tests.{le-leb, lt-ltb, eq-eqb}
use Rattle.machine.specs.Range.{every, every_of, occurrences, last_of, total, matching}
use Rattle.machine.specs.Words.{is_cell, is_nil, is_atom, ceiling}
use Rattle.machine.specs.Table.{stride, left, right, root_count, cell_count, state, name_count, capacity, first_free, last_free, position, word_at, in_use, is_free}
use Rattle.machine.specs.Queue.{empty_queue, slot, waiting, packets_from}
use Rattle.machine.specs.Packets.{times_named}
use Rattle.machine.specs.Reached.{is_protected, is_root, begun, reached}
use Rattle.machine.specs.Counts.{pointers_from, pointers}
use Rattle.machine.specs.Questions.{in_range, pointers_within}
use Rattle.machine.specs.Audit.{field_sound, cell_sound, cells_sound, walk, free_chain, laid_out, met_once, chain_sound, is_zero_packet, other_slots_zero, packets_legal, replays, names_counted, packets_sound, before, undoes, pointers_sound, all_reached, Sound}
use Rattle.machine.specs.WrongAnswers.{repeated, crowded}
use Rattle.machine.proofs.Range.{or_left, or_right, and_both, every_all, matching_same, matching_other, total_same, total_zero}
use Rattle.machine.proofs.Questions.{shape_test}
use Rattle.machine.proofs.Reached.{reached_is}

repeated_word : (n : ℕ) (ws : List ℕ) → length ws ≡ stride → (i k : ℕ) → i < n → k < stride → get_or (repeated n ws) (stride * i + k) 0 ≡ get_or ws k 0
unfolding repeated
repeated_word zero ws e i k l m = absurd (omega arith)
repeated_word (suc n) ws e zero k l m =
    let j : stride * 0 + k ≡ k = omega arith in
    rw j (get_or-append ws (repeated n ws) 0 k (omega arith))
repeated_word (suc n) ws e (suc i) k l m =
    let j : stride * suc i + k ≡ length ws + (stride * i + k) = omega arith in
    rw (j, get_or-append-add ws (repeated n ws) (stride * i + k) 0) (repeated_word n ws e i k (omega arith) m)

length_repeated : (n : ℕ) (ws : List ℕ) → length ws ≡ stride → length (repeated n ws) ≡ stride * n
unfolding repeated
length_repeated zero ws e = refl
length_repeated (suc n) ws e = rw (length-append ws (repeated n ws), length_repeated n ws e) (omega arith)

-- a sum of twos behind its first term
total_twos : (n : ℕ) (f : ℕ → ℕ) → ((i : ℕ) → i < n → f (suc i) ≡ 2) → total (suc n) f ≡ f 0 + 2 * n
unfolding total
total_twos zero f e = omega arith
total_twos (suc n) f e = omega (arith, total_twos n f (λ i l. e i (omega arith)), e n (omega arith))

-- the first cell, and the others
pub each : (P : ℕ → Type 0) (n : ℕ) → P 0 → ((i : ℕ) → i < n → P (suc i)) → (i : ℕ) → i < suc n → P i
each P n p q zero l = p
each P n p q (suc i) l = q i (omega arith)

abbrev ones : List ℕ
ones = 1 ∷ 1 ∷ 1 ∷ 0 ∷ 1 ∷ 0 ∷ []

abbrev front : ℕ → ℕ → ℕ → List ℕ
front n word holds = suc n ∷ 0 ∷ 0 ∷ 1 ∷ word ∷ holds ∷ suc (2 * n) ∷ 1 ∷ 0 ∷ []

-- what stands in front, and in the first cell
pub record First (n word holds : ℕ) : Type 0 where
  pub cells : capacity (crowded n word holds) ≡ suc n
  pub begins : first_free (crowded n word holds) ≡ 0
  pub ends : last_free (crowded n word holds) ≡ 0
  pub size : length (crowded n word holds) ≡ 9 + length (repeated n ones)
  pub points : word_at (crowded n word holds) 0 left ≡ 1
  pub holds_word : word_at (crowded n word holds) 0 right ≡ word
  pub held : word_at (crowded n word holds) 0 root_count ≡ holds
  pub counted : word_at (crowded n word holds) 0 cell_count ≡ suc (2 * n)
  pub used : word_at (crowded n word holds) 0 state ≡ 1
  pub unnamed : word_at (crowded n word holds) 0 name_count ≡ 0

pub first_is : (n word holds : ℕ) → First n word holds
unfolding capacity first_free last_free word_at position crowded
first_is n word holds = record {
  cells = refl;
  begins = refl;
  ends = refl;
  size = length-append (front n word holds) (repeated n ones);
  points = refl;
  holds_word = refl;
  held = refl;
  counted = refl;
  used = refl;
  unnamed = refl;
}

other_word : (n word holds i k : ℕ) → i < n → k < stride → word_at (crowded n word holds) (suc i) k ≡ get_or ones k 0
unfolding word_at position crowded
other_word n word holds i k l m =
    let j : 3 + stride * suc i + k ≡ length (front n word holds) + (stride * i + k) = omega arith in
    rw j (get_or-append-add (front n word holds) (repeated n ones) (stride * i + k) 0 ∙ repeated_word n ones refl i k l m)

module _ (n word holds : ℕ) (small : word ≤ 1) (some : 1 ≤ holds) (few : holds ≤ ceiling) where
  abbrev t : List ℕ
  t = crowded n word holds

  abbrev f : First n word holds
  f = first_is n word holds

  abbrev other : (i k : ℕ) → i < n → k < stride → word_at t (suc i) k ≡ get_or ones k 0
  other = other_word n word holds

  used_at : (i : ℕ) → i < suc n → word_at t i state ≡ 1
  used_at i l = each (λ j. word_at t j state ≡ 1) n f.used (λ j m. other j state m (omega arith)) i l

  points_at : (i : ℕ) → i < suc n → word_at t i left ≡ 1
  points_at i l = each (λ j. word_at t j left ≡ 1) n f.points (λ j m. other j left m (omega arith)) i l

  pub held_at : (i : ℕ) → i < suc n → (1 ≤ word_at t i root_count) × (word_at t i root_count ≤ ceiling)
  held_at i l =
      each (λ j. (1 ≤ word_at t j root_count) × (word_at t j root_count ≤ ceiling)) n (rw f.held (some, few))
      (λ j m. rw (other j root_count m (omega arith)) (omega arith, omega arith)) i l

  in_use_lem : (i : ℕ) → i < suc n → in_use t i ≡ true
  unfolding in_use
  in_use_lem i l = rw (used_at i l)

  not_free : (i : ℕ) → i < suc n → is_free t i ≡ false
  unfolding is_free
  not_free i l = rw (in_use_lem i l)

  -- the first cell may stand in a field
  pub one_is_cell : is_cell (capacity t) 1 ≡ true
  unfolding is_cell
  one_is_cell = rw f.cells (le-leb 1 (suc n) (omega arith))

  sound_one : field_sound t 1 ≡ true
  unfolding field_sound is_nil is_atom
  sound_one = and_both one_is_cell (in_use_lem 0 (omega arith))

  sound_word : (w : ℕ) → w ≤ 1 → field_sound t w ≡ true
  unfolding field_sound is_nil
  sound_word zero l = refl
  sound_word (suc w) l = let e : w ≡ 0 = omega arith in rw e sound_one

  sound_left : (i : ℕ) → i < suc n → field_sound t (word_at t i left) ≡ true
  sound_left i l = rw (points_at i l) sound_one

  sound_right : (i : ℕ) → i < suc n → field_sound t (word_at t i right) ≡ true
  sound_right i l =
      each (λ j. field_sound t (word_at t j right) ≡ true) n (rw f.holds_word (sound_word word small))
      (λ j m. rw (other j right m (omega arith)) sound_one) i l

  -- the pointers to each cell
  from_first : (x : ℕ) → pointers_from t x 0 ≡ matching 1 x 1 + matching word x 1
  unfolding pointers_from
  from_first x = rw (in_use_lem 0 (omega arith), f.points, f.holds_word)

  from_other : (x i : ℕ) → i < n → pointers_from t x (suc i) ≡ matching 1 x 1 + matching 1 x 1
  unfolding pointers_from
  from_other x i l = rw (in_use_lem (suc i) (omega arith), other i left l (omega arith), other i right l (omega arith))

  pub pointers_first : pointers t 1 ≡ 1 + matching word 1 1 + 2 * n
  unfolding pointers
  pointers_first =
      let one : matching 1 1 1 ≡ 1 = matching_same 1 1 1 refl in
      let twos = total_twos n (pointers_from t 1) (λ i l. from_other 1 i l ∙ ap₂ ◌+◌ one one) in
      rw f.cells (twos ∙ ap (λ m. m + 2 * n) (from_first 1 ∙ ap (λ m. m + matching word 1 1) one))

  pointers_other : (i : ℕ) → pointers t (suc (suc i)) ≡ 0
  unfolding pointers
  pointers_other i =
      let x = suc (suc i) in
      let no : matching 1 x 1 ≡ 0 = matching_other 1 x 1 (λ e. omega arith) in
      let none : matching word x 1 ≡ 0 = matching_other word x 1 (λ e. omega arith) in
      let nowhere = each (λ j. pointers_from t x j ≡ 0) n (from_first x ∙ ap₂ ◌+◌ no none) (λ j l. from_other x j l ∙ ap₂ ◌+◌ no no) in
      rw f.cells (total_same (suc n) (pointers_from t x) (λ j. 0) nowhere ∙ total_zero (suc n))

  pub all_cells : (p : ℕ → Bool) → ((i : ℕ) → i < suc n → p i ≡ true) → every (capacity t) p ≡ true
  all_cells p h = every_all (capacity t) p (λ i l. h i (rw f.cells at l))

  -- where the first cell's right field is nil and the pointers are few enough, the table is sound with no packet waiting
  module _ (nil : word ≡ 0) (fits : suc (2 * n) ≤ ceiling) where
    no_match : matching word 1 1 ≡ 0
    no_match = matching_other word 1 1 (λ e. omega arith)

    count_at_lem : (i : ℕ) → i < suc n → word_at t i cell_count ≡ pointers t (suc i)
    count_at_lem i l =
        each (λ j. word_at t j cell_count ≡ pointers t (suc j)) n (let c = f.counted in let p = pointers_first in let m = no_match in omega arith)
        (λ j m. other j cell_count m (omega arith) ∙ sym (pointers_other j)) i l

    few_pointers : (i : ℕ) → i < suc n → pointers t (suc i) ≤ ceiling
    few_pointers i l =
        each (λ j. pointers t (suc j) ≤ ceiling) n (let p = pointers_first in let m = no_match in omega arith)
        (λ j m. omega (arith, pointers_other j)) i l

    pub pointers_few : pointers_within t ≡ true
    unfolding pointers_within
    pointers_few = all_cells (λ i. leb (pointers t (suc i)) ceiling) (λ i l. le-leb (pointers t (suc i)) ceiling (few_pointers i l))

    pub shape : in_range t empty_queue ≡ true
    shape = shape_test t empty_queue (record {
      table = record {
        some = omega (arith, f.cells);
        most = omega (arith, f.cells);
        first = omega (arith, f.begins);
        last = omega (arith, f.ends);
        room = omega (arith, f.cells, f.size, length_repeated n ones refl);
      };
      queue = record { place = omega arith; count = omega arith };
    })

    cells : cells_sound t ≡ true
    unfolding cells_sound cell_sound
    cells = all_cells (cell_sound t) (λ i l. and_both (and_both (and_both
        (le-leb (word_at t i state) 1 (omega (arith, used_at i l)))
        (le-leb (word_at t i root_count) ceiling (held_at i l).1))
        (le-leb (word_at t i cell_count) ceiling (omega (arith, count_at_lem i l, few_pointers i l))))
        (or_right (is_free t i) (and_both (sound_left i l) (sound_right i l))))

    no_chain : free_chain t ≡ []
    unfolding free_chain walk
    no_chain = rw f.begins

    chain : chain_sound t ≡ true
    unfolding chain_sound met_once every_of occurrences last_of
    chain = rw (no_chain, f.ends) (and_both (and_both
        (all_cells (λ i. eqb 0 (cond (is_free t i) 1 0)) (λ i l. rw (not_free i l))) refl)
        (all_cells (λ i. in_use t i || laid_out t i) (λ i l. or_left (laid_out t i) (in_use_lem i l))))

    unnamed_at : (i : ℕ) → i < suc n → word_at t i name_count ≡ 0
    unnamed_at i l = each (λ j. word_at t j name_count ≡ 0) n f.unnamed (λ j m. other j name_count m (omega arith)) i l

    packets : packets_sound t empty_queue ≡ true
    unfolding packets_sound packets_legal replays names_counted times_named other_slots_zero is_zero_packet waiting packets_from slot every
    packets =
        and_both (all_cells (λ i. true) (λ i l. refl))
        (all_cells (λ i. eqb (word_at t i name_count) 0) (λ i l. eq-eqb (word_at t i name_count) 0 (unnamed_at i l)))

    pub pointed : pointers_sound t [] ≡ true
    unfolding pointers_sound undoes before
    pointed = and_both pointers_few (all_cells (λ i. eqb (word_at t i cell_count) (pointers t (suc i))) (λ i l. eq-eqb (word_at t i cell_count) (pointers t (suc i)) (count_at_lem i l)))

    root_at : (i : ℕ) → i < suc n → is_root t i ≡ true
    unfolding is_root
    root_at i l = or_left (is_protected t i) (lt-ltb 0 (word_at t i root_count) (held_at i l).0)

    live : all_reached t ≡ true
    unfolding all_reached
    live = all_cells (λ i. is_free t i || reached t i) (λ i l. or_right (is_free t i) ((reached_is t i).1 (begun (rw f.cells l) (root_at i l))))

    pub sound_table : Sound t empty_queue
    unfolding waiting packets_from
    sound_table = record { shape = shape; cells = cells; chain = chain; packets = packets; pointed = pointed; live = live }
