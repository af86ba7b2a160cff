-- Question 10 at a crowded table: what the questions say of a replace that would add one pointer, and of one that adds none.
use mathlib.Core.Path.{◌≡◌, refl, ap₂, ◌∙◌}
use mathlib.Core.Logic.{inl}
use mathlib.Core.Bool.{Bool, true, false, cond, ◌||◌}
use mathlib.Core.List.{List, [], ◌∷◌}
use Prim.Native.Nat.{ℕ, suc, ◌+◌, ◌*◌, ◌≤◌, ◌<◌}
use native.Mathlib.Omega.{arith}
use lib.Dec.{leb, eqb}
use lib.ListN.{set}
use borrow.Author.Tests.{le-leb, lt-leb}
use Rattle.machine.specs.Range.{every_of, matching}
use Rattle.machine.specs.Words.{is_nil, is_cell, is_atom, is_legal, may_be_stored, ceiling}
use Rattle.machine.specs.Table.{left, right, root_count, capacity, position, word_at, put_word}
use Rattle.machine.specs.Queue.{Packet, packet, empty_queue, slot, put_slot, appended, waiting, packets_from}
use Rattle.machine.specs.Packets.{replaces, kind_of, root, plus, minus, changes_of, changes, names_of, names, name_changes, uses_of, uses, moved_by, waiting_change}
use Rattle.machine.specs.Counts.{held_at_least, held_at_most, pointers}
use Rattle.machine.specs.Calls.{row, set_left, set_right, value, Store, store, field, packet_of, reads_nil, written, value_of}
use Rattle.machine.specs.Step.{move_count, apply_changes, named, outcome}
use Rattle.machine.specs.Questions.{first_no, in_range, words_legal, x_is_cell, words_storable, held_enough, slot_empty, held_within, pointers_within, early_row, early, ask_free, late_row, late, questions}
use Rattle.machine.specs.Audit.{Sound}
use Rattle.machine.specs.Machine.{accepted}
use Rattle.machine.specs.WrongAnswers.{noes, refuses, gives, Only, AllOnly, crowded, pointer_entries}
use Rattle.machine.proofs.Range.{matching_same, matching_other, every_fails}
use Rattle.machine.proofs.Crowded.{first_is, each, all_cells, held_at, one_is_cell, pointers_first, pointers_few, shape, sound_table}
use Rattle.machine.proofs.Kept.{machine_accepted}
use Rattle.machine.proofs.OnlyAnswers.{only_first, only_decided}

-- a replace of a field of the first cell by that cell: what its packet asks and changes
abbrev replace : ℕ → ℕ → Packet
replace k b = packet k 1 b 1

module _ (k f : ℕ) (kind : kind_of k ≡ replaces f) (b : ℕ) where
  uses_first : uses (replace k b) 1 ≡ 2
  unfolding uses uses_of matching
  uses_first = rw kind

  uses_other : (i : ℕ) → uses (replace k b) (suc (suc i)) ≡ 0
  unfolding uses uses_of
  uses_other i = let no : matching 1 (suc (suc i)) 1 ≡ 0 = matching_other 1 (suc (suc i)) 1 (λ e. omega arith) in rw kind (ap₂ ◌+◌ no no)

  raises_none : (x : ℕ) → waiting_change root plus x (replace k b ∷ []) ≡ 0
  unfolding waiting_change moved_by changes changes_of
  raises_none x = rw kind

left_kind : kind_of 3 ≡ replaces left
unfolding kind_of
left_kind = refl

right_kind : kind_of 6 ≡ replaces right
unfolding kind_of
right_kind = refl

waiting_none : waiting empty_queue ≡ []
unfolding waiting packets_from
waiting_none = refl

waiting_one : (p : Packet) → waiting (appended empty_queue p) ≡ p ∷ []
unfolding waiting packets_from appended put_slot slot
waiting_one p = refl

written_right : (n holds : ℕ) → written (crowded n 0 holds) (set_right 1 1) ≡ crowded n 1 holds
unfolding written put_word position crowded
written_right n holds = refl

written_left : (n holds : ℕ) → written (crowded n 0 holds) (set_left 1 1) ≡ crowded n 0 holds
unfolding written put_word position crowded
written_left n holds = refl

module _ (n holds : ℕ) (some : 1 ≤ holds) (few : holds ≤ ceiling) (fits : suc (2 * n) ≤ ceiling) where
  abbrev u : List ℕ
  u = crowded n 0 holds

  abbrev v : List ℕ
  v = crowded n 1 holds

  no_two : holds < 2 → held_at_least u [] 0 2 ≡ false
  unfolding held_at_least waiting_change
  no_two h = lt-leb (0 + 2) (word_at u 0 root_count + 0) (omega (arith, (first_is n 0 holds).held))

  two : 2 ≤ holds → held_at_least u [] 0 2 ≡ true
  unfolding held_at_least waiting_change
  two h = le-leb (0 + 2) (word_at u 0 root_count + 0) (omega (arith, (first_is n 0 holds).held))

  module _ (k f : ℕ) (kind : kind_of k ≡ replaces f) (b : ℕ) where
    abbrev asks : ℕ → Bool
    asks i = eqb (uses (replace k b) (suc i)) 0 || held_at_least u [] i (uses (replace k b) (suc i))

    enough : 2 ≤ holds → held_enough u [] (replace k b) ≡ true
    unfolding held_enough
    enough h =
        all_cells n 0 holds (omega arith) some few asks (each (λ i. asks i ≡ true) n
        (rw (uses_first k f kind b) (two h)) (λ i l. rw (uses_other k f kind b i)))

    not_enough : holds < 2 → held_enough u [] (replace k b) ≡ false
    unfolding held_enough
    not_enough h = every_fails (capacity u) asks 0 (omega (arith, (first_is n 0 holds).cells)) (rw (uses_first k f kind b) (no_two h))

    held_few : (word : ℕ) → word ≤ 1 → held_within (crowded n word holds) (replace k b ∷ []) ≡ true
    unfolding held_within held_at_most
    held_few word small =
        let t = crowded n word holds in
        all_cells n word holds small some few (λ i. held_at_most t (replace k b ∷ []) i ceiling)
        (λ i l. le-leb (word_at t i root_count + waiting_change root plus (suc i) (replace k b ∷ [])) (ceiling + waiting_change root minus (suc i) (replace k b ∷ []))
        (omega (arith, (held_at n word holds small some few i l).1, raises_none k f kind b (suc i))))

  pub over : ceiling < 2 + 2 * n → pointers_within v ≡ false
  unfolding pointers_within
  over h =
      let p : pointers v 1 ≡ 1 + matching 1 1 1 + 2 * n = pointers_first n 1 holds (omega arith) some few in
      every_fails (capacity v) (λ i. leb (pointers v (suc i)) ceiling) 0 (omega (arith, (first_is n 1 holds).cells))
      (lt-leb (pointers v 1) ceiling (omega (arith, matching_same 1 1 1 refl)))

  legal : words_legal u (1 ∷ 1 ∷ []) ≡ true
  unfolding words_legal every_of is_legal is_nil
  legal = rw (one_is_cell n 0 holds (omega arith) some few)

  is_cell_lem : x_is_cell u 1 ≡ true
  unfolding x_is_cell
  is_cell_lem = one_is_cell n 0 holds (omega arith) some few

  storable : words_storable (1 ∷ []) ≡ true
  unfolding words_storable every_of may_be_stored is_atom
  storable = refl

  packet_right : packet_of u (set_right 1 1) ≡ replace 6 0
  unfolding packet_of field
  packet_right = rw (first_is n 0 holds).holds_word

  packet_left : packet_of u (set_left 1 1) ≡ replace 3 1
  unfolding packet_of field
  packet_left = rw (first_is n 0 holds).points

  in_range_lem : in_range u empty_queue ≡ true
  in_range_lem = shape n 0 holds (omega arith) some few refl fits

  pub crowded_sound : Sound u empty_queue
  crowded_sound = sound_table n 0 holds (omega arith) some few refl fits

  module _ (s : List ℕ) where
    abbrev lent : Store
    lent = store u empty_queue s

    -- a replace of the first cell by itself adds no pointer: every question says "yes"
    pub itself_accepted : 2 ≤ holds → first_no (questions lent (row (set_left 1 1))) ≡ 0
    unfolding first_no questions early early_row late late_row reads_nil ask_free slot_empty
    itself_accepted h =
        rw (
          in_range_lem,
          legal,
          is_cell_lem,
          storable,
          packet_left,
          waiting_none,
          waiting_one (replace 3 1),
          written_left n holds,
          enough 3 left left_kind 1 h,
          held_few 3 left left_kind 1 0 (omega arith),
          pointers_few n 0 holds (omega arith) some few refl fits,
        )

    -- and its packet names that cell three times
    named_thrice : named plus u (replace 3 1) ≡ set u 8 3
    unfolding named apply_changes name_changes names names_of kind_of move_count capacity word_at put_word position crowded
    named_thrice = let cell : is_cell (suc n) 1 ≡ true = one_is_cell n 0 holds (omega arith) some few in rw (cell, cell, cell)

    pub itself_gives : accepted lent (row (set_left 1 1)) ≡ outcome (value 1) (store (set u 8 3) (appended empty_queue (replace 3 1)) s)
    unfolding accepted value_of reads_nil field
    itself_gives = rw (packet_left, written_left n holds, (first_is n 0 holds).points, named_thrice)

    only_itself : 2 ≤ holds → Only (gives lent (row (set_left 1 1)) (value 1) (store (set u 8 3) (appended empty_queue (replace 3 1)) s))
    only_itself h = only_decided lent (row (set_left 1 1)) _ (inl crowded_sound) (machine_accepted lent (row (set_left 1 1)) (itself_accepted h) ∙ itself_gives)

    -- all but questions 6 and 10 say "yes" of one that adds a pointer; where the pointers have no room for it, 10 says "no"
    module _ (tight : ceiling < 2 + 2 * n) where
      noes_are : (b : Bool) → held_enough u [] (replace 6 0) ≡ b → noes (questions lent (row (set_right 1 1))) ≡ cond b (10 ∷ []) (6 ∷ 10 ∷ [])
      unfolding noes questions early early_row late late_row reads_nil ask_free slot_empty
      noes_are b h =
          rw (in_range_lem, legal, is_cell_lem, storable, packet_right, waiting_none, waiting_one (replace 6 0), written_right n holds, h, held_few 6 right right_kind 0 1 (omega arith), over tight)

      only_ten : 2 ≤ holds → Only (refuses lent (row (set_right 1 1)) 10 [])
      only_ten h = let e = noes_are true (enough 6 right right_kind 0 h) in (e, only_first lent (row (set_right 1 1)) 9 [] (inl crowded_sound) e)

      only_six : holds < 2 → Only (refuses lent (row (set_right 1 1)) 6 (10 ∷ []))
      only_six h = let e = noes_are false (not_enough 6 right right_kind 0 h) in (e, only_first lent (row (set_right 1 1)) 5 (10 ∷ []) (inl crowded_sound) e)

-- the entries, with 2,047 cells beside the first
pub pointers_only : AllOnly pointer_entries
unfolding put_word position
pointers_only = (
  only_ten 2047 2 (omega arith) (omega arith) (omega arith) _ (omega arith) (omega arith),
  (
    only_six 2047 1 (omega arith) (omega arith) (omega arith) _ (omega arith) (omega arith),
    (only_itself 2047 2 (omega arith) (omega arith) (omega arith) _ (omega arith), tt),
  ),
)
