-- The longest text that is read, and one byte more: spaces before the text of nil.
use mathlib.Core.Path.{◌≡◌, refl, ap, ◌∙◌}
use mathlib.Core.Logic.{inr}
use mathlib.Core.Bool.{true, false}
use mathlib.Core.List.{List, [], ◌∷◌, ◌++◌}
use Prim.Native.Nat.{ℕ, zero, suc, ◌+◌, ◌≤◌, ◌<◌}
use native.Mathlib.Omega.{arith}
use lib.ListN.{length, replicate, length-append, length-replicate}
use borrow.Author.Tests.{le-leb, lt-leb}
use Rattle.notation.specs.Trees.{nil, pairs}
use Rattle.notation.specs.Grammar.{most_text}
use Rattle.notation.specs.Parse.{tree, with_byte, marks_after, list_of, parsed_from, parse}
use Rattle.notation.specs.Brackets.{open_after, opens_too_many, too_deep}
use Rattle.machine.specs.Range.{select}
use Rattle.machine.specs.Queue.{slots}
use Rattle.machine.specs.Table.{capacity, is_free}
use Rattle.machine.specs.Calls.{read, value, refused, Store}
use Rattle.machine.specs.Step.{outcome}
use Rattle.machine.specs.Texts.{build_by, atoms_storable}
use Rattle.machine.specs.Questions.{first_no, in_range, in_notation, not_too_deep, text_storable, text_pairs, slots_empty, cells_free, early, late, questions}
use Rattle.machine.specs.Machine.{text_read, accepted}
use Rattle.machine.specs.WrongAnswers.{noes, OnlyAnswer, spaced}
use Rattle.machine.proofs.Questions.{shape_is}
use Rattle.machine.proofs.Kept.{machine_accepted}
use Rattle.machine.proofs.OnlyAnswers.{only_decided, only_first}

-- spaces in front mean nothing
marks_spaced : (n : ℕ) (bytes : List ℕ) → marks_after [] (replicate n 32 ++ bytes) ≡ marks_after [] bytes
unfolding marks_after with_byte
marks_spaced zero bytes = refl
marks_spaced (suc n) bytes = marks_spaced n bytes

parse_spaced : (n : ℕ) → parse (spaced n) ≡ tree nil
unfolding parse parsed_from marks_after with_byte list_of
parse_spaced n = rw (marks_spaced n (40 ∷ 41 ∷ []))

shallow_spaced : (n : ℕ) → too_deep 0 (spaced n) ≡ false
unfolding too_deep open_after opens_too_many
shallow_spaced zero = refl
shallow_spaced (suc n) = shallow_spaced n

length_spaced : (n : ℕ) → length (spaced n) ≡ n + 2
length_spaced n = length-append (replicate n 32) (40 ∷ 41 ∷ []) ∙ ap (λ (k : ℕ). k + 2) (length-replicate n 32)

module _ (s : Store) (h : in_range s.table s.queue ≡ true) (n : ℕ) where
  no_pairs : text_pairs (spaced n) ≡ 0
  unfolding text_pairs pairs
  no_pairs = rw (parse_spaced n)

  slots_enough : slots_empty s.queue (text_pairs (spaced n)) ≡ true
  unfolding slots_empty
  slots_enough = le-leb (s.queue.count + text_pairs (spaced n)) slots (omega (arith, no_pairs, (shape_is s.table s.queue h).queue.count))

  cells_enough : cells_free s.table (text_pairs (spaced n)) ≡ true
  unfolding cells_free
  cells_enough = le-leb (text_pairs (spaced n)) (length (select (capacity s.table) (is_free s.table))) (omega (arith, no_pairs))

  storable : text_storable (spaced n) ≡ true
  unfolding text_storable atoms_storable
  storable = rw (parse_spaced n)

  shallow : not_too_deep (spaced n) ≡ true
  unfolding not_too_deep
  shallow = rw (shallow_spaced n)

  accepts : n + 2 ≤ most_text → first_no (questions s (read (spaced n))) ≡ 0
  unfolding questions early late first_no in_notation
  accepts l =
      rw (h, le-leb (length (spaced n)) most_text (omega (arith, length_spaced n)), parse_spaced n, shallow, storable, slots_enough, cells_enough)

  pub refuses_spaced : most_text < n + 2 → noes (questions s (read (spaced n))) ≡ 11 ∷ []
  unfolding questions early late noes in_notation
  refuses_spaced l =
      rw (h, lt-leb (length (spaced n)) most_text (omega (arith, length_spaced n)), shallow, storable, slots_enough, cells_enough)

  pub only_reads : n + 2 ≤ most_text → OnlyAnswer s (read (spaced n)) (value 0) s
  unfolding accepted text_read build_by
  only_reads l =
      only_decided s (read (spaced n)) (outcome (value 0) s) (inr no_pairs)
      (machine_accepted s (read (spaced n)) (accepts l) ∙ rw (parse_spaced n))

  pub only_refuses : most_text < n + 2 → OnlyAnswer s (read (spaced n)) (refused 11) s
  only_refuses l = only_first s (read (spaced n)) 10 [] (inr no_pairs) (refuses_spaced l)
