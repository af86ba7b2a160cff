-- The stores that the rules program has: clean before each line, and with one hold while a line is answered.
use Rattle.std.specs.Prelude.{◌≡◌, true, false, List, ◌++◌, ℕ, ◌+◌, ◌≤◌, ◌<◌, length, take}
use Rattle.base_ten.specs.Put.{Put}
use Rattle.notation.specs.Parse.{parse, meaning}
use Rattle.notation.specs.Print.{print}
use Rattle.notation.specs.Brackets.{too_deep}
use Rattle.machine.specs.declared.Queue.{Queue}
use Rattle.machine.specs.Range.{matching}
use Rattle.machine.specs.Words.{is_legal}
use Rattle.machine.specs.Table.{capacity, table_length, scratch_words, in_use}
use Rattle.machine.specs.Calls.{Reply, value, refused, idle, applied, sound, broken, text}
use Rattle.machine.specs.Texts.{OpensOut}
use Rattle.machine.specs.Questions.{text_pairs}
use Rattle.soundness.specs.Whole.{Whole}
use Rattle.soundness.specs.Demand3.{holds, RootsAreHolds}
use Rattle.rule_lines.specs.Answers.{store_cells, no, answer_of, answer_line, most_answer, room}
use Rattle.rule_lines.specs.Kept.{kept_bytes}

-- a sound store of 64 cells with nothing waiting and no cell in use, and scratch enough for its steps
pub record Clean (t : List ℕ) (q : Queue) (scratch : List ℕ) : Type 0 where
  pub whole : Whole t q
  pub size : capacity t ≡ store_cells
  pub lent : scratch_words store_cells ≤ length scratch
  pub idle : q.count ≡ 0
  pub free : (i : ℕ) → i < capacity t → in_use t i ≡ false

-- a sound store of 64 cells on which the word w, if it is a cell, is held once, and nothing else
pub record Holding (w : ℕ) (t : List ℕ) (q : Queue) (scratch : List ℕ) : Type 0 where
  pub whole : Whole t q
  pub size : capacity t ≡ store_cells
  pub lent : scratch_words store_cells ≤ length scratch
  pub legal : is_legal store_cells w ≡ true
  pub once : RootsAreHolds t q (λ x. holds (matching w x 1) 0)

-- the word w of a line that was read, a packet for each pair waiting: its text can be written back
pub record ReadBack (line : List ℕ) (w : ℕ) (t : List ℕ) (q : Queue) (scratch : List ℕ) : Type 0 where
  pub holding : Holding w t q scratch
  pub waits : q.count ≡ text_pairs line
  pub opens : OpensOut t w (meaning (parse line))
  pub answer : answer_of line ≡ print (meaning (parse line))
  pub shallow : too_deep 0 (print (meaning (parse line))) ≡ false
  pub fits : length (print (meaning (parse line))) ≤ most_answer

-- what reading a line gives on a clean store: its word, or one of the refusals that are its answer, and then the store stands
abbrev pub Reads : List ℕ → List ℕ → Queue → List ℕ → Reply → List ℕ → Queue → Type 0
Reads line t q scratch (value w) t' q' = ReadBack line w t' q' scratch
Reads line t q scratch (refused n) t' q' = (answer_of line ≡ no n) × (t' ≡ t) × (q' ≡ q)
Reads line t q scratch idle t' q' = ⊥
Reads line t q scratch (applied k n) t' q' = ⊥
Reads line t q scratch sound t' q' = ⊥
Reads line t q scratch (broken n) t' q' = ⊥
Reads line t q scratch (text bs) t' q' = ⊥

-- as many steps as packets wait leave none waiting, and move no hold
abbrev pub Drains : List ℕ → Queue → List ℕ → List ℕ → Queue → List ℕ → Type 0
Drains t q scratch t' q' scratch' = (w : ℕ) → Holding w t q scratch → Holding w t' q' scratch' × (q'.count ≡ 0)

-- with nothing waiting the hold of w is given up
abbrev pub GivesUp : ℕ → List ℕ → Queue → List ℕ → Queue → Type 0
GivesUp w t q t' q' = (scratch : List ℕ) → q.count ≡ 0 → Holding w t q scratch → Holding 0 t' q' scratch

-- and the steps that follow leave the store clean
abbrev pub Cleans : ℕ → List ℕ → Queue → List ℕ → List ℕ → Queue → List ℕ → Type 0
Cleans w t q scratch t' q' scratch' = Holding w t q scratch → Clean t' q' scratch'

-- a table long enough is made clean by a fresh
abbrev pub Freshens : List ℕ → List ℕ → Queue → Type 0
Freshens t t' q' = (scratch : List ℕ) → table_length store_cells ≤ length t → scratch_words store_cells ≤ length scratch → Clean t' q' scratch

-- what is written of the word w from a place of the output on
pub record PutsText (w : ℕ) (t : List ℕ) (q : Queue) (out : List ℕ) (at : ℕ) (out' : List ℕ) (end : ℕ) : Type 0 where
  pub within : end ≤ at + most_answer
  pub told : (line scratch : List ℕ) → ReadBack line w t q scratch → Put out at (answer_of line) out' end

-- on a clean store this is put into the output, of at most so many bytes, and the store is clean again
pub record Answers (answer : List ℕ) (most : ℕ) (t : List ℕ) (q : Queue) (scratch out : List ℕ) (at : ℕ) (t' : List ℕ) (q' : Queue) (scratch' out' : List ℕ) (end : ℕ) :
    Type 0 where
  pub within : end ≤ at + most
  pub told : Clean t q scratch → Clean t' q' scratch' × Put out at answer out' end

-- of a line that has begun with the bytes held and ends with a part, where as many bytes are kept as tell that a line is too long
pub record AnswersHeld (line : List ℕ) (held : ℕ) (part t : List ℕ) (q : Queue) (scratch out : List ℕ) (at : ℕ)
    (t' : List ℕ) (q' : Queue) (scratch' out' : List ℕ) (end : ℕ) : Type 0 where
  pub within : end ≤ at + room
  pub told : length line ≡ kept_bytes → Clean t q scratch → Clean t' q' scratch' × Put out at (answer_line (take held line ++ part)) out' end
