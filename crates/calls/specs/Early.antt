-- Questions 1 to 5 and 14 as one chain of numbers.
use Rattle.std.specs.Prelude.{◌≡◌, ◌⊎◌, ◌&&◌, List, ℕ}
use Rattle.machine.specs.declared.Queue.{Queue}
use Rattle.machine.specs.Words.{is_cell, is_legal, may_be_stored}
use Rattle.machine.specs.Table.{capacity}
use Rattle.machine.specs.Questions.{refused_by, in_range, number_in_range}

-- questions 1, 3 and 4
unfoldable pub words_number : List ℕ → Queue → ℕ → ℕ → ℕ → ℕ
words_number t q n x y =
    refused_by (in_range t q) 1 (refused_by (number_in_range n) 3 (refused_by (is_legal (capacity t) x && is_legal (capacity t) y) 4 0))

-- the first number that is not 0
abbrev pub first_of : ℕ → ℕ → ℕ
first_of ℕ.zero m = m
first_of (ℕ.suc n) m = ℕ.suc n

-- and question 5
unfoldable pub cell_number : List ℕ → Queue → ℕ → ℕ → ℕ → ℕ
cell_number t q n x y = first_of (words_number t q n x y) (refused_by (is_cell (capacity t) x) 5 0)

-- question 14 of two words
unfoldable pub stored_number : ℕ → ℕ → ℕ
stored_number x y = refused_by (may_be_stored x && may_be_stored y) 14 0

-- a replace's kinds
abbrev pub Replaces : ℕ → Type 0
Replaces k = (k ≡ 3) ⊎ (k ≡ 6)
