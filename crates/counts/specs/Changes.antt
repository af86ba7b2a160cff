-- A packet's changes made in counters of 16 bits: a raise that does not fit is left out.
use Rattle.std.specs.Prelude.{◌≡◌, Bool, true, false, cond, List, [], ◌∷◌, ℕ, pred, ◌+◌, ◌<◌, leb}
use Rattle.machine.specs.Words.{is_cell}
use Rattle.machine.specs.Table.{capacity, word_at}
use Rattle.machine.specs.Queue.{Packet}
use Rattle.machine.specs.Packets.{Counter, Direction, plus, minus, Change, names, name_changes}
use Rattle.machine.specs.Step.{counter_word, shifted, move_count}
use Rattle.machine.specs.Facts.{TableShape}

-- a count raised by n leaves a word of 16 bits
abbrev pub too_large : Direction → ℕ → ℕ → Bool
too_large plus count n = leb 65536 (count + n)
too_large minus count n = false

unfoldable pub move_fitting : List ℕ → Counter → ℕ → Direction → ℕ → List ℕ
move_fitting t k w d n = cond (too_large d (word_at t (pred w) (counter_word k)) n) t (move_count t k w d n)

unfoldable pub apply_fitting : List ℕ → List Change → List ℕ
apply_fitting t [] = t
apply_fitting t (h ∷ hs) = apply_fitting (move_fitting t h.counter h.word h.direction h.amount) hs

-- each change, made after those before it, fits its counter
abbrev pub ChangesFit : List ℕ → List Change → Type 0
ChangesFit t [] = Unit {0}
ChangesFit t (h ∷ hs) =
    (is_cell (capacity t) h.word ≡ true → shifted h.direction (word_at t (pred h.word) (counter_word h.counter)) h.amount < 65536)
    × ChangesFit (move_count t h.counter h.word h.direction h.amount) hs

-- one counter moved: C stands, and question 1 has the answer that it had
pub record Moves (t : List ℕ) (k : Counter) (w : ℕ) (d : Direction) (n : ℕ) (t' : List ℕ) : Type 0 where
  pub moved : t' ≡ move_fitting t k w d n
  pub same_capacity : capacity t' ≡ capacity t
  pub shape : (TableShape t → TableShape t')

-- the cells that a new packet names, named in counters of 16 bits
unfoldable pub named_fitting : List ℕ → Packet → List ℕ
named_fitting t p = apply_fitting t (name_changes plus (names p))
