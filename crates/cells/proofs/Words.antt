-- A word read or written through the part of the table that begins at word 3 is a word of a cell.
use mathlib.Core.Path.{◌≡◌, ap, ◌∙◌}
use mathlib.Core.List.{List}
use Prim.Native.Nat.{ℕ, suc, ◌+◌, ◌-◌, ◌*◌, ◌≤◌, ◌<◌}
use native.Mathlib.Omega.{arith}
use lib.ListN.{length, get_or, set, take, drop, length-take, length-drop}
use lib.Seq.{get_or-take, get_or-drop}
use borrow.Rule.Slice.PartMut.{mid_of, put_mid, set_mid_at}
use Rattle.cells.specs.Part.{word_in, put_word_in}
use Rattle.machine.specs.Table.{header, stride, table_length, position, word_at, put_word}
use Rattle.machine.specs.Packets.{Counter, root, cell, name}
use Rattle.machine.specs.Step.{counter_word}

pub counter_in_cell : (k : Counter) → counter_word k < stride
counter_in_cell root = omega arith
counter_in_cell cell = omega arith
counter_in_cell name = omega arith

pub read_part : (t : List ℕ) (i k r : ℕ) → table_length (suc i) ≤ length t → k < stride → r ≡ word_in (take (length t - header) (drop header t)) i k → r ≡ word_at t i k
unfolding word_at position
read_part t i k r f h e =
    e
    ∙ get_or-take (length t - header) (drop header t) (stride * i + k) 0 (omega arith)
    ∙ get_or-drop header t (stride * i + k) 0
    ∙ ap (λ (n : ℕ). get_or t n 0) (omega arith)

pub written_part : (t : List ℕ) (i k v : ℕ) (cells : List ℕ) → table_length (suc i) ≤ length t → k < stride
    → cells ≡ put_word_in (mid_of header (length t - header) t) i k v → put_mid header (length t - header) t cells ≡ put_word t i k v
unfolding put_word position
written_part t i k v cells f h e =
    ap (put_mid header (length t - header) t) e
    ∙ set_mid_at header (length t - header) (stride * i + k) t v (simp (length-take, length-drop) (omega arith)) ∙ ap (λ (n : ℕ). set t n v) (omega arith)
