-- What is known of the scratch that a table needs: enough for c cells is enough for fewer, and each cell has its word in it.
use Prim.Native.Nat.{ℕ, suc, ◌≤◌, ◌<◌}
use native.Mathlib.Omega.{arith}
use Rattle.machine.specs.Table.{scratch_words}

pub enough_fewer : (c i n : ℕ) → i < c → scratch_words c ≤ n → scratch_words (suc i) ≤ n
unfolding scratch_words
enough_fewer c i n l h = omega arith

pub cell_word : (c i : ℕ) → i < c → i < scratch_words c
unfolding scratch_words
cell_word c i l = l

pub word_within_lem : (c i n : ℕ) → i < c → scratch_words c ≤ n → i < n
word_within_lem c i n l h = omega (arith, cell_word c i l)
