-- What a row call writes, word by word, is what the machine has it write.
use mathlib.Core.Path.{◌≡◌, refl, ap, ap₂, ◌∙◌}
use mathlib.Core.Bool.{cond}
use mathlib.Core.List.{List}
use Prim.Native.Nat.{ℕ, pred, ◌-◌}
use native.Mathlib.Omega.{arith}
use lib.Dec.{eqb}
use Rattle.machine.specs.declared.RowCall as declared
use Rattle.machine.specs.Table.{left, new_cell, first_free, last_free, word_at, put_word, put_ends, put_cell}
use Rattle.machine.specs.Calls.{cons, field, without_first, written}
use Rattle.machine.specs.Answers.{call_of}

-- the writes of a cons, one by one
pub taken_first : (t u v : List ℕ) (first next last x y : ℕ) → first ≡ first_free t → next ≡ word_at t (first - 1) left → last ≡ cond (eqb next 0) 0 (last_free t)
    → u ≡ put_ends t next last → v ≡ put_cell u (first - 1) (new_cell x y) → v ≡ written t (cons x y)
unfolding written without_first field
taken_first t u v first next last x y e a b c d =
    let p : first - 1 ≡ pred (first_free t) = omega arith in
    let n : next ≡ word_at t (pred (first_free t)) left = a ∙ ap (λ (i : ℕ). word_at t i left) p in
    d ∙ ap₂ (λ (s : List ℕ) (i : ℕ). put_cell s i (new_cell x y)) (c ∙ ap₂ (put_ends t) n (b ∙ ap (λ (w : ℕ). cond (eqb w 0) 0 (last_free t)) n)) p

-- the write of a replace
pub put_field : (t u : List ℕ) (x k y : ℕ) → u ≡ put_word t (x - 1) k y → u ≡ put_word t (pred x) k y
put_field t u x k y e = e ∙ ap (λ (i : ℕ). put_word t i k y) (omega arith)

-- the other calls are the enum's first two and last two
pub unwritten : (t : List ℕ) (call : declared.RowCall) → ((x y : ℕ) → call ≡ declared.RowCall.Cons x y → ⊥)
    → ((x y : ℕ) → call ≡ declared.RowCall.SetLeft x y → ⊥) → ((x y : ℕ) → call ≡ declared.RowCall.SetRight x y → ⊥) → t ≡ written t (call_of call)
unfolding written
unwritten t (declared.RowCall.Car x) a b c = refl
unwritten t (declared.RowCall.Cdr x) a b c = refl
unwritten t (declared.RowCall.Cons x y) a b c = absurd (a x y refl)
unwritten t (declared.RowCall.SetLeft x y) a b c = absurd (b x y refl)
unwritten t (declared.RowCall.SetRight x y) a b c = absurd (c x y refl)
unwritten t (declared.RowCall.Up x n) a b c = refl
unwritten t (declared.RowCall.Down x n) a b c = refl
