-- How long a call's line is, and what bytes it has not.
use mathlib.Core.Path.{◌≡◌, refl, ap}
use mathlib.Core.Bool.{Bool, true, false, cond}
use mathlib.Core.List.{List, [], ◌∷◌, ◌++◌}
use Prim.Native.Nat.{ℕ, zero, suc, ◌+◌, ◌/◌, ◌%◌, ◌≤◌, ◌<◌}
use native.Mathlib.Omega.{arith}
use lib.Dec.{ltb, eqb}
use lib.ListN.{length, length-append}
use borrow.Author.Tests.{eq-eqb, ne_eqb}
use Rattle.base_ten.specs.Bytes.{digit_zero, ascii, line_feed, space, before, on_first, split}
use Rattle.base_ten.specs.Decimal.{digits, most_digits, decimal}
use Rattle.base_ten.proofs.PutLaws.{digits_length}
use Rattle.machine.specs.declared.RowCall.{RowCall}
use Rattle.line_text.specs.declared.Request.{Request}
use Rattle.std.specs.Prelude.{Some, None}
use Rattle.std.specs.declared.option.Option.{Option}
use Rattle.call_text.specs.CallText.{one_text, two_text, row_text, call_text, call_line, asked_text, asked_line, word_room, call_room, line_room}

one_length : (word : List ℕ) (x : ℕ) → length word ≤ word_room → length (one_text word x) ≤ call_room
one_length word x h = omega (arith, length-append word (decimal x), digits_length most_digits x)

two_length : (word : List ℕ) (x y : ℕ) → length word ≤ word_room → length (two_text word x y) ≤ call_room
two_length word x y h =
    omega (arith, length-append (word ++ decimal x) ((space ∷ []) ++ decimal y), length-append word (decimal x), digits_length most_digits x, digits_length most_digits y)

row_length : (call : RowCall) → length (row_text call) ≤ call_room
unfolding row_text
row_length (RowCall.Car x) = one_length (ascii "car ") x (omega arith)
row_length (RowCall.Cdr x) = one_length (ascii "cdr ") x (omega arith)
row_length (RowCall.Cons x y) = two_length (ascii "cons ") x y (omega arith)
row_length (RowCall.SetLeft x y) = two_length (ascii "setl ") x y (omega arith)
row_length (RowCall.SetRight x y) = two_length (ascii "setr ") x y (omega arith)
row_length (RowCall.Up x n) = two_length (ascii "up ") x n (omega arith)
row_length (RowCall.Down x n) = two_length (ascii "down ") x n (omega arith)

pub call_length : (request : Request) → length (call_text request) ≤ call_room
unfolding call_text
call_length (Request.Fresh c) = one_length (ascii "fresh ") c (omega arith)
call_length (Request.Row call) = row_length call
call_length Request.Step = omega arith

pub line_length : (request : Request) → length (call_line request) ≤ line_room
unfolding call_line
line_length request = omega (arith, length-append (call_text request) (line_feed ∷ []), call_length request)

pub asked_length : (asked : Option Request) → length (asked_text asked) ≤ call_room
asked_length (Some request) = call_length request
asked_length None = omega arith

pub asked_line_is : (asked : Option Request) → asked_line asked ≡ asked_text asked ++ (line_feed ∷ [])
unfolding call_line
asked_line_is (Some request) = refl
asked_line_is None = refl

-- a text without the byte b
abbrev pub Free : ℕ → List ℕ → Type 0
Free b s = before b s ≡ length s

free_cons : (b x : ℕ) (s : List ℕ) → (x ≡ b → ⊥) → Free b s → Free b (x ∷ s)
unfolding before
free_cons b x s h f = rw (ne_eqb x b h, f)

pub free_append : (b : ℕ) (s t : List ℕ) → Free b s → Free b t → Free b (s ++ t)
unfolding before
free_append b [] t f g = g
free_append b (x ∷ s) t f g = go (eqb x b) f (free_append b s t)
  where
    go : (e : Bool)
        → cond e 0 (suc (before b s)) ≡ suc (length s)
        → (Free b s → Free b t → Free b (s ++ t))
        → cond e 0 (suc (before b (s ++ t))) ≡ suc (length (s ++ t))
    go true l ih = absurd (never l)
      where
        never : 0 ≡ suc (length s) → ⊥
        never p = omega arith
    go false l ih = ap suc (ih (omega arith) g)

-- no byte below the digits is in a number
pub digits_free : (b most n : ℕ) → b < digit_zero → Free b (digits most n)
unfolding digits before
digits_free b zero n h = refl
digits_free b (suc most) n h = go (ltb n 10) (digits_free b most (n / 10) h)
  where
    last : (d : ℕ) → Free b ((digit_zero + d) ∷ [])
    last d = free_cons b (digit_zero + d) [] (λ e. omega arith) refl

    go : (t : Bool) → Free b (digits most (n / 10))
        → Free b (cond t ((digit_zero + n) ∷ []) (digits most (n / 10) ++ ((digit_zero + n % 10) ∷ [])))
    go true f = last n
    go false f = free_append b (digits most (n / 10)) ((digit_zero + n % 10) ∷ []) f (last (n % 10))

-- a text without b ends where b follows
pub split_word : (b : ℕ) (none : List (List ℕ)) (s rest : List ℕ) → Free b s → split b none (s ++ (b ∷ rest)) ≡ s ∷ split b none rest
unfolding before split
split_word b none [] rest f = rw (eq-eqb b b refl)
split_word b none (x ∷ s) rest f = go (eqb x b) f (split_word b none s rest)
  where
    go : (e : Bool)
        → cond e 0 (suc (before b s)) ≡ suc (length s)
        → (Free b s → split b none (s ++ (b ∷ rest)) ≡ s ∷ split b none rest)
        → cond e ([] ∷ split b none (s ++ (b ∷ rest))) (on_first x (split b none (s ++ (b ∷ rest)))) ≡ (x ∷ s) ∷ split b none rest
    go true l ih = absurd (never l)
      where
        never : 0 ≡ suc (length s) → ⊥
        never p = omega arith
    go false l ih = rw (ih (omega arith))
