-- Which words are legal, which may be stored, and which calls read nil, by the code's tests.
use mathlib.Core.Path.{◌≡◌, refl}
use mathlib.Core.Bool.{true, false}
use Prim.Native.Nat.{ℕ, zero, suc, ◌-◌, ◌≤◌, ◌<◌}
use native.Mathlib.Omega.{arith}
use lib.Dec.{leb, ltb}
use borrow.Author.Tests.{ne_eqb, le-leb, lt-leb}
use Rattle.machine.specs.Words.{first_atom, largest_word, clip, is_nil, is_cell, is_atom, is_legal, may_be_stored}
use Rattle.machine.specs.declared.RowCall as declared
use Rattle.machine.specs.Calls.{reads_nil}
use Rattle.machine.specs.Answers.{call_of}
use Rattle.machine.proofs.Lists.{and-true}

pub legal_low : (c w : ℕ) → w ≤ c → is_legal c w ≡ true
unfolding is_legal is_nil is_cell
legal_low c zero l = refl
legal_low c (suc w) l = rw (ne_eqb (suc w) 0 (λ e. omega arith), le-leb 1 (suc w) (omega arith), le-leb (suc w) c l)

pub legal_atom : (c w : ℕ) → c < w → w ≤ largest_word → is_legal c w ≡ leb first_atom w
unfolding is_legal is_nil is_cell is_atom
legal_atom c w l m = rw (ne_eqb w 0 (λ e. omega arith), lt-leb w c l, le-leb w largest_word m, le-leb 1 w (omega arith)) (and-true (leb first_atom w))

pub other_stored : (w : ℕ) → w < first_atom → true ≡ may_be_stored w
unfolding may_be_stored is_atom
other_stored w l = rw (lt-leb first_atom w l)

pub atom_stored : (w : ℕ) → first_atom ≤ w → w ≤ largest_word → ltb (w - first_atom) clip ≡ may_be_stored w
unfolding may_be_stored is_atom
atom_stored w l m = rw (le-leb first_atom w l, le-leb w largest_word m)

-- no call but the enum's first two reads
pub no_read : (call : declared.RowCall) → ((x : ℕ) → call ≡ declared.RowCall.Car x → ⊥) → ((x : ℕ) → call ≡ declared.RowCall.Cdr x → ⊥)
    → false ≡ reads_nil (call_of call)
unfolding reads_nil
no_read (declared.RowCall.Car x) h k = absurd (h x refl)
no_read (declared.RowCall.Cdr x) h k = absurd (k x refl)
no_read (declared.RowCall.Cons x y) h k = refl
no_read (declared.RowCall.SetLeft x y) h k = refl
no_read (declared.RowCall.SetRight x y) h k = refl
no_read (declared.RowCall.Up x n) h k = refl
no_read (declared.RowCall.Down x n) h k = refl
