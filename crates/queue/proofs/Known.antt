-- A slot's word that is known to be a kind's is its number.
use mathlib.Core.Path.{◌≡◌, refl, sym, ap, ◌∙◌}
use mathlib.Core.Logic.{⊎_elim}
use mathlib.Core.Bool.{true, false, cond}
use Prim.Native.Nat.{ℕ, ◌≤◌}
use native.Mathlib.Omega.{arith}
use lib.Dec.{eqb}
use borrow.Author.Tests.{eqb-true}
use Rattle.machine.specs.Table.{left}
use Rattle.machine.specs.Packets
use Rattle.machine.specs.Packets.{reads, makes, replaces, raises, lowers, unknown, kind_of}
use Rattle.machine.proofs.Range.{tested}
use Rattle.queue.specs.declared.Kind.{Kind}
use Rattle.queue.specs.Kinds.{kind_as, kind_number}

abbrev number_by : Rattle.machine.specs.Packets.Kind → ℕ
number_by reads = 1
number_by makes = 2
number_by (replaces field) = cond (eqb field left) 3 6
number_by raises = 4
number_by lowers = 5
number_by unknown = 0

number_same : (k : Kind) → number_by (kind_as k) ≡ kind_number k
number_same Kind.Read = refl
number_same Kind.Cons = refl
number_same Kind.ReplaceLeft = refl
number_same Kind.Up = refl
number_same Kind.Down = refl
number_same Kind.ReplaceRight = refl

number_some : (k : Kind) → 1 ≤ kind_number k
number_some Kind.Read = omega arith
number_some Kind.Cons = omega arith
number_some Kind.ReplaceLeft = omega arith
number_some Kind.Up = omega arith
number_some Kind.Down = omega arith
number_some Kind.ReplaceRight = omega arith

number_back : (n : ℕ) → (kind_of n ≡ unknown → ⊥) → number_by (kind_of n) ≡ n
unfolding kind_of
number_back n h =
    ⊎_elim (λ (t : eqb n 1 ≡ true). rw (t) (sym (eqb-true n 1 t)))
    (λ (a : eqb n 1 ≡ false). ⊎_elim (λ (t : eqb n 2 ≡ true). rw (a, t) (sym (eqb-true n 2 t)))
    (λ (b : eqb n 2 ≡ false). ⊎_elim (λ (t : eqb n 3 ≡ true). rw (a, b, t) (sym (eqb-true n 3 t)))
    (λ (c : eqb n 3 ≡ false). ⊎_elim (λ (t : eqb n 4 ≡ true). rw (a, b, c, t) (sym (eqb-true n 4 t)))
    (λ (d : eqb n 4 ≡ false). ⊎_elim (λ (t : eqb n 5 ≡ true). rw (a, b, c, d, t) (sym (eqb-true n 5 t)))
    (λ (e : eqb n 5 ≡ false). ⊎_elim (λ (t : eqb n 6 ≡ true). rw (a, b, c, d, e, t) (sym (eqb-true n 6 t)))
    (λ (f : eqb n 6 ≡ false). absurd (h (rw (a, b, c, d, e, f) refl))) (tested (eqb n 6))) (tested (eqb n 5))) (tested (eqb n 4))) (tested (eqb n 3))) (tested (eqb n 2))) (tested (eqb n 1))

pub known_number : (n : ℕ) (k : Kind) → kind_as k ≡ kind_of n → n ≡ kind_number k
known_number n k e =
    let some = number_some k in
    let known : kind_of n ≡ unknown → ⊥ = λ u. omega (arith, number_same k, ap number_by (e ∙ u)) in
    sym (number_back n known) ∙ sym (ap number_by e) ∙ number_same k
