-- Laws of lists of words and packets: what is in them, their last word, what a test on each says; waiting changes one packet at a time.
use mathlib.Core.Path.{◌≡◌, refl}
use mathlib.Core.Logic.{⊎_elim}
use mathlib.Core.Bool.{Bool, true, false, cond, ◌&&◌, ◌||◌, false≢true}
use mathlib.Core.List.{List, [], ◌∷◌, ◌++◌, map}
use Prim.Native.Nat.{ℕ, zero, suc, ◌+◌, ◌≤◌, ◌<◌}
use native.Mathlib.Omega.{arith}
use lib.Dec.{eqb}
use borrow.Author.Tests.{eqb-true, eq-eqb}
use Rattle.machine.specs.Range.{every_of, occurrences, last_of, select}
use Rattle.machine.specs.Queue.{Packet}
use Rattle.machine.specs.Packets.{Counter, Direction, changes, moved_by, waiting_change, contains}
use Rattle.machine.proofs.Range.{or_true, or_left, or_right, and_both, and_first, and_second, matching_other}

pub and-true : (b : Bool) → b && true ≡ b
and-true true = refl
and-true false = refl

pub at_most_one : (b : Bool) → cond b 1 0 ≤ 1
at_most_one true = omega arith
at_most_one false = omega arith

pub contains_cons : (i j : ℕ) (is : List ℕ) → contains (i ∷ is) j ≡ eqb i j || contains is j
unfolding contains
contains_cons i j is = refl

-- a test on every word of a list
pub every_of_at : (ws : List ℕ) (p : ℕ → Bool) (w : ℕ) → every_of ws p ≡ true → contains ws w ≡ true → p w ≡ true
unfolding every_of contains
every_of_at [] p w h m = absurd (false≢true m)
every_of_at (v ∷ ws) p w h m =
    ⊎_elim (λ (e : eqb v w ≡ true). rw (eqb-true v w e) at (and_first (p v) (every_of ws p) h)) (λ e. every_of_at ws p w (and_second (p v) (every_of ws p) h) e)
    (or_true (eqb v w) (contains ws w) m)

pub every_of_all : (ws : List ℕ) (p : ℕ → Bool) → ((w : ℕ) → contains ws w ≡ true → p w ≡ true) → every_of ws p ≡ true
unfolding every_of contains
every_of_all [] p f = refl
every_of_all (v ∷ ws) p f = and_both (f v (or_left (contains ws v) (eq-eqb v v refl))) (every_of_all ws p (λ w c. f w (or_right (eqb v w) c)))

pub select_none : (n : ℕ) (p : ℕ → Bool) → ((i : ℕ) → i < n → p i ≡ false) → select n p ≡ []
unfolding select
select_none zero p h = refl
select_none (suc n) p h = rw (select_none n p (λ i l. h i (omega arith)), h n (omega arith))

-- the last word
pub last_of_snoc : (xs : List ℕ) (i : ℕ) → last_of (map suc (xs ++ (i ∷ []))) ≡ suc i
unfolding last_of
last_of_snoc [] i = refl
last_of_snoc (x ∷ []) i = refl
last_of_snoc (x ∷ y ∷ ys) i = last_of_snoc (y ∷ ys) i

-- numbers below c, and none of them past it
abbrev pub Indices : ℕ → List ℕ → Type 0
Indices c [] = Unit {0}
Indices c (i ∷ is) = (i < c) × Indices c is

pub none_past : (c : ℕ) (is : List ℕ) → Indices c is → (i : ℕ) → c ≤ i → occurrences i is ≡ 0
unfolding occurrences
none_past c [] h i l = refl
none_past c (j ∷ is) h i l = let k = h.0 in omega (arith, matching_other j i 1 (omega arith), none_past c is h.1 i l)

-- waiting changes with one packet more at the end
pub waiting_snoc : (k : Counter) (d : Direction) (x : ℕ) (ps : List Packet) (p : Packet) → waiting_change k d x (ps ++ (p ∷ [])) ≡ waiting_change k d x ps + moved_by k d x (changes p)
unfolding waiting_change
waiting_snoc k d x [] p = omega arith
waiting_snoc k d x (r ∷ ps) p = rw (waiting_snoc k d x ps p) (omega arith)
