-- What the plain list gives where its nodes are parted at the seat.
use mathlib.Core.Path.{◌≡◌, refl, sym, ap}
use mathlib.Core.List.{List, [], ◌∷◌, ◌++◌}
use Prim.Native.Nat.{ℕ, ◌≤◌}
use native.Mathlib.Omega.{arith}
use borrow.Author.Tests.{eq-eqb, ne_eqb}
use Rattle.machine.specs.Range.{occurrences}
use Rattle.readings.specs.Readings.{Entry, entry, missing, found, looked_up, replaced, without}
use Rattle.roster_list.specs.Nodes.{Node, atom_of, entries_of, cells_of, Apart, seats_of, Proper}
use Rattle.roster_list.specs.Walks.{NoneOf}
use Rattle.roster_list.proofs.SeatLaws.{proper_fewer}

-- the node with another reading
abbrev pub changed : Node → ℕ → Node
changed n r = record { cell = n.cell; pair = n.pair; entry = entry n.entry.seat r }

module _ (seat : ℕ) where
  -- past nodes that have other seats
  pub looked_past : (xs ys : List Node) → NoneOf (atom_of seat) xs → looked_up (entries_of (xs ++ ys)) seat ≡ looked_up (entries_of ys) seat
  unfolding looked_up
  looked_past [] ys h = refl
  looked_past (x ∷ xs) ys h = rw (ne_eqb x.entry.seat seat (λ e. h.0 (ap atom_of e))) (looked_past xs ys h.1)

  pub looked_here : (n : Node) (ys : List Node) → n.entry.seat ≡ seat → looked_up (entries_of (n ∷ ys)) seat ≡ found n.entry.reading
  unfolding looked_up
  looked_here n ys e = rw (eq-eqb n.entry.seat seat e) refl

  pub looked_nowhere : (ns : List Node) → NoneOf (atom_of seat) ns → looked_up (entries_of ns) seat ≡ missing
  unfolding looked_up
  looked_nowhere [] h = refl
  looked_nowhere (n ∷ ns) h = rw (ne_eqb n.entry.seat seat (λ e. h.0 (ap atom_of e))) (looked_nowhere ns h.1)

  pub replaced_at : (xs : List Node) (n : Node) (ys : List Node) (r : ℕ) → NoneOf (atom_of seat) xs → n.entry.seat ≡ seat
      → replaced (entries_of (xs ++ (n ∷ ys))) seat r ≡ entries_of (xs ++ (changed n r ∷ ys))
  unfolding replaced
  replaced_at [] n ys r h e = rw (eq-eqb n.entry.seat seat e) (ap (λ (s : ℕ). entry s r ∷ entries_of ys) (sym e))
  replaced_at (x ∷ xs) n ys r h e =
      rw (ne_eqb x.entry.seat seat (λ d. h.0 (ap atom_of d))) (ap (λ (l : List Entry). x.entry ∷ l) (replaced_at xs n ys r h.1 e))

  pub without_at : (xs : List Node) (n : Node) (ys : List Node) → NoneOf (atom_of seat) xs → n.entry.seat ≡ seat
      → without (entries_of (xs ++ (n ∷ ys))) seat ≡ entries_of (xs ++ ys)
  unfolding without
  without_at [] n ys h e = rw (eq-eqb n.entry.seat seat e) refl
  without_at (x ∷ xs) n ys h e =
      rw (ne_eqb x.entry.seat seat (λ d. h.0 (ap atom_of d))) (ap (λ (l : List Entry). x.entry ∷ l) (without_at xs n ys h.1 e))

  pub without_none : (ns : List Node) → NoneOf (atom_of seat) ns → without (entries_of ns) seat ≡ entries_of ns
  unfolding without
  without_none [] h = refl
  without_none (n ∷ ns) h = rw (ne_eqb n.entry.seat seat (λ d. h.0 (ap atom_of d))) (ap (λ (l : List Entry). n.entry ∷ l) (without_none ns h.1))

-- seats and cells of a list with a node changed, or taken out
seats_changed : (xs : List Node) (n : Node) (ys : List Node) (r : ℕ) → seats_of (entries_of (xs ++ (changed n r ∷ ys))) ≡ seats_of (entries_of (xs ++ (n ∷ ys)))
seats_changed [] n ys r = refl
seats_changed (x ∷ xs) n ys r = ap (λ (l : List ℕ). x.entry.seat ∷ l) (seats_changed xs n ys r)

cells_changed : (xs : List Node) (n : Node) (ys : List Node) (r : ℕ) → cells_of (xs ++ (changed n r ∷ ys)) ≡ cells_of (xs ++ (n ∷ ys))
cells_changed [] n ys r = refl
cells_changed (x ∷ xs) n ys r = ap (λ (l : List ℕ). x.cell ∷ x.pair ∷ l) (cells_changed xs n ys r)

seats_fewer : (s : ℕ) (xs : List Node) (n : Node) (ys : List Node) → occurrences s (seats_of (entries_of (xs ++ ys))) ≤ occurrences s (seats_of (entries_of (xs ++ (n ∷ ys))))
unfolding occurrences
seats_fewer s [] n ys = omega arith
seats_fewer s (x ∷ xs) n ys = omega (arith, seats_fewer s xs n ys)

cells_fewer : (i : ℕ) (xs : List Node) (n : Node) (ys : List Node) → occurrences i (cells_of (xs ++ ys)) ≤ occurrences i (cells_of (xs ++ (n ∷ ys)))
unfolding occurrences
cells_fewer i [] n ys = omega arith
cells_fewer i (x ∷ xs) n ys = omega (arith, cells_fewer i xs n ys)

module _ (xs : List Node) (n : Node) (ys : List Node) where
  pub proper_changed : (r : ℕ) → Proper (entries_of (xs ++ (n ∷ ys))) → Proper (entries_of (xs ++ (changed n r ∷ ys)))
  proper_changed r p =
      proper_fewer (entries_of (xs ++ (n ∷ ys))) (entries_of (xs ++ (changed n r ∷ ys))) (λ s. rw (seats_changed xs n ys r) (omega arith)) p

  pub apart_changed : (r : ℕ) → Apart (xs ++ (n ∷ ys)) → Apart (xs ++ (changed n r ∷ ys))
  apart_changed r a i = rw (cells_changed xs n ys r) (a i)

  pub proper_out : Proper (entries_of (xs ++ (n ∷ ys))) → Proper (entries_of (xs ++ ys))
  proper_out p = proper_fewer (entries_of (xs ++ (n ∷ ys))) (entries_of (xs ++ ys)) (λ s. seats_fewer s xs n ys) p

  pub apart_out : Apart (xs ++ (n ∷ ys)) → Apart (xs ++ ys)
  apart_out a i = omega (arith, a i, cells_fewer i xs n ys)
