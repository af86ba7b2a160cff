-- What writes make of a list of nodes: a reading replaced, a cell linked past, a seat added.
use mathlib.Core.Path.{◌≡◌, refl, sym, ap, ◌∙◌}
use mathlib.Core.Logic.{◌≢◌}
use mathlib.Core.Bool.{cond}
use mathlib.Core.List.{List, [], ◌∷◌, ◌++◌}
use Prim.Native.Nat.{ℕ, suc, ◌+◌, ◌≤◌, ◌<◌}
use native.Mathlib.Omega.{arith}
use lib.Dec.{eqb}
use borrow.Author.Tests.{eq-eqb, ne_eqb}
use Rattle.machine.specs.Range.{occurrences}
use Rattle.machine.proofs.Range.{matching_same, occurrences_append}
use Rattle.soundness.specs.Reliable.{Fields, fields}
use Rattle.roster_list.specs.Nodes.{Node, atom_of, cells_of, Leads, Apart, put_right}
use Rattle.roster_list.proofs.EntryLaws.{changed}

cells_append : (xs ys : List Node) → cells_of (xs ++ ys) ≡ cells_of xs ++ cells_of ys
cells_append [] ys = refl
cells_append (x ∷ xs) ys = ap (λ (l : List ℕ). x.cell ∷ x.pair ∷ l) (cells_append xs ys)

occurrences_both : (i : ℕ) (xs ys : List Node) → occurrences i (cells_of (xs ++ ys)) ≡ occurrences i (cells_of xs) + occurrences i (cells_of ys)
occurrences_both i xs ys = ap (occurrences i) (cells_append xs ys) ∙ occurrences_append i (cells_of xs) (cells_of ys)

pub leads_join : (c : ℕ) (f : ℕ → Fields) (w : ℕ) (xs ys : List Node) (u v : ℕ) → Leads c f w xs u → Leads c f u ys v → Leads c f w (xs ++ ys) v
leads_join c f w [] ys u v a b = rw a b
leads_join c f w (x ∷ xs) ys u v a b = (a.0, leads_join c f (f w).right xs ys u v a.1 b)

-- fields that no cell of the nodes has lost lead as before
pub leads_same : (c : ℕ) (f g : ℕ → Fields) (w : ℕ) (ns : List Node) (v : ℕ) → ((i : ℕ) → 1 ≤ occurrences i (cells_of ns) → g (suc i) ≡ f (suc i)) → Leads c f w ns v → Leads c g w ns v
unfolding occurrences
leads_same c f g w [] v e h = h
leads_same c f g w (n ∷ ns) v e h =
    let cell : g (suc n.cell) ≡ f (suc n.cell) = e n.cell (omega (arith, matching_same n.cell n.cell 1 refl)) in
    let pair : g (suc n.pair) ≡ f (suc n.pair) = e n.pair (omega (arith, matching_same n.pair n.pair 1 refl)) in
    let here : g w ≡ f w = ap g h.0.here ∙ cell ∙ ap f (sym h.0.here) in (
      record {
        here = h.0.here;
        cell = h.0.cell;
        pair = h.0.pair;
        opens = ap (λ (x : Fields). x.left) here ∙ h.0.opens;
        seat = ap (λ (x : Fields). x.left) pair ∙ h.0.seat;
        reading = ap (λ (x : Fields). x.right) pair ∙ h.0.reading;
      },
      let next : (g w).right ≡ (f w).right = ap (λ (x : Fields). x.right) here in
          rw next (leads_same c f g (f w).right ns v (λ i l. e i (omega (arith, l))) h.1),
    )

put_other : (f : ℕ → Fields) (x y c : ℕ) → (x ≢ c) → put_right f x y c ≡ f c
put_other f x y c d = rw (ne_eqb x c d) refl

put_here : (f : ℕ → Fields) (x y : ℕ) → put_right f x y x ≡ fields (f x).left y
put_here f x y = rw (eq-eqb x x refl) refl

module _ (c : ℕ) (f : ℕ → Fields) (w at : ℕ) (xs : List Node) (n : Node) (ys : List Node) (to : Leads c f w xs at) (on : Leads c f at (n ∷ ys) 0)
    (apart : Apart (xs ++ (n ∷ ys))) where
  -- the reading replaced
  pub leads_changed : (r : ℕ) → Leads c (put_right f (suc n.pair) (atom_of r)) w (xs ++ (changed n r ∷ ys)) 0
  unfolding occurrences
  leads_changed r =
      let g = put_right f (suc n.pair) (atom_of r) in
      let p = apart n.pair in
      let b = occurrences_both n.pair xs (n ∷ ys) in
      let one = matching_same n.pair n.pair 1 refl in
      let other : (i : ℕ) → (n.pair ≢ i) → g (suc i) ≡ f (suc i) = λ i d. put_other f (suc n.pair) (atom_of r) (suc i) (λ e. d (omega (arith, e))) in
      let here : g at ≡ f at = ap g on.0.here ∙ other n.cell (λ e. omega (arith, p, b, one, matching_same n.cell n.pair 1 (sym e))) ∙ ap f (sym on.0.here) in
      let pair : g (suc n.pair) ≡ fields (f (suc n.pair)).left (atom_of r) = put_here f (suc n.pair) (atom_of r) in
      let next : (g at).right ≡ (f at).right = ap (λ (x : Fields). x.right) here in
      leads_join c g w xs (changed n r ∷ ys) at 0
      (leads_same c f g w xs at (λ i l. other i (λ e. omega (arith, p, b, one, rw (← e) at l))) to) (
        record {
          here = on.0.here;
          cell = on.0.cell;
          pair = on.0.pair;
          opens = ap (λ (x : Fields). x.left) here ∙ on.0.opens;
          seat = ap (λ (x : Fields). x.left) pair ∙ on.0.seat;
          reading = ap (λ (x : Fields). x.right) pair;
        },
        rw next (leads_same c f g (f at).right ys 0 (λ i l. other i (λ e. omega (arith, p, b, one, rw (← e) at l))) on.1),
      )

-- the cell behind n linked past
pub leads_past : (c : ℕ) (f : ℕ → Fields) (w at : ℕ) (xs : List Node) (n m : Node) (zs : List Node) → Leads c f w xs at → Leads c f at (n ∷ m ∷ zs) 0
    → Apart (xs ++ (n ∷ m ∷ zs)) → Leads c (put_right f at (f (f at).right).right) w (xs ++ (n ∷ zs)) 0
unfolding occurrences
leads_past c f w at xs n m zs to on apart =
    let y = (f (f at).right).right in
    let g = put_right f at y in
    let p = apart n.cell in
    let b = occurrences_both n.cell xs (n ∷ m ∷ zs) in
    let one = matching_same n.cell n.cell 1 refl in
    let other : (i : ℕ) → (n.cell ≢ i) → g (suc i) ≡ f (suc i) = λ i d. put_other f at y (suc i) (λ e. d (omega (arith, e, on.0.here))) in
    let here : g at ≡ fields (f at).left y = put_here f at y in
    let pair : g (suc n.pair) ≡ f (suc n.pair) = other n.pair (λ e. omega (arith, p, b, one, matching_same n.pair n.cell 1 (sym e))) in
    let next : (g at).right ≡ y = ap (λ (x : Fields). x.right) here in
    leads_join c g w xs (n ∷ zs) at 0
    (leads_same c f g w xs at (λ i l. other i (λ e. omega (arith, p, b, one, rw (← e) at l))) to) (
      record {
        here = on.0.here;
        cell = on.0.cell;
        pair = on.0.pair;
        opens = ap (λ (x : Fields). x.left) here ∙ on.0.opens;
        seat = ap (λ (x : Fields). x.left) pair ∙ on.0.seat;
        reading = ap (λ (x : Fields). x.right) pair ∙ on.0.reading;
      },
      rw next (leads_same c f g y zs 0 (λ i l. other i (λ e. omega (arith, p, b, one, rw (← e) at l))) on.1.1),
    )

-- a new cell: x and y put into it
abbrev pub put_both : (ℕ → Fields) → ℕ → ℕ → ℕ → ℕ → Fields
put_both f v x y c = cond (eqb v c) (fields x y) (f c)

-- which is none of the list's
pub leads_beside : (c : ℕ) (f : ℕ → Fields) (w : ℕ) (ns : List Node) (v : ℕ) (i x y : ℕ) → Leads c f w ns v → occurrences i (cells_of ns) ≡ 0 → Leads c (put_both f (suc i) x y) w ns v
leads_beside c f w ns v i x y h e =
    leads_same c f (put_both f (suc i) x y) w ns v (λ j l.
    let other : suc i ≢ suc j = λ z. let q : i ≡ j = omega (arith, z) in omega (arith, e, rw (← q) at l) in
    rw (ne_eqb (suc i) (suc j) other) refl) h

-- a new cell of the list in front of it, for an entry's cell that is none of the list's
pub leads_added : (c : ℕ) (f : ℕ → Fields) (w : ℕ) (ns : List Node) (n : Node) → Leads c f w ns 0 → n.cell < c → n.pair < c → (n.cell ≢ n.pair)
    → f (suc n.pair) ≡ fields (atom_of n.entry.seat) (atom_of n.entry.reading) → occurrences n.cell (cells_of ns) ≡ 0
    → Leads c (put_both f (suc n.cell) (suc n.pair) w) (suc n.cell) (n ∷ ns) 0
leads_added c f w ns n h a b d both e =
    let k = put_both f (suc n.cell) (suc n.pair) w in
    let here : k (suc n.cell) ≡ fields (suc n.pair) w = rw (eq-eqb (suc n.cell) (suc n.cell) refl) refl in
    let pair : k (suc n.pair) ≡ fields (atom_of n.entry.seat) (atom_of n.entry.reading) =
    rw (ne_eqb (suc n.cell) (suc n.pair) (λ z. d (omega (arith, z)))) both in
    let next : (k (suc n.cell)).right ≡ w = ap (λ (x : Fields). x.right) here in (
      record {
        here = refl;
        cell = a;
        pair = b;
        opens = ap (λ (x : Fields). x.left) here;
        seat = ap (λ (x : Fields). x.left) pair;
        reading = ap (λ (x : Fields). x.right) pair;
      },
      rw next (leads_beside c f w ns 0 n.cell (suc n.pair) w h e),
    )
