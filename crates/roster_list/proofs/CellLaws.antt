-- The cells of a list: exactly these are in use, two for each seat.
use mathlib.Core.Path.{◌≡◌, refl, sym, ap, ◌∙◌}
use mathlib.Core.Logic.{◌⊎◌, inl, inr, ⊎_elim}
use mathlib.Core.Bool.{true, false}
use mathlib.Core.List.{List, [], ◌∷◌, ◌++◌}
use Prim.Native.Nat.{ℕ, suc, ◌*◌, ◌≤◌, ◌<◌}
use native.Mathlib.Omega.{arith}
use lib.Dec.{eqb}
use lib.ListN.{length}
use borrow.Author.Tests.{eqb-true, eqb-false, eq-eqb}
use Rattle.machine.specs.declared.Queue.{Queue}
use Rattle.machine.specs.Range.{occurrences}
use Rattle.machine.specs.Words.{most_cells}
use Rattle.machine.specs.Table.{capacity, in_use}
use Rattle.machine.specs.Packets.{contains}
use Rattle.machine.proofs.Range.{tested, or_true, or_left, or_right, not_both, refuted, matching_same, matching_other}
use Rattle.machine.proofs.Lists.{Indices}
use Rattle.soundness.specs.Reliable.{Fields, fields}
use Rattle.resting.specs.Rests.{Rests, cells_in_use}
use Rattle.resting.proofs.Rows.{rests_most}
use Rattle.resting.proofs.CellsInUse.{occurs_not, held_used, field_used, in_use_most, in_use_exactly}
use Rattle.readings.specs.Readings.{Entry}
use Rattle.roster_list.specs.Nodes.{Node, atom_of, entries_of, cells_of, Leads, Apart, Listed}

pub here : (i : ℕ) (is : List ℕ) → contains (i ∷ is) i ≡ true
unfolding contains
here i is = or_left (contains is i) (eq-eqb i i refl)

pub later : (j i : ℕ) (is : List ℕ) → contains is i ≡ true → contains (j ∷ is) i ≡ true
unfolding contains
later j i is h = or_right (eqb j i) h

pub cons_cases : {A : Type 0} (j i : ℕ) (is : List ℕ) → contains (j ∷ is) i ≡ true → (j ≡ i → A) → (contains is i ≡ true → A) → A
unfolding contains
cons_cases j i is h a b = ⊎_elim (λ e. a (eqb-true j i e)) b (or_true (eqb j i) (contains is i) h)

pub two_each : (ns : List Node) → length (cells_of ns) ≡ 2 * length (entries_of ns)
two_each [] = refl
two_each (n ∷ ns) = omega (arith, two_each ns)

pub entries_many : (ns : List Node) → length (entries_of ns) ≡ length ns
entries_many [] = refl
entries_many (n ∷ ns) = ap suc (entries_many ns)

-- the cells of the nodes behind others
pub in_second : (xs ys : List Node) (i : ℕ) → contains (cells_of ys) i ≡ true → contains (cells_of (xs ++ ys)) i ≡ true
in_second [] ys i h = h
in_second (x ∷ xs) ys i h = later x.cell i (x.pair ∷ cells_of (xs ++ ys)) (later x.pair i (cells_of (xs ++ ys)) (in_second xs ys i h))

leads_indices : (c : ℕ) (f : ℕ → Fields) (w : ℕ) (ns : List Node) (v : ℕ) → Leads c f w ns v → Indices c (cells_of ns)
leads_indices c f w [] v h = tt
leads_indices c f w (n ∷ ns) v h = (h.0.cell, (h.0.pair, leads_indices c f (f w).right ns v h.1))

-- the first cell is the word
pub first_in : (c : ℕ) (f : ℕ → Fields) (i : ℕ) (ns : List Node) → Leads c f (suc i) ns 0 → contains (cells_of ns) i ≡ true
first_in c f i [] h = absurd (omega arith)
first_in c f i (n ∷ ns) h = let e : n.cell ≡ i = omega (arith, h.0.here) in rw (← e) (here n.cell (n.pair ∷ cells_of ns))

-- what the cells point to is among them
leads_closed : (c : ℕ) (f : ℕ → Fields) (w : ℕ) (ns : List Node) → Leads c f w ns 0 → c ≤ most_cells → (j i : ℕ) → contains (cells_of ns) j ≡ true → i < c
    → ((f (suc j)).left ≡ suc i) ⊎ ((f (suc j)).right ≡ suc i) → contains (cells_of ns) i ≡ true
unfolding contains
leads_closed c f w [] h m j i o l e = o
leads_closed c f w (n ∷ ns) h m j i o l e =
    cons_cases n.cell j (n.pair ∷ cells_of ns) o cell
    (λ p. cons_cases n.pair j (cells_of ns) p pair (λ r. later n.cell i (n.pair ∷ cells_of ns) (later n.pair i (cells_of ns)
    (leads_closed c f (f w).right ns h.1 m j i r l e))))
  where
    cell : n.cell ≡ j → contains (n.cell ∷ n.pair ∷ cells_of ns) i ≡ true
    cell d =
        let at : w ≡ suc j = h.0.here ∙ ap suc d in
        ⊎_elim
        (λ x. let p : n.pair ≡ i = omega (arith, sym h.0.opens ∙ ap (λ (y : ℕ). (f y).left) at ∙ x) in
        later n.cell i (n.pair ∷ cells_of ns) (rw (← p) (here n.pair (cells_of ns))))
        (λ x. let z : (f w).right ≡ suc i = ap (λ (y : ℕ). (f y).right) at ∙ x in
        later n.cell i (n.pair ∷ cells_of ns) (later n.pair i (cells_of ns) (first_in c f i ns (rw z at h.1))))
        e

    pair : n.pair ≡ j → contains (n.cell ∷ n.pair ∷ cells_of ns) i ≡ true
    pair d =
        ⊎_elim (λ x. absurd (omega (arith, m, l, sym h.0.seat ∙ ap (λ (y : ℕ). (f (suc y)).left) d ∙ x)))
        (λ x. absurd (omega (arith, m, l, sym h.0.reading ∙ ap (λ (y : ℕ). (f (suc y)).right) d ∙ x))) e

module _ (t : List ℕ) (q : Queue) (hs : List ℕ) (f : ℕ → Fields) (k : Rests t q hs f) where
  -- and all are in use if the first is
  leads_used : (w : ℕ) (ns : List Node) → Leads (capacity t) f w ns 0 → ((i : ℕ) → i < capacity t → w ≡ suc i → in_use t i ≡ true)
      → (i : ℕ) → contains (cells_of ns) i ≡ true → in_use t i ≡ true
  unfolding contains
  leads_used w [] h u i o = absurd (let z : ◌≡◌ {A = ℕ} 0 1 = cc in omega arith)
  leads_used w (n ∷ ns) h u i o =
      let first : in_use t n.cell ≡ true = u n.cell h.0.cell h.0.here in
      let opened : (f (suc n.cell)).left ≡ suc n.pair = ap (λ (y : ℕ). (f y).left) (sym h.0.here) ∙ h.0.opens in
      cons_cases n.cell i (n.pair ∷ cells_of ns) o (λ (d : n.cell ≡ i). rw d at first)
      (λ p. cons_cases n.pair i (cells_of ns) p
      (λ (d : n.pair ≡ i). rw d at (field_used t q hs f k n.cell n.pair h.0.cell h.0.pair first (inl opened)))
      (λ r. leads_used (f w).right ns h.1
      (λ j l e. field_used t q hs f k n.cell j h.0.cell l first (inr (ap (λ (y : ℕ). (f y).right) (sym h.0.here) ∙ e))) i r))

-- the cells held are among those of the list
abbrev pub HeldIn : List ℕ → List ℕ → Type 0
HeldIn hs cs = (i : ℕ) → 0 < occurrences (suc i) hs → contains cs i ≡ true

-- only x is held, or x and others
pub held_one : {A : Type 0} (j x : ℕ) (hs : List ℕ) → 0 < occurrences (suc j) (x ∷ hs) → (x ≡ suc j → A) → (0 < occurrences (suc j) hs → A) → A
unfolding occurrences
held_one j x hs o a b =
    ⊎_elim (λ e. a (eqb-true x (suc j) e)) (λ e. b (omega (arith, o, matching_other x (suc j) 1 (eqb-false x (suc j) e)))) (tested (eqb x (suc j)))

module _ (t : List ℕ) (q : Queue) (hs : List ℕ) (f : ℕ → Fields) (k : Rests t q hs f) (w : ℕ) (ns : List Node) (h : Leads (capacity t) f w ns 0) where
  -- no cell outside the list is in use
  pub used_most : HeldIn hs (cells_of ns) → cells_in_use t ≤ 2 * length (entries_of ns)
  used_most held =
      omega (
        arith,
        in_use_most t q hs f k (cells_of ns) (record { holds = λ i l o. held i o; leads = λ j i a b o e. leads_closed (capacity t) f w ns h (rests_most k) j i o b e })
            (leads_indices (capacity t) f w ns 0 h),
        two_each ns,
      )

-- two cells for each seat, and no others
pub listed_in_use : (t : List ℕ) (q : Queue) (f : ℕ → Fields) (w : ℕ) (es : List Entry) → Rests t q (w ∷ []) f → Listed (capacity t) f w es → cells_in_use t ≡ 2 * length es
unfolding occurrences
listed_in_use t q f w es k r =
    in_use_exactly t q (w ∷ []) f k (cells_of r.nodes) (record {
      holds = λ i l o. held_one i w [] o (λ e. first_in (capacity t) f i r.nodes (rw e at r.leads)) (λ z. absurd (omega arith));
      leads = λ j i m l o e. leads_closed (capacity t) f w r.nodes r.leads (rests_most k) j i o l e;
    }) (leads_indices (capacity t) f w r.nodes 0 r.leads) r.apart
    (λ i l o. leads_used t q (w ∷ []) f k w r.nodes r.leads
    (λ j m e. held_used t q (w ∷ []) f k j m (omega (arith, matching_same w (suc j) 1 e))) i o)
    ∙ two_each r.nodes ∙ ap (λ (l : List Entry). 2 * length l) r.same

-- with a new pair beside the list, held too: one cell more
pub pair_in_use : (t : List ℕ) (q : Queue) (f : ℕ → Fields) (w i : ℕ) (ns : List Node) (s r : ℕ) → Rests t q (suc i ∷ w ∷ []) f → Leads (capacity t) f w ns 0 → i < capacity t
    → f (suc i) ≡ fields (atom_of s) (atom_of r) → Apart ns → occurrences i (cells_of ns) ≡ 0 → cells_in_use t ≡ suc (2 * length (entries_of ns))
unfolding occurrences contains
pair_in_use t q f w i ns s r k h l both apart new =
    in_use_exactly t q (suc i ∷ w ∷ []) f k (i ∷ cells_of ns) (record {
      holds = λ j m o. held_one j (suc i) (w ∷ []) o (λ e. let d : i ≡ j = omega (arith, e) in rw (← d) (here i (cells_of ns)))
          (λ z. held_one j w [] z (λ e. later i j (cells_of ns) (first_in (capacity t) f j ns (rw e at h))) (λ y. absurd (omega arith)));
      leads = λ j m a b o e. cons_cases i j (cells_of ns) o
          (λ d. ⊎_elim (λ x. absurd (omega (arith, below, b, sym (ap (λ (y : Fields). y.left) both) ∙ ap (λ (y : ℕ). (f (suc y)).left) d ∙ x)))
          (λ x. absurd (omega (arith, below, b, sym (ap (λ (y : Fields). y.right) both) ∙ ap (λ (y : ℕ). (f (suc y)).right) d ∙ x))) e)
          (λ p. later i m (cells_of ns) (leads_closed (capacity t) f w ns h below j m p b e));
    }) (l, leads_indices (capacity t) f w ns 0 h)
    (λ j. ⊎_elim (λ e. let d : i ≡ j = eqb-true i j e in omega (arith, matching_same i j 1 d, rw d at new)) (λ e. omega (arith, matching_other i j 1 (eqb-false i j e), apart j)) (tested (eqb i j)))
    (λ j m o. cons_cases i j (cells_of ns) o
    (λ (d : i ≡ j). rw d at (held_used t q (suc i ∷ w ∷ []) f k i l (omega (arith, matching_same (suc i) (suc i) 1 refl))))
    (λ p. leads_used t q (suc i ∷ w ∷ []) f k w ns h (λ y z e. held_used t q (suc i ∷ w ∷ []) f k y z (omega (arith, matching_same w (suc y) 1 e))) j p))
    ∙ ap suc (two_each ns)
  where
    below : capacity t ≤ most_cells
    below = rests_most k

-- a free cell is none of the list's
pub free_not_listed : (t : List ℕ) (q : Queue) (f : ℕ → Fields) (w : ℕ) (hs : List ℕ) (ns : List Node) → Rests t q hs f → Leads (capacity t) f w ns 0
    → ((j : ℕ) → w ≡ suc j → 0 < occurrences (suc j) hs) → (i : ℕ) → in_use t i ≡ false → occurrences i (cells_of ns) ≡ 0
free_not_listed t q f w hs ns k h held i e =
    occurs_not i (cells_of ns) (refuted (contains (cells_of ns) i) (λ o. not_both (leads_used t q hs f k w ns h (λ j m d. held_used t q hs f k j m (held j d)) i o) e))
