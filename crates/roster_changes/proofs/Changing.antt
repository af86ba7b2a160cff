-- What the settled calls at a cell of the list make of it.
use mathlib.Core.Path.{◌≡◌, ap, ◌∙◌}
use mathlib.Core.Bool.{true}
use mathlib.Core.List.{List, [], ◌∷◌, ◌++◌}
use Prim.Native.Nat.{ℕ, suc, ◌+◌, ◌-◌, ◌*◌, ◌≤◌, ◌<◌}
use native.Mathlib.Omega.{arith}
use lib.ListN.{length}
use Rattle.machine.specs.declared.Queue.{Queue}
use Rattle.machine.specs.Range.{occurrences}
use Rattle.machine.specs.Words.{first_atom, ceiling, most_cells, is_cell}
use Rattle.machine.specs.Calls.{car, cdr, set_right, up, down}
use Rattle.machine.proofs.Range.{matching_other}
use Rattle.soundness.specs.Reliable.{Fields}
use Rattle.resting.specs.Rests.{cells_in_use, At, After}
use Rattle.resting.specs.Settling.{Settling}
use Rattle.resting.proofs.Rows.{Storable, nil_storable, cell_storable, atom_storable, car_settled, cdr_settled, up_settled, down_settled, set_right_settled}
use Rattle.resting.proofs.Runs.{runs_then, runs_settled}
use Rattle.readings.specs.Calls.{seats, most_value}
use Rattle.roster_list.specs.declared.walk.Part.{Part}
use Rattle.roster_list.specs.Nodes.{Node, atom_of, cells_of, NodeAt, Leads}
use Rattle.roster_list.specs.Walks.{Looks, Passes}
use Rattle.roster_list.proofs.Held.{most_cells_lem, after_same, after_swap, atom_joins}
use Rattle.roster_list.proofs.Turning.{node_cell, pair_cell}
use Rattle.roster_list.proofs.NodeLaws.{leads_join}
use Rattle.roster_list.proofs.CellLaws.{HeldIn, first_in, held_one, in_second, used_most, entries_many}
use Rattle.roster_changes.specs.Changes.{ReadsOut, Replaces, DropsFirst, Relinks, LinksPast}

-- no atom is a cell
pub atoms_few : {c : ℕ} {s₀ hs : List ℕ} {f : ℕ → Fields} {t : List ℕ} {q : Queue} {s : List ℕ} (v : ℕ) → At c s₀ hs f t q s → (i : ℕ) → i < c → occurrences (suc i) (atom_of v ∷ []) ≡ 0
unfolding occurrences
atoms_few v k i l = omega (arith, matching_other (atom_of v) (suc i) 1 (λ d. omega (arith, most_cells_lem k, l)))

-- a word at which a list begins may be put into a cell
pub word_storable : (c : ℕ) (f : ℕ → Fields) (w : ℕ) (ns : List Node) → c ≤ most_cells → Leads c f w ns 0 → Storable c w
word_storable c f w [] m h = rw h (nil_storable c)
word_storable c f w (n ∷ ns) m h = cell_storable c w m (node_cell c f w n h.0)

-- the reading, and the hold released
pub reads_out : {t : List ℕ} {q : Queue} {s t₁ : List ℕ} {q₁ : Queue} {s₁ t₂ : List ℕ} {q₂ : Queue} {s₂ : List ℕ} {at w v x : ℕ} → Looks t q s at Part.Reading t₁ q₁ s₁ w
    → v ≡ w - first_atom → Settling t₁ q₁ s₁ (down at 1) t₂ q₂ s₂ x → ReadsOut t q s at t₂ q₂ s₂ v
reads_out {at = at} l e g = record {
  runs = runs_then l.runs (runs_settled g);
  shown = λ c s₀ hs f n few node k.
      let z = l.shown c s₀ hs f n few node k in
      (omega (arith, e, z.0), down_settled (omega arith) at (node_cell c f at n node) z.1.at g);
}

-- a read of the list's cell, another reading put, and the hold of the entry's cell released
pub replaces : {t : List ℕ} {q : Queue} {s t₁ : List ℕ} {q₁ : Queue} {s₁ t₂ : List ℕ} {q₂ : Queue} {s₂ t₃ : List ℕ} {q₃ : Queue} {s₃ : List ℕ} {at reading p a x y : ℕ}
    → Settling t q s (car at) t₁ q₁ s₁ p → (reading ≤ most_value → a ≡ atom_of reading) → Settling t₁ q₁ s₁ (set_right p a) t₂ q₂ s₂ x → Settling t₂ q₂ s₂ (down p 1) t₃ q₃ s₃ y
    → Replaces t q s at reading t₃ q₃ s₃
replaces {at = at} {reading} {p} {a} d e g h = record {
  runs = runs_then (runs_settled d) (runs_then (runs_settled g) (runs_settled h));
  shown = λ c s₀ hs f n few low node k.
      let z = car_settled (omega arith) at (node_cell c f at n node) k d in
      let cell : is_cell c p ≡ true = rw z.0 (pair_cell c f at n node) in
      let atom : a ≡ atom_of reading = e (omega (arith, low)) in
      let held = after_swap (atom_joins reading atom z.1) in
      let none = atoms_few reading z.1.at in
      let put = set_right_settled (omega arith) p a (rw atom (atom_storable c reading low)) cell (rw atom (λ i l o. absurd (omega (arith, none i l)))) held.at g in
      rw (← (z.0 ∙ node.opens), ← atom) (down_settled (omega arith) p cell put.at h);
}

-- the first cell of the list let go
pub drops_first : {t : List ℕ} {q : Queue} {s t₁ : List ℕ} {q₁ : Queue} {s₁ t₂ : List ℕ} {q₂ : Queue} {s₂ : List ℕ} {w at next x : ℕ} → Settling t q s (cdr at) t₁ q₁ s₁ next
    → Settling t₁ q₁ s₁ (down w 1) t₂ q₂ s₂ x → DropsFirst t q s w at t₂ q₂ s₂ next
drops_first {w = w} {at} d g = record {
  runs = runs_then (runs_settled d) (runs_settled g);
  shown = λ c s₀ f cell e k.
      let z = cdr_settled (omega arith) at (rw e cell) k d in
      (z.0 ∙ ap (λ (x : ℕ). (f x).right) e, down_settled (omega arith) w cell (after_swap z.1).at g);
}

-- the cells that are held while a cell is linked past are the list's, so that few are in use
module _ (c : ℕ) (f : ℕ → Fields) (w at next : ℕ) (xs : List Node) (n m : Node) (zs : List Node) (to : Leads c f w xs at) (on : Leads c f at (n ∷ m ∷ zs) 0)
    (e : next ≡ (f (f at).right).right) where
  abbrev all : List Node
  all = xs ++ (n ∷ m ∷ zs)

  whole : Leads c f w all 0
  whole = leads_join c f w xs (n ∷ m ∷ zs) at 0 to on

  rest : Leads c f next zs 0
  rest = rw e on.1.1

  held_in : HeldIn (at ∷ next ∷ w ∷ []) (cells_of all)
  unfolding occurrences
  held_in i o =
      held_one i at (next ∷ w ∷ []) o (λ d. in_second xs (n ∷ m ∷ zs) i (first_in c f i (n ∷ m ∷ zs) (rw d at on)))
      (λ p. held_one i next (w ∷ []) p
      (λ d. in_second xs (n ∷ m ∷ zs) i (in_second (n ∷ m ∷ []) zs i (first_in c f i zs (rw d at rest))))
      (λ r. held_one i w [] r (λ d. first_in c f i all (rw d at whole)) (λ z. absurd (omega arith))))

  few_used : {s₀ : List ℕ} {t : List ℕ} {q : Queue} {s : List ℕ} → length all ≤ seats → At c s₀ (at ∷ next ∷ w ∷ []) f t q s → 2 * cells_in_use t + 2 ≤ ceiling
  few_used {t = t} {q} few k = omega (arith, few, used_most t q (at ∷ next ∷ w ∷ []) f k.rests w all (rw k.cells whole) held_in, entries_many all)

-- a cell put behind another, whose hold is released
pub relinks : {t : List ℕ} {q : Queue} {s t₁ : List ℕ} {q₁ : Queue} {s₁ t₂ : List ℕ} {q₂ : Queue} {s₂ : List ℕ} {at next x y : ℕ} → Settling t q s (set_right at next) t₁ q₁ s₁ x
    → Settling t₁ q₁ s₁ (down at 1) t₂ q₂ s₂ y → Relinks t q s at next t₂ q₂ s₂
relinks {at = at} {next} d g = record {
  runs = runs_then (runs_settled d) (runs_settled g);
  shown = λ c s₀ f w xs n m zs to on e few k.
      let cell = node_cell c f at n on.0 in
      let used = few_used c f w at next xs n m zs to on e few k in
      let put = set_right_settled (omega arith) at next (word_storable c f next zs (most_cells_lem k) (rw e on.1.1)) cell (λ i l o. used) k d in
      down_settled (omega arith) at cell put.at g;
}

-- the list's word is a cell where the list has one
word_cell : (c : ℕ) (f : ℕ → Fields) (w : ℕ) (xs : List Node) (n : Node) (ys : List Node) (at v : ℕ) → Leads c f w xs at → Leads c f at (n ∷ ys) v → is_cell c w ≡ true
word_cell c f w [] n ys at v to on = rw to (node_cell c f at n on.0)
word_cell c f w (x ∷ xs) n ys at v to on = node_cell c f w x to.0

-- a later cell linked past
pub links_past : {t : List ℕ} {q : Queue} {s t₁ : List ℕ} {q₁ : Queue} {s₁ t₂ : List ℕ} {q₂ : Queue} {s₂ t₃ : List ℕ} {q₃ : Queue} {s₃ t₄ : List ℕ} {q₄ : Queue} {s₄ : List ℕ}
    {w at k next x before : ℕ} → Settling t q s (cdr at) t₁ q₁ s₁ next → Settling t₁ q₁ s₁ (up w 1) t₂ q₂ s₂ x → Passes t₂ q₂ s₂ w k t₃ q₃ s₃ before
    → Relinks t₃ q₃ s₃ before next t₄ q₄ s₄ → LinksPast t q s w at k t₄ q₄ s₄
unfolding occurrences
links_past {w = w} {at} {next = next} d a p r = record {
  runs = runs_then (runs_settled d) (runs_then (runs_settled a) (runs_then p.runs r.runs));
  shown = λ c s₀ f xs n m zs b to on e long few k.
      let there : NodeAt c f at m = rw e on.1.0 in
      let z = cdr_settled (omega arith) at (node_cell c f at m there) k d in
      let u = up_settled (omega arith) w (word_cell c f w xs n (m ∷ zs) b 0 to on) (after_swap z.1).at a in
      let v = p.shown c s₀ (w ∷ next ∷ []) f xs b (omega arith) u to long in
      let is : next ≡ (f (f b).right).right = z.0 ∙ ap (λ (x : ℕ). (f x).right) e in
      let held : After c s₀ (b ∷ next ∷ w ∷ []) f _ _ _ = after_same (λ i l. omega arith) v.1 in
      let y = (rw v.0 at r.shown) c s₀ f w xs n m zs to on is few held.at in
      rw (← z.0) y;
}
