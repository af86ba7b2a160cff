-- What the settled calls at one cell of the list give.
use Rattle.std.specs.Prelude.{Some, None}
use mathlib.Core.Path.{◌≡◌, sym, ap, ◌∙◌}
use mathlib.Core.Logic.{◌≢◌}
use mathlib.Core.Bool.{true, cond}
use mathlib.Core.List.{List, ◌∷◌}
use Prim.Native.Nat.{ℕ, suc, ◌-◌}
use native.Mathlib.Omega.{arith}
use lib.Dec.{leb}
use Rattle.machine.specs.declared.Queue.{Queue}
use Rattle.machine.specs.Words.{first_atom, is_cell}
use Rattle.machine.specs.Calls.{car, cdr, up}
use Rattle.machine.proofs.Lists.{at_most_one}
use Rattle.machine.proofs.Words.{index_cell}
use Rattle.soundness.specs.Reliable.{Fields}
use Rattle.resting.specs.Rests.{At, After}
use Rattle.resting.specs.Settling.{Settling}
use Rattle.resting.proofs.Rows.{car_settled, cdr_settled, up_settled}
use Rattle.resting.proofs.Runs.{runs_then, runs_settled}
use Rattle.roster_list.specs.declared.walk.Part.{Part}
use Rattle.roster_list.specs.Nodes.{Node, atom_of, part_of, read_of, NodeAt}
use Rattle.roster_list.specs.Walks.{Few, Looks, Turns, Weighs}
use Rattle.roster_list.proofs.Held.{atom_drops}

pub node_cell : (c : ℕ) (f : ℕ → Fields) (at : ℕ) (n : Node) → NodeAt c f at n → is_cell c at ≡ true
node_cell c f at n node = rw node.here (index_cell c n.cell node.cell)

pub pair_cell : (c : ℕ) (f : ℕ → Fields) (at : ℕ) (n : Node) → NodeAt c f at n → is_cell c (f at).left ≡ true
pair_cell c f at n node = rw node.opens (index_cell c n.pair node.pair)

-- a raise, a read of the list's cell, and a read of the entry's
module _ {t : List ℕ} {q : Queue} {s t₁ : List ℕ} {q₁ : Queue} {s₁ t₂ : List ℕ} {q₂ : Queue} {s₂ t₃ : List ℕ} {q₃ : Queue} {s₃ : List ℕ} {at v p w : ℕ} (part : Part)
    (a : Settling t q s (up at 1) t₁ q₁ s₁ v) (b : Settling t₁ q₁ s₁ (car at) t₂ q₂ s₂ p) (d : Settling t₂ q₂ s₂ (read_of part p) t₃ q₃ s₃ w) where
  module _ (c : ℕ) (s₀ hs : List ℕ) (f : ℕ → Fields) (n : Node) (few : Few hs) (node : NodeAt c f at n) (k : At c s₀ (at ∷ hs) f t q s) where
    raised : After c s₀ (at ∷ at ∷ hs) f t₁ q₁ s₁
    raised = up_settled (omega arith) at (node_cell c f at n node) k a

    opened : (p ≡ (f at).left) × After c s₀ (p ∷ at ∷ hs) f t₂ q₂ s₂
    opened = car_settled (omega arith) at (node_cell c f at n node) raised.at b

    cell : is_cell c p ≡ true
    cell = rw opened.0 (pair_cell c f at n node)

    is_pair : p ≡ suc n.pair
    is_pair = opened.0 ∙ node.opens

    read : (r : Part) → Settling t₂ q₂ s₂ (read_of r p) t₃ q₃ s₃ w → (w ≡ atom_of (part_of r n.entry)) × After c s₀ (at ∷ hs) f t₃ q₃ s₃
    read Part.Reading g =
        let z = cdr_settled (omega arith) p cell opened.1.at g in
        let e : w ≡ atom_of n.entry.reading = z.0 ∙ ap (λ (x : ℕ). (f x).right) is_pair ∙ node.reading in
        (e, atom_drops n.entry.reading e z.1)
    read Part.Seat g =
        let z = car_settled (omega arith) p cell opened.1.at g in
        let e : w ≡ atom_of n.entry.seat = z.0 ∙ ap (λ (x : ℕ). (f x).left) is_pair ∙ node.seat in
        (e, atom_drops n.entry.seat e z.1)

  pub looks : Looks t q s at part t₃ q₃ s₃ w
  looks = record {
    runs = runs_then (runs_settled a) (runs_then (runs_settled b) (runs_settled d));
    shown = λ c s₀ hs f n few node k. read c s₀ hs f n few node k part d;
  }

-- the seat is the one looked for
pub turn_stays : {t : List ℕ} {q : Queue} {s t' : List ℕ} {q' : Queue} {s' : List ℕ} {at key w : ℕ} → Looks t q s at Part.Seat t' q' s' w → w ≡ key
    → Turns t q s at key t' q' s' None
turn_stays l e = record {
  runs = l.runs;
  shown = λ c s₀ hs f n few node k. let z = l.shown c s₀ hs f n few node k in (sym z.0 ∙ e, z.1);
}

-- or not, and the walk goes on
pub turn_goes : {t : List ℕ} {q : Queue} {s t₁ : List ℕ} {q₁ : Queue} {s₁ t₂ : List ℕ} {q₂ : Queue} {s₂ : List ℕ} {at key w v : ℕ} → Looks t q s at Part.Seat t₁ q₁ s₁ w → (w ≢ key)
    → Settling t₁ q₁ s₁ (cdr at) t₂ q₂ s₂ v → Turns t q s at key t₂ q₂ s₂ (Some v)
turn_goes {at = at} l e g = record {
  runs = runs_then l.runs (runs_settled g);
  shown = λ c s₀ hs f n few node k.
      let z = l.shown c s₀ hs f n few node k in
      let y = cdr_settled (omega arith) at (node_cell c f at n node) z.1.at g in
      ((λ d. e (z.0 ∙ d)), y.0, y.1);
}

-- a reading weighed, and the walk goes on
pub weighs : {t : List ℕ} {q : Queue} {s t₁ : List ℕ} {q₁ : Queue} {s₁ t₂ : List ℕ} {q₂ : Queue} {s₂ : List ℕ} {at threshold w v weight : ℕ} → Looks t q s at Part.Reading t₁ q₁ s₁ w
    → weight ≡ cond (leb threshold (w - first_atom)) 1 0 → Settling t₁ q₁ s₁ (cdr at) t₂ q₂ s₂ v → Weighs t q s at threshold t₂ q₂ s₂ v weight
weighs {at = at} {threshold} {w} l e g = record {
  runs = runs_then l.runs (runs_settled g);
  most = rw e (at_most_one (leb threshold (w - first_atom)));
  shown = λ c s₀ hs f n few node k.
      let z = l.shown c s₀ hs f n few node k in
      let y = cdr_settled (omega arith) at (node_cell c f at n node) z.1.at g in
      let value : w - first_atom ≡ n.entry.reading = omega (arith, z.0) in
      (rw value at e, y.0, y.1);
}
