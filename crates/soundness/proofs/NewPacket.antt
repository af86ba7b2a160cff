-- A row call appends one packet and one stage: what its write must give for the facts to hold afterwards.
use mathlib.Core.Path.{◌≡◌, sym, ap, ◌∙◌}
use mathlib.Core.Logic.{◌⊎◌, ⊎_elim}
use mathlib.Core.Bool.{true}
use mathlib.Core.List.{List, [], ◌∷◌, ◌++◌}
use Prim.Native.Nat.{ℕ, suc, ◌+◌, ◌≤◌, ◌<◌}
use native.Mathlib.Omega.{arith}
use lib.ListN.{length}
use Rattle.machine.specs.Words.{ceiling, is_legal}
use Rattle.machine.specs.Table.{right, root_count, cell_count, state, capacity, word_at, in_use}
use Rattle.machine.specs.Queue.{Packet}
use Rattle.machine.specs.Packets.{root, cell, plus, minus, uses, waiting_change}
use Rattle.machine.specs.Counts.{pointers}
use Rattle.machine.specs.Audit.{replays}
use Rattle.machine.specs.Facts.{Chain}
use Rattle.soundness.proofs.PacketKinds.{moves}
use Rattle.soundness.proofs.Views.{View, shown, Same, same_sym, undo_view, HoldsFor, all_map, all_snoc, WrittenBelow, earlier, earlier_same, earlier_snoc, seen, seen_same, seen_undo, pointers_seen, WithinView, stages_same, stages_snoc}
use Rattle.soundness.proofs.LegalPackets.{Fit, LegalPacket, legal_grows}
use Rattle.soundness.proofs.Facts.{Facts, all_below}
use Rattle.soundness.proofs.ReachedCells.{counted_used}

-- question 6: each cell is held as often as the call with the packet p names it
abbrev pub HeldFor : List ℕ → List Packet → Packet → Type 0
HeldFor t ps p = (i : ℕ) → i < capacity t
    → (uses p (suc i) ≡ 0) ⊎ (waiting_change root minus (suc i) ps + uses p (suc i) ≤ word_at t i root_count + waiting_change root plus (suc i) ps)

-- an operand that is legal and that the call names, held as question 6 asks, is fit
pub operand_fit : (t : List ℕ) (ps : List Packet) → Facts t ps → (p : Packet) (w : ℕ) → HeldFor t ps p → is_legal (capacity t) w ≡ true
    → ((i : ℕ) → w ≡ suc i → 1 ≤ uses p (suc i)) → Fit t w
operand_fit t ps f p w held legal named = record {
  legal = legal;
  used = λ i l e. let n = named i e in counted_used t ps f i l (⊎_elim (λ z. absurd (omega arith)) (λ z. omega arith) (held i l));
}

-- what a call with the packet p wrote: undoing it gives the view before
pub record Wrote (t u : List ℕ) (p : Packet) : Type 0 where
  pub same_capacity : capacity u ≡ capacity t
  pub below : WrittenBelow (capacity t) p
  pub holds : HoldsFor p (shown u)
  pub undoes : Same (capacity t) (undo_view p (shown u)) (shown t)

-- so that it moved the pointers as its packet will move the cell counts
pub wrote_pointers : (t u : List ℕ) (p : Packet) → Wrote t u p → (i : ℕ)
    → pointers u (suc i) + moves cell minus p (suc i) ≡ pointers t (suc i) + moves cell plus p (suc i)
wrote_pointers t u p w i =
    omega (
      arith,
      pointers_seen t i,
      pointers_seen u i ∙ ap (λ (c : ℕ). seen c (shown u) (suc i)) w.same_capacity,
      seen_same (capacity t) (undo_view p (shown u)) (shown t) (suc i) w.undoes,
      seen_undo (capacity t) (shown u) p i w.below w.holds,
    )

-- what the table u after a call with the packet p must be, on the table t before it
pub record Appends (t u : List ℕ) (ps : List Packet) (p : Packet) : Type 0 where
  pub same_length : length u ≡ length t
  pub wrote : Wrote t u p
  pub states : (i : ℕ) → i < capacity t → word_at u i state ≤ 1
  pub roots : (i : ℕ) → i < capacity t → word_at u i root_count ≤ ceiling
  pub counts : (i : ℕ) → i < capacity t → word_at u i cell_count ≡ word_at t i cell_count
  pub keeps : (i : ℕ) → i < capacity t → in_use t i ≡ true → in_use u i ≡ true
  pub fields : (i k : ℕ) → i < capacity t → k ≤ right → in_use u i ≡ true → Fit u (word_at u i k)
  pub free : List ℕ
  pub chain : Chain u free
  pub legal : LegalPacket u p
  pub replay : (i : ℕ) → i < capacity t → replays (suc i) (word_at u i root_count) (ps ++ (p ∷ [])) ≡ true
  pub within : WithinView (capacity t) (shown u)

pub append_facts : (t u : List ℕ) (ps : List Packet) (p : Packet) → Facts t ps → Appends t u ps p → Facts u (ps ++ (p ∷ []))
append_facts t u ps p f a = record {
  some = rw a.wrote.same_capacity f.some;
  most = rw a.wrote.same_capacity f.most;
  room = rw (a.wrote.same_capacity, a.same_length) f.room;
  states = rw a.wrote.same_capacity a.states;
  roots = rw a.wrote.same_capacity a.roots;
  cells = rw a.wrote.same_capacity (λ (i : ℕ) (l : i < capacity t). omega (arith, a.counts i l, f.cells i l));
  fields = rw a.wrote.same_capacity a.fields;
  free = a.free;
  chain = a.chain;
  legal = all_snoc (LegalPacket u) ps p (all_map (LegalPacket t) (LegalPacket u) ps (λ r. legal_grows t u r a.wrote.same_capacity a.keeps) f.legal)
      a.legal;
  replay = rw a.wrote.same_capacity a.replay;
  stages = rw a.wrote.same_capacity (stages_snoc c (shown u) ps p (stages_same c (shown t) (undo_view p (shown u)) ps same (all_below t ps f) f.stages)
      a.wrote.holds a.within);
  counts = rw a.wrote.same_capacity (λ (i : ℕ) (l : i < c). a.counts i l ∙ f.counts i l
      ∙ seen_same c (earlier (shown t) ps) (earlier (undo_view p (shown u)) ps) (suc i) (earlier_same c (shown t) (undo_view p (shown u)) ps same)
      ∙ ap (λ (v : View). seen c v (suc i)) (sym (earlier_snoc (shown u) ps p)));
}
  where
    c : ℕ
    c = capacity t

    same : Same c (shown t) (undo_view p (shown u))
    same = same_sym c (undo_view p (shown u)) (shown t) a.wrote.undoes
