-- What a search of a roster shows: the seat is missing, or the list is parted at it.
use Rattle.std.specs.Prelude.{Option, Some, None}
use mathlib.Core.Path.{◌≡◌, refl, sym, ap, subst, ◌∙◌}
use mathlib.Core.Bool.{true}
use mathlib.Core.List.{List, [], ◌∷◌, ◌++◌}
use Prim.Native.Nat.{ℕ, ◌≤◌}
use native.Mathlib.Omega.{arith}
use lib.ListN.{length}
use borrow.Author.Tests.{leb-true}
use Rattle.machine.specs.declared.Queue.{Queue}
use Rattle.machine.specs.Table.{capacity, scratch_words}
use Rattle.machine.specs.Questions.{scratch_enough}
use Rattle.soundness.specs.Reliable.{Fields}
use Rattle.resting.specs.Rests.{At, After}
use Rattle.readings.specs.Readings.{Entry, missing, looked_up, without}
use Rattle.readings.specs.Calls.{seats}
use Rattle.roster_list.specs.Nodes.{Node, atom_of, entries_of, Leads}
use Rattle.roster_list.specs.declared.walk.Place.{Place}
use Rattle.roster_list.specs.Walks.{Walked, NoneOf, Begins, Sought, Finds}
use Rattle.roster_list.proofs.SeatLaws.{few_seats}
use Rattle.roster_list.proofs.EntryLaws.{looked_nowhere, without_none}
use Rattle.roster_list.proofs.CellLaws.{entries_many}
use Rattle.roster.specs.Promise.{RosterOf}
use Rattle.roster_changes.specs.Changes.{Rostered}

module _ {t : List ℕ} {q : Queue} {w : ℕ} {es : List Entry} (r : RosterOf t q w es) where
  -- the store of a roster, with enough scratch
  pub roster_at : (s : List ℕ) → scratch_enough t s ≡ true → At (capacity t) s (w ∷ []) r.fields t q s
  unfolding scratch_enough
  roster_at s e = record { cells = refl; rests = r.rests; enough = leb-true (scratch_words (capacity t)) (length s) e; past = refl }

  pub few_nodes : length r.listed.nodes ≤ seats
  few_nodes = omega (arith, few_seats es r.listed.proper, entries_many r.listed.nodes, ap length r.listed.same)

-- the list parted at the seat, whose cell is held
pub record Found (c : ℕ) (s₀ : List ℕ) (f : ℕ → Fields) (w : ℕ) (ns : List Node) (seat at before : ℕ) (t : List ℕ) (q : Queue) (s : List ℕ) : Type 0 where
  pub xs : List Node
  pub node : Node
  pub ys : List Node
  pub parts : ns ≡ xs ++ (node ∷ ys)
  pub passed : length xs ≡ before
  pub none : NoneOf (atom_of seat) xs
  pub here : node.entry.seat ≡ seat
  pub to : Leads c f w xs at
  pub on : Leads c f at (node ∷ ys) 0
  pub after : After c s₀ (at ∷ w ∷ []) f t q s

module _ {t : List ℕ} {q : Queue} {s : List ℕ} {w key : ℕ} (seat : ℕ) (e : key ≡ atom_of seat) (es : List Entry) (r : RosterOf t q w es)
    (enough : scratch_enough t s ≡ true) where
  search : {t' : List ℕ} {q' : Queue} {s' : List ℕ} {place : Option Place} → Finds t q s w key t' q' s' place
      → Sought key (capacity t) s (w ∷ []) r.fields w r.listed.nodes t' q' s' place
  search g = g.shown (capacity t) s r.fields r.listed.nodes (roster_at r s enough) r.listed.leads (few_nodes r)

  -- it is missing
  pub seat_missing : {t' : List ℕ} {q' : Queue} {s' : List ℕ} → Finds t q s w key t' q' s' None
      → (looked_up es seat ≡ missing) × (without es seat ≡ es) × Rostered (capacity t) s w es t' q' s'
  seat_missing g =
      let ns = r.listed.nodes in
      let z = search g in
      let none : NoneOf (atom_of seat) ns = subst (λ (k : ℕ). NoneOf k ns) e z.0 in
      let same : es ≡ entries_of ns = sym r.listed.same in (
        ap (λ (l : List Entry). looked_up l seat) same ∙ looked_nowhere seat ns none,
        ap (λ (l : List Entry). without l seat) same ∙ without_none seat ns none ∙ sym same,
        record { fields = r.fields; after = z.1; listed = r.listed },
      )

  -- or found
  pub seat_found : {t' : List ℕ} {q' : Queue} {s' : List ℕ} {place : Place} → Finds t q s w key t' q' s' (Some place)
      → Found (capacity t) s r.fields w r.listed.nodes seat place.at place.before t' q' s'
  seat_found {t'} {q'} {s'} {place} g = let z = search g in go z.0 z.0.ys refl z.0.on z.1
    where
      go : (z : Walked (NoneOf key) (capacity t) s (w ∷ []) r.fields w r.listed.nodes 0 t' q' s' place.at place.before) → (ys : List Node) → z.ys ≡ ys
          → Leads (capacity t) r.fields place.at ys 0 → Begins key z.ys → Found (capacity t) s r.fields w r.listed.nodes seat place.at place.before t' q' s'
      go z [] d on h = absurd (rw d at h)
      go z (n ∷ ys) d on h =
          let same : atom_of n.entry.seat ≡ atom_of seat = (rw d at h) ∙ e in
          record {
            xs = z.xs;
            node = n;
            ys = ys;
            parts = z.parts ∙ ap (λ (l : List Node). z.xs ++ l) d;
            passed = z.passed;
            none = subst (λ (k : ℕ). NoneOf k z.xs) e z.known;
            here = omega (arith, same);
            to = z.to;
            on = on;
            after = z.after;
          }
