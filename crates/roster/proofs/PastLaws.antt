-- The calls past their questions give what the plain list gives.
use Rattle.std.specs.Prelude.{Some, None}
use mathlib.Core.Path.{◌≡◌, refl, sym, ap, subst, ◌∙◌}
use mathlib.Core.Logic.{◌≢◌}
use mathlib.Core.Bool.{true}
use mathlib.Core.List.{List, [], ◌∷◌, ◌++◌, append_assoc}
use Prim.Native.Nat.{ℕ, suc, ◌-◌, ◌≤◌, ◌<◌}
use native.Mathlib.Omega.{arith}
use lib.Dec.{leb}
use lib.ListN.{length, length-append}
use borrow.Author.Tests.{leb-true, ltb-true}
use Rattle.machine.specs.declared.Queue.{Queue}
use Rattle.machine.specs.Words.{clip}
use Rattle.machine.specs.Table.{capacity}
use Rattle.machine.specs.Calls.{Store, store}
use Rattle.machine.specs.Questions.{first_no, scratch_enough}
use Rattle.machine.proofs.Range.{and_second}
use Rattle.machine.proofs.Questions.{Numbered, AllYes, first_no_all}
use Rattle.soundness.specs.Reliable.{Fields}
use Rattle.resting.specs.Rests.{After}
use Rattle.resting.proofs.Runs.{runs_then}
use Rattle.readings.specs.Readings.{Entry, Found, found, looked_up, replaced, with_seat, without, counted}
use Rattle.readings.specs.Calls.{RosterCall, set, look_up, remove, count, RosterReply, value, absent, refused, seats, most_value, is_seat, early_roster}
use Rattle.readings.specs.Answers.{Given, given, has_room, found_reply, answered}
use Rattle.roster_list.specs.Nodes.{Node, atom_of, entries_of, NodeAt, Leads, put_right}
use Rattle.roster_list.specs.declared.walk.Place.{Place}
use Rattle.roster_list.specs.Walks.{Finds, Counts}
use Rattle.roster_list.proofs.Turning.{node_cell}
use Rattle.roster_list.proofs.EntryLaws.{changed, looked_past, looked_here, replaced_at, without_at, proper_changed, apart_changed, proper_out, apart_out}
use Rattle.roster_list.proofs.NodeLaws.{leads_changed, leads_past}
use Rattle.roster.specs.Promise.{RosterOf, Kept, Past}
use Rattle.roster_changes.specs.Changes.{ReadsOut, Replaces, Rostered, added, Adds, DropsFirst, LinksPast}
use Rattle.roster_changes.proofs.Adding.{not_refused}
use Rattle.roster.proofs.Finding as finding
use Rattle.roster.proofs.Finding.{roster_at, few_nodes, seat_missing, seat_found}

numbered : (s : Store) (call : RosterCall) → Numbered (early_roster s call)
unfolding early_roster
numbered s (set x r) = (omega arith, (omega arith, (omega arith, (omega arith, (omega arith, tt)))))
numbered s (look_up x) = (omega arith, (omega arith, (omega arith, tt)))
numbered s (remove x) = (omega arith, (omega arith, (omega arith, tt)))
numbered s (count n) = (omega arith, (omega arith, tt))

yes : (s : Store) (call : RosterCall) → first_no (early_roster s call) ≡ 0 → AllYes (early_roster s call)
yes s call e = first_no_all (early_roster s call) (numbered s call) e

-- what the early questions say where none says "no"
module _ (s : Store) where
  pub set_early : (x r : ℕ) → first_no (early_roster s (set x r)) ≡ 0 → (is_seat x ≡ true) × (scratch_enough s.table s.scratch ≡ true) × (r < clip)
  unfolding early_roster
  set_early x r e = let y = yes s (set x r) e in (y.0, y.1.1.0, ltb-true r clip y.1.1.1.1.0)

  pub look_early : (x : ℕ) → first_no (early_roster s (look_up x)) ≡ 0 → (is_seat x ≡ true) × (scratch_enough s.table s.scratch ≡ true)
  unfolding early_roster
  look_early x e = let y = yes s (look_up x) e in (y.0, y.1.1.0)

  pub remove_early : (x : ℕ) → first_no (early_roster s (remove x)) ≡ 0 → (is_seat x ≡ true) × (scratch_enough s.table s.scratch ≡ true)
  unfolding early_roster
  remove_early x e = let y = yes s (remove x) e in (y.0, y.1.1.0)

  pub count_early : (n : ℕ) → first_no (early_roster s (count n)) ≡ 0 → scratch_enough s.table s.scratch ≡ true
  unfolding early_roster
  count_early n e = (yes s (count n) e).1.0

seat_value : (x : ℕ) → is_seat x ≡ true → x ≤ most_value
unfolding is_seat
seat_value x h = omega (arith, leb-true x seats (and_second (leb 1 x) (leb x seats) h))

not_absent : {n : ℕ} {A : Type 0} → absent ≡ refused n → A
not_absent e = absurd (let z : ◌≡◌ {A = ℕ} 0 1 = cc in omega arith)

-- a roster afterwards
kept : {t : List ℕ} {q : Queue} {s t' : List ℕ} {q' : Queue} {s' : List ℕ} {w' : ℕ} {es : List Entry} {call : RosterCall} {r : RosterReply} (g : Given)
    → answered (capacity t) es call ≡ g → r ≡ g.reply → Rostered (capacity t) s w' g.entries t' q' s' → Kept (store t q s) es call r (store t' q' s') w'
kept {t' = t'} {q'} {w' = w'} g e d a = record {
  reply = d ∙ ap (λ (x : Given). x.reply) (sym e);
  roster = subst (λ (x : Given). RosterOf t' q' w' x.entries) (sym e)
      (record { fields = a.fields; rests = a.after.at.rests; listed = rw a.after.at.cells a.listed });
  scratch = a.after.clear;
}

-- Count.
pub counted_past : {t : List ℕ} {q : Queue} {s t' : List ℕ} {q' : Queue} {s' : List ℕ} {w n v : ℕ} → Counts t q s w n t' q' s' v
    → Past (store t q s) w (count n) (value v) (store t' q' s') w
unfolding answered
counted_past {t} {q} {s} {n = n} {v} g = record {
  refusal = λ m e. not_refused e;
  exact = λ e es r.
      let z = g.shown (capacity t) s r.fields r.listed.nodes (roster_at r s (count_early (store t q s) n e)) r.listed.leads (few_nodes r) in
      kept (given (value (counted es n)) es) refl (ap value (z.0 ∙ ap (λ (l : List Entry). counted l n) r.listed.same))
      (record { fields = r.fields; after = z.1; listed = r.listed });
  runs = g.runs;
}

-- the list without the node that was found
removed : {t : List ℕ} {q : Queue} {s : List ℕ} {w : ℕ} {es : List Entry} {seat at before : ℕ} {t₁ : List ℕ} {q₁ : Queue} {s₁ t₂ : List ℕ} {q₂ : Queue} {s₂ : List ℕ} {w' : ℕ}
    (r : RosterOf t q w es) (z : finding.Found (capacity t) s r.fields w r.listed.nodes seat at before t₁ q₁ s₁) (f : ℕ → Fields)
    → After (capacity t) s (w' ∷ []) f t₂ q₂ s₂ → Leads (capacity t) f w' (z.xs ++ z.ys) 0 → Kept (store t q s) es (remove seat) (value 0) (store t₂ q₂ s₂) w'
unfolding answered
removed {es = es} {seat} r z f a leads =
    let all : es ≡ entries_of (z.xs ++ (z.node ∷ z.ys)) = sym r.listed.same ∙ ap entries_of z.parts in
    let there : looked_up es seat ≡ found z.node.entry.reading =
    ap (λ (l : List Entry). looked_up l seat) all ∙ looked_past seat z.xs (z.node ∷ z.ys) z.none ∙ looked_here seat z.node z.ys z.here in
    let out : without es seat ≡ entries_of (z.xs ++ z.ys) = ap (λ (l : List Entry). without l seat) all ∙ without_at seat z.xs z.node z.ys z.none z.here in
    kept (given (value 0) (without es seat)) (rw there refl) refl (record {
      fields = f;
      after = a;
      listed = record {
        nodes = z.xs ++ z.ys;
        leads = leads;
        apart = apart_out z.xs z.node z.ys (rw z.parts at r.listed.apart);
        same = sym out;
        proper = rw out (proper_out z.xs z.node z.ys (rw all at r.listed.proper));
      };
    })

-- no node comes before
no_nodes : (c : ℕ) (f : ℕ → Fields) (w : ℕ) (xs : List Node) (at : ℕ) → length xs ≡ 0 → Leads c f w xs at → (xs ≡ []) × (at ≡ w)
no_nodes c f w [] at e h = (refl, sym h)
no_nodes c f w (x ∷ xs) at e h = absurd (omega arith)

-- or one comes last before
record Last (c : ℕ) (f : ℕ → Fields) (w : ℕ) (ns : List Node) (v : ℕ) : Type 0 where
  xs : List Node
  node : Node
  at : ℕ
  parts : ns ≡ xs ++ (node ∷ [])
  to : Leads c f w xs at
  here : NodeAt c f at node
  next : (f at).right ≡ v

last_of : (c : ℕ) (f : ℕ → Fields) (w : ℕ) (ns : List Node) (v : ℕ) → length ns ≢ 0 → Leads c f w ns v → Last c f w ns v
last_of c f w [] v some h = absurd (some refl)
last_of c f w (n ∷ []) v some h = record { xs = []; node = n; at = w; parts = refl; to = refl; here = h.0; next = h.1 }
last_of c f w (n ∷ m ∷ ns) v some h =
    let l = last_of c f (f w).right (m ∷ ns) v (λ e. omega arith) h.1 in
    record { xs = n ∷ l.xs; node = l.node; at = l.at; parts = ap (λ (x : List Node). n ∷ x) l.parts; to = (h.0, l.to); here = l.here; next = l.next }

module _ {t : List ℕ} {q : Queue} {s t₁ : List ℕ} {q₁ : Queue} {s₁ : List ℕ} {w seat key : ℕ} (atom : seat ≤ most_value → key ≡ atom_of seat) where
  -- Look up.
  pub read_absent : Finds t q s w key t₁ q₁ s₁ None → Past (store t q s) w (look_up seat) absent (store t₁ q₁ s₁) w
  unfolding answered
  read_absent g = record {
    refusal = λ m e. not_absent e;
    exact = λ e es r.
        let y = look_early (store t q s) seat e in
        let z = seat_missing seat (atom (seat_value seat y.0)) es r y.1 g in
        kept (given absent es) (ap (λ (x : Found). given (found_reply x) es) z.0) refl z.2;
    runs = g.runs;
  }

  module _ {t₂ : List ℕ} {q₂ : Queue} {s₂ : List ℕ} {place : Place} (g : Finds t q s w key t₁ q₁ s₁ (Some place)) where
    pub read_found : {v : ℕ} → ReadsOut t₁ q₁ s₁ place.at t₂ q₂ s₂ v → Past (store t q s) w (look_up seat) (value v) (store t₂ q₂ s₂) w
    unfolding answered
    read_found {v} d = record {
      refusal = λ m e. not_refused e;
      exact = λ e es r.
          let y = look_early (store t q s) seat e in
          let z = seat_found seat (atom (seat_value seat y.0)) es r y.1 g in
          let o = d.shown (capacity t) s (w ∷ []) r.fields z.node (omega arith) z.on.0 z.after.at in
          let there : looked_up es seat ≡ found z.node.entry.reading =
          ap (λ (l : List Entry). looked_up l seat) (sym r.listed.same ∙ ap entries_of z.parts)
          ∙ looked_past seat z.xs (z.node ∷ z.ys) z.none ∙ looked_here seat z.node z.ys z.here in
          kept (given (value z.node.entry.reading) es) (ap (λ (x : Found). given (found_reply x) es) there) (ap value o.0)
          (record { fields = r.fields; after = o.1; listed = r.listed });
      runs = runs_then g.runs d.runs;
    }

    -- Set, of a seat that is present.
    pub set_present : {reading : ℕ} → Replaces t₁ q₁ s₁ place.at reading t₂ q₂ s₂ → Past (store t q s) w (set seat reading) (value 0) (store t₂ q₂ s₂) w
    unfolding answered has_room with_seat
    set_present {reading} d = record {
      refusal = λ m e. not_refused e;
      exact = λ e es r.
          let y = set_early (store t q s) seat reading e in
          let z = seat_found seat (atom (seat_value seat y.0)) es r y.1 g in
          let o = d.shown (capacity t) s (w ∷ []) r.fields z.node (omega arith) y.2 z.on.0 z.after.at in
          let all : es ≡ entries_of (z.xs ++ (z.node ∷ z.ys)) = sym r.listed.same ∙ ap entries_of z.parts in
          let there : looked_up es seat ≡ found z.node.entry.reading =
          ap (λ (l : List Entry). looked_up l seat) all ∙ looked_past seat z.xs (z.node ∷ z.ys) z.none ∙ looked_here seat z.node z.ys z.here in
          let new : replaced es seat reading ≡ entries_of (z.xs ++ (changed z.node reading ∷ z.ys)) =
          ap (λ (l : List Entry). replaced l seat reading) all ∙ replaced_at seat z.xs z.node z.ys reading z.none z.here in
          kept (given (value 0) (replaced es seat reading)) (rw there refl) refl (record {
            fields = put_right r.fields (suc z.node.pair) (atom_of reading);
            after = o;
            listed = record {
              nodes = z.xs ++ (changed z.node reading ∷ z.ys);
              leads = leads_changed (capacity t) r.fields w place.at z.xs z.node z.ys z.to z.on (rw z.parts at r.listed.apart) reading;
              apart = apart_changed z.xs z.node z.ys reading (rw z.parts at r.listed.apart);
              same = sym new;
              proper = rw new (proper_changed z.xs z.node z.ys reading (rw all at r.listed.proper));
            };
          });
      runs = runs_then g.runs d.runs;
    }

    -- Remove.
    pub removed_first : {next : ℕ} → place.before ≡ 0 → DropsFirst t₁ q₁ s₁ w place.at t₂ q₂ s₂ next → Past (store t q s) w (remove seat) (value 0) (store t₂ q₂ s₂) next
    removed_first {next} first d = record {
      refusal = λ m e. not_refused e;
      exact = λ e es r.
          let y = remove_early (store t q s) seat e in
          let z = seat_found seat (atom (seat_value seat y.0)) es r y.1 g in
          let at_word : place.at ≡ w = (no_nodes (capacity t) r.fields w z.xs place.at (z.passed ∙ first) z.to).1 in
          let o = d.shown (capacity t) s r.fields (rw (← at_word) (node_cell (capacity t) r.fields place.at z.node z.on.0)) at_word z.after.at in
          let is : next ≡ (r.fields place.at).right = o.0 ∙ ap (λ (x : ℕ). (r.fields x).right) (sym at_word) in
          let none = (no_nodes (capacity t) r.fields w z.xs place.at (z.passed ∙ first) z.to).0 in
          removed r z r.fields o.1 (subst (λ (l : List Node). Leads (capacity t) r.fields next (l ++ z.ys) 0) (sym none) (rw is z.on.1));
      runs = runs_then g.runs d.runs;
    }

    pub removed_later : place.before ≢ 0 → LinksPast t₁ q₁ s₁ w place.at (place.before - 1) t₂ q₂ s₂ → Past (store t q s) w (remove seat) (value 0) (store t₂ q₂ s₂) w
    removed_later later d = record {
      refusal = λ m e. not_refused e;
      exact = λ e es r.
          let y = remove_early (store t q s) seat e in
          let z = seat_found seat (atom (seat_value seat y.0)) es r y.1 g in
          let l = last_of (capacity t) r.fields w z.xs place.at (λ p. later (sym z.passed ∙ p)) z.to in
          let parts : r.listed.nodes ≡ l.xs ++ (l.node ∷ z.node ∷ z.ys) =
          z.parts ∙ ap (λ (x : List Node). x ++ (z.node ∷ z.ys)) l.parts ∙ append_assoc l.xs (l.node ∷ []) (z.node ∷ z.ys) in
          let on : Leads (capacity t) r.fields l.at (l.node ∷ z.node ∷ z.ys) 0 = (l.here, rw l.next z.on) in
          let long : length l.xs ≡ place.before - 1 = omega (arith, z.passed, ap length l.parts, length-append l.xs (l.node ∷ [])) in
          let few : length (l.xs ++ (l.node ∷ z.node ∷ z.ys)) ≤ seats = omega (arith, few_nodes r, ap length parts) in
          let o = d.shown (capacity t) s r.fields l.xs l.node z.node z.ys l.at l.to on (sym l.next) long few z.after.at in
          let past = leads_past (capacity t) r.fields w l.at l.xs l.node z.node z.ys l.to on (rw parts at r.listed.apart) in
          let out : l.xs ++ (l.node ∷ z.ys) ≡ z.xs ++ z.ys = sym (append_assoc l.xs (l.node ∷ []) z.ys) ∙ ap (λ (x : List Node). x ++ z.ys) (sym l.parts) in
          removed r z (put_right r.fields l.at (r.fields place.at).right) o (rw (l.next, out) at past);
      runs = runs_then g.runs d.runs;
    }

  pub removed_absent : Finds t q s w key t₁ q₁ s₁ None → Past (store t q s) w (remove seat) absent (store t₁ q₁ s₁) w
  unfolding answered
  removed_absent g = record {
    refusal = λ m e. not_absent e;
    exact = λ e es r.
        let y = remove_early (store t q s) seat e in
        let z = seat_missing seat (atom (seat_value seat y.0)) es r y.1 g in
        kept (given absent es) (rw (z.0, z.1) refl) refl z.2;
    runs = g.runs;
  }

  -- Set, of a new seat.
  pub set_new : {reading : ℕ} {reply : RosterReply} {t₂ : List ℕ} {q₂ : Queue} {s₂ : List ℕ} {w' : ℕ} → Finds t q s w key t₁ q₁ s₁ None → Adds t₁ q₁ s₁ w seat reading reply t₂ q₂ s₂ w'
      → Past (store t q s) w (set seat reading) reply (store t₂ q₂ s₂) w'
  unfolding answered has_room with_seat
  set_new {reading} g d = record {
    refusal = d.refusal;
    exact = λ e es r.
        let y = set_early (store t q s) seat reading e in
        let z = seat_missing seat (atom (seat_value seat y.0)) es r y.1 g in
        let o = d.shown (capacity t) s es y.0 y.2 z.0 z.2 in
        kept (added (capacity t) es seat reading) (rw z.0 refl) o.0 o.1;
    runs = runs_then g.runs d.runs;
  }
