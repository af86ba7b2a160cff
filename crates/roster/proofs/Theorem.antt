-- Any list of roster calls from an accepted fresh, by the promise of each.
use mathlib.Core.Path.{◌≡◌, refl, ap, ◌∙◌}
use mathlib.Core.List.{List, [], ◌∷◌}
use Prim.Native.Nat.{ℕ, zero, suc}
use native.Mathlib.Omega.{arith}
use lib.ListN.{length}
use Rattle.machine.specs.declared.Queue.{Queue}
use Rattle.machine.specs.Range.{occurrences}
use Rattle.machine.specs.Table.{capacity}
use Rattle.machine.specs.Packets.{waiting_change}
use Rattle.machine.specs.Calls.{store}
use Rattle.machine.specs.Questions.{first_no}
use Rattle.soundness.specs.Demand3.{Begun}
use Rattle.soundness.specs.Reliable.{fields}
use Rattle.soundness.proofs.Theorem.{demand3}
use Rattle.soundness.proofs.Reliable.{none_waits}
use Rattle.resting.specs.Runs.{Led}
use Rattle.resting.proofs.FreshRests.{fresh_rests}
use Rattle.resting.proofs.Runs.{led_one, led_then, begun_fresh, begun_then}
use Rattle.readings.specs.Readings.{Entry}
use Rattle.readings.specs.Calls.{early_roster}
use Rattle.readings.specs.Answers.{answered, refused_or}
use Rattle.roster_list.specs.Nodes.{Node, entries_of, Leads}
use Rattle.roster_list.proofs.CellLaws.{listed_in_use}
use Rattle.roster.specs.Promise.{RosterOf, RosterPromise}
use Rattle.roster.specs.Rosters.{Link, Joined, OneHold, Stored, Left, Plain, Rosters}

module _ (t₀ : List ℕ) (q₀ : Queue) where
  module _ (c : ℕ) (es : List Entry) (t : List ℕ) (q : Queue) (w : ℕ) (e : capacity t ≡ c) (r : RosterOf t q w es) where
    -- by the calls and their replies the word is held once
    one_hold : (l : Led t₀ q₀ t q) → Begun l.links → OneHold t₀ q₀ c t q w
    unfolding occurrences waiting_change
    one_hold l b = record {
      led = l;
      begun = b;
      once = λ i k.
          let roots = (rw (l.table, l.queue, none_waits q r.rests.idle) at (demand3 t₀ q₀ l.links b l.joined).roots_are_holds) i (rw e k) in
          omega (arith, roots, r.rests.held i (rw e k));
    }

    -- what a roster's store is
    roster_stored : (l : Led t₀ q₀ t q) → Begun l.links → Stored t₀ q₀ c es t q w
    roster_stored l b = record {
      cells = e;
      sound = r.rests.whole.sound;
      idle = none_waits q r.rests.idle;
      hold = one_hold l b;
      nil = λ d. go r.listed.nodes (r.listed.same ∙ d) r.listed.leads;
      two = listed_in_use t q r.fields w es r.rests r.listed;
    }
      where
        go : (ns : List Node) → entries_of ns ≡ [] → Leads (capacity t) r.fields w ns 0 → w ≡ 0
        go [] d h = h
        go (n ∷ ns) d h = absurd (let z = ap length d in omega arith)

-- one link: the plain list's reply, what is left in the scratch, and a roster with the list's entries
linked : (c : ℕ) (es : List Entry) (t : List ℕ) (q : Queue) (w : ℕ) (l : Link) → capacity t ≡ c → RosterOf t q w es
    → RosterPromise (store t q l.scratch) w l.call l.reply l.after l.word → (n : ℕ) → first_no (early_roster (store t q l.scratch) l.call) ≡ n
    → (l.reply ≡ (refused_or n es (answered c es l.call)).reply) × Left n c (store t q l.scratch) w l.after l.word
    × RosterOf l.after.table l.after.queue l.word (refused_or n es (answered c es l.call)).entries
linked c es t q w l e r p zero d = let k = p.exact d es r in (rw e at k.reply, rw e at k.scratch, rw e at k.roster)
linked c es t q w l e r p (suc n) d = let k = p.asked n d in (k.0, (k.1, k.2), rw (k.1, k.2) r)

plain : (t₀ : List ℕ) (q₀ : Queue) (c : ℕ) (es : List Entry) (t : List ℕ) (q : Queue) (w : ℕ) (ls : List Link) → capacity t ≡ c → RosterOf t q w es → (m : Led t₀ q₀ t q)
    → Begun m.links → Joined t q w ls → Plain t₀ q₀ c es t q w ls
plain t₀ q₀ c es t q w [] e r m b j = tt
plain t₀ q₀ c es t q w (l ∷ ls) e r m b j =
    let k = linked c es t q w l e r j.0 (first_no (early_roster (store t q l.scratch) l.call)) refl in
    let same : capacity l.after.table ≡ c = j.0.runs.bounded.same_capacity ∙ e in
    let more = led_then m j.0.runs.led in
    let still = begun_then m j.0.runs.led b in (
      k.0,
      k.1,
      roster_stored t₀ q₀ c _ l.after.table l.after.queue l.word same k.2 more still,
      plain t₀ q₀ c (refused_or (first_no (early_roster (store t q l.scratch) l.call)) es (answered c es l.call)).entries l.after.table l.after.queue l.word ls same k.2 more still j.1,
    )

pub rosters : Rosters
unfolding occurrences
rosters s c v after p ls j =
    let k = fresh_rests s c v after (λ x. fields 0 0) p in
    let r : RosterOf after.table after.queue 0 [] = record {
      fields = λ x. fields 0 0;
      rests = k.0;
      listed = record {
        nodes = [];
        leads = refl;
        apart = λ i. omega arith;
        same = refl;
        proper = record { once = λ i. omega arith; seats = λ i o. absurd (omega (arith, o)) };
      };
    } in
    let m = led_one p in
    let b = begun_fresh p in
    (roster_stored s.table s.queue c [] after.table after.queue 0 k.1 r m b, plain s.table s.queue c [] after.table after.queue 0 ls k.1 r m b j)
