-- Calls one after the other, each with its two lines.
use mathlib.Core.Path.{◌≡◌, refl, sym, ap, ◌∙◌}
use mathlib.Core.Bool.{Bool, true, false}
use mathlib.Core.List.{List, [], ◌∷◌, ◌++◌, append_assoc}
use Prim.Native.Nat.{ℕ, zero, suc, ◌+◌, ◌-◌, ◌≤◌, ◌<◌}
use Rattle.std.specs.Prelude.{Option, Some, None}
use native.Mathlib.Numerals.{add-one}
use native.Mathlib.Nat.{sub-zero}
use native.Mathlib.Omega.{arith}
use lib.Dec.{eqb}
use lib.ListN.{length, take, length-append}
use borrow.Author.Tests.{eqb-true, eqb-false}
use Rattle.base_ten.specs.Put.{Put}
use Rattle.base_ten.proofs.WordLaws.{append_none}
use Rattle.machine.specs.declared.Queue.{Queue}
use Rattle.machine.specs.Calls.{Store, store}
use Rattle.line_text.specs.declared.Request.{Request}
use Rattle.line_text.specs.declared.Verdict.{Verdict}
use Rattle.line_text.specs.Texts.{output_line}
use Rattle.line_text.proofs.PutLaws.{output_length}
use Rattle.call_text.specs.CallText.{call_line}
use Rattle.call_text.proofs.TextLaws.{line_length}
use Rattle.serving.specs.Serving.{served, Good, Serves}
use Rattle.traffic.specs.declared.Drawn.{Drawn}
use Rattle.traffic.specs.declared.Workload.{Workload}
use Rattle.traffic.specs.Traffic.{call_drawn, calls_drawn}
use Rattle.load_lines.specs.declared.Load.{Load}
use Rattle.load_lines.specs.Listing.{told, bad_line}
use Rattle.load_lines.specs.Progress.{both_room, load_of, turn, upcoming, bad_ahead, lines_ahead, ahead, calls_of, Writes}

-- every call but the first is drawn
pub later_call : (c s done : ℕ) {d : Drawn} → (done ≡ 0 → ⊥) → d ≡ call_drawn c s → d ≡ turn c s done
later_call c s zero h e = absurd (h refl)
later_call c s (suc done) h e = e

-- the calls to come begin with the next one
upcoming_next : (c s calls done : ℕ) → done ≤ calls → upcoming c s calls done ≡ (turn c s done).request ∷ upcoming c (turn c s done).state calls (suc done)
unfolding upcoming calls_drawn
upcoming_next c s calls zero h = rw (sub-zero calls)
upcoming_next c s calls (suc done) h = let one : calls - done ≡ suc (calls - suc done) = omega arith in rw one

upcoming_drawn : (c s calls done : ℕ) {d : Drawn} → done ≤ calls → d ≡ turn c s done
    → upcoming c s calls done ≡ d.request ∷ upcoming c d.state calls (suc done)
upcoming_drawn c s calls done h e =
    upcoming_next c s calls done h ∙ ap (λ (x : Drawn). x.request ∷ upcoming c x.state calls (suc done)) (sym e)

-- after the last call nothing comes
upcoming_none : (c s calls done : ℕ) → calls < done → upcoming c s calls done ≡ []
unfolding upcoming calls_drawn
upcoming_none c s calls zero h = absurd (never h)
  where
    never : calls < 0 → ⊥
    never p = omega arith
upcoming_none c s calls (suc done) h = let none : calls - done ≡ 0 = omega arith in rw none

told_next : (n : ℕ) (s : Store) (request : Request) (rest : List Request) {v : Verdict} {s' : Store} → Serves (served s request) v s'
    → told n s (request ∷ rest) ≡ (call_line request ++ output_line (n + 1) v) ++ told (n + 1) s' rest
unfolding told
told_next n s request rest e = rw (e.verdict, e.after, add-one n)

-- one call more
ahead_next : (l : Load) {w : Workload} (d : Drawn) (t scratch : List ℕ) {v : Verdict} {t' : List ℕ} {queue' : Queue} {scratch' : List ℕ}
    → l.asked ≡ Some w → l.done ≤ w.calls → d ≡ turn w.cells l.state l.done
    → Serves (served (store t l.queue scratch) d.request) v (store t' queue' scratch')
    → ahead l t scratch ≡ (call_line d.request ++ output_line (l.done + 1) v) ++ ahead (load_of l.asked d.state (l.done + 1) queue') t' scratch'
unfolding ahead
ahead_next l {w} d t scratch asked h ed e =
    rw (asked, upcoming_drawn w.cells l.state w.calls l.done h ed)
    (told_next l.done (store t l.queue scratch) d.request (upcoming w.cells d.state w.calls (suc l.done)) e ∙ rw (add-one l.done))

-- How far the calls have come: the sizes stand, the count is that of the calls, and what was written is the first of what was ahead.
pub record Going (table₀ scratch₀ out₀ : List ℕ) (l₀ : Load) (table scratch out : List ℕ) (l : Load) (count written : ℕ) : Type 0 where
  pub within : written ≤ length out
  pub nothing : l.done ≡ l₀.done → written ≡ 0
  pub grows : l₀.done ≤ l.done
  pub counted : count ≡ l.done
  pub asked : l.asked ≡ l₀.asked
  pub table_size : length table ≡ length table₀
  pub scratch_size : length scratch ≡ length scratch₀
  pub out_size : length out ≡ length out₀
  pub good : Good table₀ l₀.queue → Good table l.queue
  pub listing : Good table₀ l₀.queue → ahead l₀ table₀ scratch₀ ≡ take written out ++ ahead l table scratch

-- both lines end within their room
pub both_within : (request : Request) (n : ℕ) (v : Verdict) {out new : List ℕ} {written end : ℕ} → written + both_room ≤ length out → length new ≡ length out
    → Put out written (call_line request ++ output_line n v) new end → end ≤ length new
both_within request n v h l put =
    omega (arith, put.ends, length-append (call_line request) (output_line n v), line_length request, output_length n v)

-- the call served, and both lines written
pub next_listing : (l : Load) {w : Workload} {d : Drawn} (t scratch : List ℕ) {v : Verdict} {t' : List ℕ} {queue' : Queue}
    {scratch' out new before : List ℕ} {written end : ℕ}
    → l.asked ≡ Some w → l.done ≤ w.calls → d ≡ turn w.cells l.state l.done
    → Serves (served (store t l.queue scratch) d.request) v (store t' queue' scratch')
    → Put out written (call_line d.request ++ output_line (l.done + 1) v) new end
    → before ≡ take written out ++ ahead l t scratch
    → before ≡ take end new ++ ahead (load_of l.asked d.state (l.done + 1) queue') t' scratch'
next_listing l {w} {d} t scratch {v} {t'} {queue'} {scratch'} {out} {new} {before} {written} {end} asked h ed e put so_far =
    let lines = call_line d.request ++ output_line (l.done + 1) v in
    let rest = ahead (load_of l.asked d.state (l.done + 1) queue') t' scratch' in
    so_far
    ∙ ap (λ (x : List ℕ). take written out ++ x) (ahead_next l d t scratch asked h ed e)
    ∙ sym (append_assoc (take written out) lines rest)
    ∙ ap (λ (x : List ℕ). x ++ rest) (sym put.front)

module _ {table₀ scratch₀ out₀ : List ℕ} {l₀ : Load} {table scratch out : List ℕ} {l : Load} {count written : ℕ}
    (going : Going table₀ scratch₀ out₀ l₀ table scratch out l count written) where
  -- no room for a call
  pub stopped : length out - written < both_room → Writes l₀ table₀ scratch₀ l written table scratch out
  stopped low = record {
    within = going.within;
    asked = going.asked;
    some = λ h r. grown l₀.done l.done written (length out) going.nothing going.grows low r;
    good = going.good;
    listing = going.listing;
  }
    where
      grown : (from to written size : ℕ) → (to ≡ from → written ≡ 0) → from ≤ to → size - written < both_room → both_room ≤ size → from < to
      grown from to written size none up low r = go (eqb to from) refl
        where
          go : (t : Bool) → eqb to from ≡ t → from < to
          go true e = let w : written ≡ 0 = none (eqb-true to from e) in omega arith
          go false e = let other = eqb-false to from e in omega (arith, other)

  -- all calls made
  pub ended : calls_of l.asked < l.done → Writes l₀ table₀ scratch₀ l written table scratch out
  ended past = record {
    within = going.within;
    asked = going.asked;
    some = λ h r. omega (arith, ap calls_of going.asked);
    good = going.good;
    listing = going.listing;
  }

-- the one line of what is no workload
pub bad_told : (l : Load) (t scratch : List ℕ) {old out : List ℕ} {end : ℕ} → l.asked ≡ None → l.done ≡ 0 → both_room ≤ length old → length out ≡ length old
    → Put old 0 bad_line out end → Writes l t scratch (load_of l.asked l.state 1 l.queue) end t scratch out
unfolding ahead
bad_told l t scratch asked d r size put = record {
  within = omega (arith, put.ends);
  asked = refl;
  some = λ g h. omega arith;
  good = λ g. g;
  listing = λ g. rw (asked, d) (sym (append_none bad_line) ∙ ap (λ (x : List ℕ). x ++ []) (sym put.front));
}

-- once all is done nothing is ahead
pub nothing_ahead : (l : Load) (t scratch : List ℕ) → calls_of l.asked < l.done → ahead l t scratch ≡ []
unfolding ahead told
nothing_ahead l t scratch h = go l.asked h
  where
    bad : (done : ℕ) → 0 < done → bad_ahead done ≡ []
    bad zero p = absurd (never p)
      where
        never : 0 < 0 → ⊥
        never q = omega arith
    bad (suc done) p = refl

    go : (a : Option Workload) → calls_of a < l.done → lines_ahead a l t scratch ≡ []
    go (Some w) p = rw (upcoming_none w.cells l.state w.calls l.done p)
    go None p = bad l.done p
