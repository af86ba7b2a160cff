-- Runs of calls one after the other.
use mathlib.Core.Path.{◌≡◌, refl, ap, ◌∙◌}
use mathlib.Core.List.{List, [], ◌∷◌, ◌++◌}
use Prim.Native.Nat.{ℕ}
use Rattle.machine.specs.declared.Queue.{Queue}
use Rattle.machine.specs.Calls.{Call, fresh, audit, RowCall, Reply, value, Store, store}
use Rattle.machine.specs.Promise.{Promise}
use Rattle.machine.proofs.Kept.{unmoved, untouched_trans}
use Rattle.soundness.specs.Demand3.{Link, Joined, Begun, table_after, queue_after}
use Rattle.resting.specs.Settling.{Settling}
use Rattle.resting.specs.Runs.{Led, Runs}

table_both : (t : List ℕ) (ls ms : List Link) → table_after t (ls ++ ms) ≡ table_after (table_after t ls) ms
table_both t [] ms = refl
table_both t (l ∷ ls) ms = table_both l.after.table ls ms

queue_both : (q : Queue) (ls ms : List Link) → queue_after q (ls ++ ms) ≡ queue_after (queue_after q ls) ms
queue_both q [] ms = refl
queue_both q (l ∷ ls) ms = queue_both l.after.queue ls ms

joined_both : (t : List ℕ) (q : Queue) (ls ms : List Link) → Joined t q ls → Joined (table_after t ls) (queue_after q ls) ms → Joined t q (ls ++ ms)
joined_both t q [] ms a b = b
joined_both t q (l ∷ ls) ms a b = (a.0, joined_both l.after.table l.after.queue ls ms a.1 b)

led_none : (t : List ℕ) (q : Queue) → Led t q t q
led_none t q = record { links = []; joined = tt; table = refl; queue = refl }

pub led_one : {t : List ℕ} {q : Queue} {s : List ℕ} {call : Call} {r : Reply} {s' : Store} → Promise (store t q s) call r s' → Led t q s'.table s'.queue
led_one {s = s} {call} {r} {s'} p = record { links = record { call = call; scratch = s; reply = r; after = s' } ∷ []; joined = (p, tt); table = refl; queue = refl }

pub led_then : {t : List ℕ} {q : Queue} {t₁ : List ℕ} {q₁ : Queue} {t₂ : List ℕ} {q₂ : Queue} → Led t q t₁ q₁ → Led t₁ q₁ t₂ q₂ → Led t q t₂ q₂
led_then {t} {q} x y = record {
  links = x.links ++ y.links;
  joined = joined_both t q x.links y.links x.joined (rw (x.table, x.queue) y.joined);
  table = table_both t x.links y.links ∙ ap (λ (u : List ℕ). table_after u y.links) x.table ∙ y.table;
  queue = queue_both q x.links y.links ∙ ap (λ (u : Queue). queue_after u y.links) x.queue ∙ y.queue;
}

-- it begins with an accepted fresh if the first part does
pub begun_fresh : {t : List ℕ} {q : Queue} {s : List ℕ} {c v : ℕ} {s' : Store} (p : Promise (store t q s) (fresh c) (value v) s') → Begun (led_one p).links
unfolding led_one
begun_fresh {c = c} {v} p = (c, v, refl, refl)

begun_both : (ls ms : List Link) → Begun ls → Begun (ls ++ ms)
begun_both [] ms b = elim b [ ]
begun_both (l ∷ ls) ms b = b

pub begun_then : {t : List ℕ} {q : Queue} {t₁ : List ℕ} {q₁ : Queue} {t₂ : List ℕ} {q₂ : Queue} (x : Led t q t₁ q₁) (y : Led t₁ q₁ t₂ q₂) → Begun x.links
    → Begun (led_then x y).links
unfolding led_then
begun_then x y b = begun_both x.links y.links b

pub runs_none : (s : Store) → Runs s s
runs_none s = record { bounded = unmoved s; led = led_none s.table s.queue }

pub runs_then : {a b c : Store} → Runs a b → Runs b c → Runs a c
runs_then {a} {b} {c} x y = record { bounded = untouched_trans a b c x.bounded y.bounded; led = led_then x.led y.led }

-- a settled call is two links; the row call is lent no scratch
pub runs_settled : {t : List ℕ} {q : Queue} {s : List ℕ} {r : RowCall} {t' : List ℕ} {q' : Queue} {s' : List ℕ} {w : ℕ}
    → Settling t q s r t' q' s' w → Runs (store t q s) (store t' q' s')
runs_settled {t} {q} {s} {t' = t'} {q'} {s'} g =
    let b = g.row.bounded in record {
      bounded = untouched_trans (store t q s) (store g.t₁ g.q₁ s) (store t' q' s')
          (record { same_length = b.same_length; same_capacity = b.same_capacity; past_cells = b.past_cells; scratch_length = refl; past_scratch = refl }) g.step.bounded;
      led = led_then (led_one g.row) (led_one g.step);
    }

-- an audit is one
pub runs_audited : {t : List ℕ} {q : Queue} {s : List ℕ} {r : Reply} {s' : List ℕ} → Promise (store t q s) audit r (store t q s') → Runs (store t q s) (store t q s')
runs_audited g = record { bounded = g.bounded; led = led_one g }
