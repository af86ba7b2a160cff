-- Walks along a list of nodes: one law for a turn, whatever is known of the nodes passed.
use Rattle.std.specs.Prelude.{Option, Some, None}
use mathlib.Core.Path.{◌≡◌, refl, sym, ap, ◌∙◌}
use mathlib.Core.Logic.{◌≢◌}
use mathlib.Core.Bool.{cond}
use mathlib.Core.List.{List, [], ◌∷◌, ◌++◌, append_assoc, append-nil}
use Prim.Native.Nat.{ℕ, ◌+◌, ◌≤◌, ◌<◌}
use native.Mathlib.Omega.{arith}
use lib.Dec.{leb}
use lib.ListN.{length, length-append}
use Rattle.machine.specs.declared.Queue.{Queue}
use Rattle.machine.specs.Calls.{cdr, up, audit, Reply, store}
use Rattle.machine.specs.Promise.{Promise}
use Rattle.soundness.specs.Reliable.{Fields}
use Rattle.resting.specs.Rests.{At, After}
use Rattle.resting.specs.Runs.{Runs}
use Rattle.resting.specs.Settling.{Settling}
use Rattle.resting.proofs.Rows.{cdr_settled, up_settled, audit_after}
use Rattle.resting.proofs.Runs.{runs_none, runs_then, runs_settled, runs_audited}
use Rattle.readings.specs.Readings.{counted}
use Rattle.readings.specs.Calls.{seats}
use Rattle.roster_list.specs.declared.walk.Place.{Place}
use Rattle.roster_list.specs.Nodes.{Node, atom_of, entries_of, NodeAt, Leads}
use Rattle.roster_list.specs.Walks.{Few, Turns, Weighs, Walked, NoneOf, Sought, Seeks, Finds, Tallies, Counts, Passes}
use Rattle.roster_list.proofs.Held.{nil_drops}
use Rattle.roster_list.proofs.Turning.{node_cell}

leads_snoc : (c : ℕ) (f : ℕ → Fields) (w : ℕ) (xs : List Node) (n : Node) (v : ℕ) → Leads c f w xs v → NodeAt c f v n → Leads c f w (xs ++ (n ∷ [])) (f v).right
leads_snoc c f w [] n v h e = (rw h e, ap (λ (x : ℕ). (f x).right) h)
leads_snoc c f w (x ∷ xs) n v h e = (h.0, leads_snoc c f (f w).right xs n v h.1 e)

none_snoc : (key : ℕ) (xs : List Node) (n : Node) → NoneOf key xs → (atom_of n.entry.seat ≢ key) → NoneOf key (xs ++ (n ∷ []))
none_snoc key [] n h e = (e, tt)
none_snoc key (x ∷ xs) n h e = (h.0, none_snoc key xs n h.1 e)

-- of the nodes passed by a count
abbrev pub CountIs : ℕ → ℕ → List Node → Type 0
CountIs threshold count xs = count ≡ counted (entries_of xs) threshold

count_snoc : (threshold : ℕ) (xs : List Node) (n : Node) → counted (entries_of (xs ++ (n ∷ []))) threshold ≡ counted (entries_of xs) threshold + cond (leb threshold n.entry.reading) 1 0
unfolding counted
count_snoc threshold [] n = omega arith
count_snoc threshold (x ∷ xs) n = omega (arith, count_snoc threshold xs n)

-- nothing need be known of the nodes passed
abbrev pub Anything : List Node → Type 0
Anything xs = Unit {0}

module _ {P : List Node → Type 0} {c : ℕ} {s₀ hs : List ℕ} {f : ℕ → Fields} {from : ℕ} {ns : List Node} {end : ℕ} {t : List ℕ} {q : Queue} {s : List ℕ} {at i : ℕ}
    (w : Walked P c s₀ hs f from ns end t q s at i) where
  -- the walk has come to the end, or it is at a node
  ahead : {A : Type 0} → (w.ys ≡ [] → at ≡ end → A) → ((n : Node) (ys : List Node) → w.ys ≡ n ∷ ys → NodeAt c f at n → Leads c f (f at).right ys end → A) → A
  ahead {A} done more = go w.ys refl w.on
    where
      go : (ys : List Node) → w.ys ≡ ys → Leads c f at ys end → A
      go [] e o = done e o
      go (n ∷ ys) e o = more n ys e o.0 o.1

  -- one node further
  on_by : {R : List Node → Type 0} {t' : List ℕ} {q' : Queue} {s' : List ℕ} {at' : ℕ} (n : Node) (ys : List Node) → w.ys ≡ n ∷ ys → NodeAt c f at n → Leads c f (f at).right ys end
      → at' ≡ (f at).right → R (w.xs ++ (n ∷ [])) → After c s₀ (at' ∷ hs) f t' q' s' → Walked R c s₀ hs f from ns end t' q' s' at' (i + 1)
  on_by n ys e node on next r a = record {
    xs = w.xs ++ (n ∷ []);
    ys = ys;
    parts = w.parts ∙ ap (λ (l : List Node). w.xs ++ l) e ∙ sym (append_assoc w.xs (n ∷ []) ys);
    passed = length-append w.xs (n ∷ []) ∙ ap (λ (m : ℕ). m + 1) w.passed;
    known = r;
    to = rw next (leads_snoc c f from w.xs n at w.to node);
    on = rw next on;
    after = a;
  }

  -- after as many turns as there are nodes none is ahead
  all_passed : (k : ℕ) → k ≤ i → length ns ≤ k → (n : Node) (ys : List Node) → w.ys ≡ n ∷ ys → ⊥
  all_passed k l most n ys d = omega (arith, w.passed, ap length w.parts, length-append w.xs w.ys, ap length d)

-- a list that begins at nil is empty
empty_list : {A : Type 0} (c : ℕ) (f : ℕ → Fields) (ns : List Node) → Leads c f 0 ns 0 → (ns ≡ [] → A) → A
empty_list c f [] h g = g refl
empty_list c f (n ∷ ns) h g = absurd (omega (arith, h.0.here))

-- the roster's word raised
raised_word : {c : ℕ} {s₀ : List ℕ} {f : ℕ → Fields} (ns : List Node) {t : List ℕ} {q : Queue} {s t₁ : List ℕ} {q₁ : Queue} {s₁ : List ℕ} {word v : ℕ} → word ≢ 0
    → At c s₀ (word ∷ []) f t q s → Leads c f word ns 0 → Settling t q s (up word 1) t₁ q₁ s₁ v → After c s₀ (word ∷ word ∷ []) f t₁ q₁ s₁
raised_word [] some k leads a = absurd (some leads)
raised_word {c} {f = f} (n ∷ ns) {word = word} some k leads a = up_settled (omega arith) word (node_cell c f word n leads.0) k a

-- What a loop keeps, from its first store to the one where it is, on nodes and their end that are as `Along` says.
pub record Walking (P : List Node → Type 0) (Along : List Node → ℕ → Type 0) (t₀ : List ℕ) (q₀ : Queue) (s₁ : List ℕ) (from : ℕ) (t : List ℕ) (q : Queue) (s : List ℕ) (at i : ℕ) : Type 0 where
  pub runs : Runs (store t₀ q₀ s₁) (store t q s)
  pub shown : (c : ℕ) (s₀ hs : List ℕ) (f : ℕ → Fields) (ns : List Node) (end : ℕ) → Few hs → After c s₀ (from ∷ hs) f t₀ q₀ s₁ → Leads c f from ns end → Along ns end
      → Walked P c s₀ hs f from ns end t q s at i

-- to nil, or past k nodes
abbrev pub ToNil : List Node → ℕ → Type 0
ToNil ns end = end ≡ 0

abbrev pub Past : ℕ → List Node → ℕ → Type 0
Past k ns end = length ns ≡ k

pub walk_begins : {P : List Node → Type 0} {Along : List Node → ℕ → Type 0} (t : List ℕ) (q : Queue) (s : List ℕ) (from : ℕ) → P [] → Walking P Along t q s from t q s from 0
walk_begins t q s from p = record {
  runs = runs_none (store t q s);
  shown = λ c s₀ hs f ns end few a leads along. record { xs = []; ys = ns; parts = refl; passed = refl; known = p; to = refl; on = leads; after = a };
}

-- Searching.
module _ {t₀ : List ℕ} {q₀ : Queue} {s₁ : List ℕ} {from key : ℕ} {t : List ℕ} {q : Queue} {s : List ℕ} {at i : ℕ} (k : Walking (NoneOf key) ToNil t₀ q₀ s₁ from t q s at i) where
  at_end : (c : ℕ) (s₀ hs : List ℕ) (f : ℕ → Fields) (ns : List Node) (w : Walked (NoneOf key) c s₀ hs f from ns 0 t q s at i) → w.ys ≡ [] → at ≡ 0
      → Sought key c s₀ hs f from ns t q s None
  at_end c s₀ hs f ns w e o =
      let all : ns ≡ w.xs = w.parts ∙ ap (λ (l : List Node). w.xs ++ l) e ∙ append-nil w.xs in
      (rw all w.known, nil_drops (rw o at w.after))

  -- at nil it ends
  pub seek_nil : at ≡ 0 → Seeks t₀ q₀ s₁ from key t q s None
  seek_nil e = record {
    runs = k.runs;
    shown = λ c s₀ hs f ns few a leads most.
        let w = k.shown c s₀ hs f ns 0 few a leads refl in
        ahead w (at_end c s₀ hs f ns w) (λ n ys d node on. absurd (omega (arith, node.here)));
  }

  -- and after as many turns as there can be seats
  pub seek_done : seats ≤ i → Seeks t₀ q₀ s₁ from key t q s None
  seek_done l = record {
    runs = k.runs;
    shown = λ c s₀ hs f ns few a leads most.
        let w = k.shown c s₀ hs f ns 0 few a leads refl in
        ahead w (at_end c s₀ hs f ns w) (λ n ys d node on. absurd (all_passed w seats l most n ys d));
  }

  module _ {t' : List ℕ} {q' : Queue} {s' : List ℕ} (some : at ≢ 0) where
    pub seek_found : Turns t q s at key t' q' s' None → Seeks t₀ q₀ s₁ from key t' q' s' (Some (record { at = at; before = i }))
    seek_found g = record {
      runs = runs_then k.runs g.runs;
      shown = λ c s₀ hs f ns few a leads most.
          let w = k.shown c s₀ hs f ns 0 few a leads refl in
          ahead w (λ e o. absurd (some o)) (λ n ys d node on.
          let z = g.shown c s₀ hs f n few node w.after.at in
          let v : Walked (NoneOf key) c s₀ hs f from ns 0 t' q' s' at i = record {
            xs = w.xs;
            ys = n ∷ ys;
            parts = w.parts ∙ ap (λ (l : List Node). w.xs ++ l) d;
            passed = w.passed;
            known = w.known;
            to = w.to;
            on = (node, on);
            after = z.1;
          } in
          (v, z.0));
    }

    pub seek_again : {at' : ℕ} → Turns t q s at key t' q' s' (Some at') → Walking (NoneOf key) ToNil t₀ q₀ s₁ from t' q' s' at' (i + 1)
    seek_again g = record {
      runs = runs_then k.runs g.runs;
      shown = λ c s₀ hs f ns end few a leads along.
          let w = k.shown c s₀ hs f ns end few a leads along in
          ahead w (λ e o. absurd (some (o ∙ along))) (λ n ys d node on.
          let z = g.shown c s₀ hs f n few node w.after.at in
          on_by w n ys d node on z.1 (none_snoc key w.xs n w.known z.0) z.2);
    }

-- From the roster's word: a raise, and a search.
pub find_from : {t : List ℕ} {q : Queue} {s t₁ : List ℕ} {q₁ : Queue} {s₁ t₂ : List ℕ} {q₂ : Queue} {s₂ : List ℕ} {word key v : ℕ} {place : Option Place} → word ≢ 0
    → Settling t q s (up word 1) t₁ q₁ s₁ v → Seeks t₁ q₁ s₁ word key t₂ q₂ s₂ place → Finds t q s word key t₂ q₂ s₂ place
find_from {word = word} some a g = record {
  runs = runs_then (runs_settled a) g.runs;
  shown = λ c s₀ f ns k leads most. g.shown c s₀ (word ∷ []) f ns (omega arith) (raised_word ns some k leads a) leads most;
}

-- An empty roster: there is nothing to find.
pub find_none : {t : List ℕ} {q : Queue} {s : List ℕ} {r : Reply} {s' : List ℕ} {word key : ℕ} → word ≡ 0 → Promise (store t q s) audit r (store t q s')
    → Finds t q s word key t q s' None
find_none {word = word} e p = record {
  runs = runs_audited p;
  shown = λ c s₀ f ns k leads most. empty_list c f ns (rw e at leads) (λ d. (rw d tt, audit_after k p));
}

-- Counting.
pub count_begins : (t : List ℕ) (q : Queue) (s : List ℕ) (from threshold : ℕ) → Walking (CountIs threshold 0) ToNil t q s from t q s from 0
unfolding counted
count_begins t q s from threshold = walk_begins t q s from refl

module _ {t₀ : List ℕ} {q₀ : Queue} {s₁ : List ℕ} {from : ℕ} (threshold count : ℕ) {t : List ℕ} {q : Queue} {s : List ℕ} {at i : ℕ}
    (k : Walking (CountIs threshold count) ToNil t₀ q₀ s₁ from t q s at i) where
  all_counted : (c : ℕ) (s₀ hs : List ℕ) (f : ℕ → Fields) (ns : List Node) (w : Walked (CountIs threshold count) c s₀ hs f from ns 0 t q s at i) → w.ys ≡ [] → at ≡ 0
      → (count ≡ counted (entries_of ns) threshold) × After c s₀ hs f t q s
  all_counted c s₀ hs f ns w e o =
      let all : ns ≡ w.xs = w.parts ∙ ap (λ (l : List Node). w.xs ++ l) e ∙ append-nil w.xs in
      (rw all w.known, nil_drops (rw o at w.after))

  pub tally_nil : at ≡ 0 → Tallies t₀ q₀ s₁ from threshold t q s count
  tally_nil e = record {
    runs = k.runs;
    shown = λ c s₀ hs f ns few a leads most.
        let w = k.shown c s₀ hs f ns 0 few a leads refl in
        ahead w (all_counted c s₀ hs f ns w) (λ n ys d node on. absurd (omega (arith, node.here)));
  }

  pub tally_done : seats ≤ i → Tallies t₀ q₀ s₁ from threshold t q s count
  tally_done l = record {
    runs = k.runs;
    shown = λ c s₀ hs f ns few a leads most.
        let w = k.shown c s₀ hs f ns 0 few a leads refl in
        ahead w (all_counted c s₀ hs f ns w) (λ n ys d node on. absurd (all_passed w seats l most n ys d));
  }

  pub tally_again : {t' : List ℕ} {q' : Queue} {s' : List ℕ} {at' weight : ℕ} → at ≢ 0 → Weighs t q s at threshold t' q' s' at' weight
      → Walking (CountIs threshold (count + weight)) ToNil t₀ q₀ s₁ from t' q' s' at' (i + 1)
  tally_again {weight = weight} some g = record {
    runs = runs_then k.runs g.runs;
    shown = λ c s₀ hs f ns end few a leads along.
        let w = k.shown c s₀ hs f ns end few a leads along in
        ahead w (λ e o. absurd (some (o ∙ along))) (λ n ys d node on.
        let z = g.shown c s₀ hs f n few node w.after.at in
        let more : count + weight ≡ counted (entries_of (w.xs ++ (n ∷ []))) threshold = omega (arith, w.known, z.0, count_snoc threshold w.xs n) in
        on_by w n ys d node on z.1 more z.2);
  }

pub count_from : {t : List ℕ} {q : Queue} {s t₁ : List ℕ} {q₁ : Queue} {s₁ t₂ : List ℕ} {q₂ : Queue} {s₂ : List ℕ} {word threshold v count : ℕ} → word ≢ 0
    → Settling t q s (up word 1) t₁ q₁ s₁ v → Tallies t₁ q₁ s₁ word threshold t₂ q₂ s₂ count → Counts t q s word threshold t₂ q₂ s₂ count
count_from {word = word} some a g = record {
  runs = runs_then (runs_settled a) g.runs;
  shown = λ c s₀ f ns k leads most. g.shown c s₀ (word ∷ []) f ns (omega arith) (raised_word ns some k leads a) leads most;
}

pub count_none : {t : List ℕ} {q : Queue} {s : List ℕ} {r : Reply} {s' : List ℕ} {word threshold : ℕ} → word ≡ 0 → Promise (store t q s) audit r (store t q s')
    → Counts t q s word threshold t q s' 0
unfolding counted
count_none {word = word} e p = record {
  runs = runs_audited p;
  shown = λ c s₀ f ns k leads most. empty_list c f ns (rw e at leads) (λ d. (rw d refl, audit_after k p));
}

-- Passing.
module _ {t₀ : List ℕ} {q₀ : Queue} {s₁ : List ℕ} {from m : ℕ} {t : List ℕ} {q : Queue} {s : List ℕ} {at i : ℕ} (k : Walking Anything (Past m) t₀ q₀ s₁ from t q s at i) where
  pub pass_done : i ≡ m → Passes t₀ q₀ s₁ from m t q s at
  pass_done e = record {
    runs = k.runs;
    shown = λ c s₀ hs f ns end few a leads long.
        let w = k.shown c s₀ hs f ns end few a leads long in
        ahead w (λ d o. (o, rw o at w.after)) (λ n ys d node on. absurd (all_passed w m (omega arith) (omega (arith, long)) n ys d));
  }

  pub pass_again : {t' : List ℕ} {q' : Queue} {s' : List ℕ} {at' : ℕ} → i < m → Settling t q s (cdr at) t' q' s' at'
      → Walking Anything (Past m) t₀ q₀ s₁ from t' q' s' at' (i + 1)
  pass_again l g = record {
    runs = runs_then k.runs (runs_settled g);
    shown = λ c s₀ hs f ns end few a leads long.
        let w = k.shown c s₀ hs f ns end few a leads long in
        ahead w (λ d o. absurd (omega (arith, long, w.passed, ap length w.parts, length-append w.xs w.ys, ap length d))) (λ n ys d node on.
        let z = cdr_settled (omega arith) at (node_cell c f at n node) w.after.at g in
        on_by w n ys d node on z.0 tt z.1);
  }
