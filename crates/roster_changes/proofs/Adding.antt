-- A new seat: an entry's cell, and a cell of the list in front.
use mathlib.Core.Path.{◌≡◌, refl, sym, ap, subst, ◌∙◌}
use mathlib.Core.Logic.{◌⊎◌, inl, inr, ◌≢◌, ⊎_elim}
use mathlib.Core.Bool.{Bool, true, false, cond}
use mathlib.Core.List.{List, [], ◌∷◌}
use Prim.Native.Nat.{ℕ, suc, ◌+◌, ◌*◌, ◌≤◌, ◌<◌}
use native.Mathlib.Omega.{arith}
use lib.Dec.{leb, eqb}
use lib.ListN.{length}
use borrow.Author.Tests.{leb-true, leb-false, lt-leb, eqb-true, eqb-false, eq-eqb}
use Rattle.machine.specs.declared.Queue.{Queue}
use Rattle.machine.specs.Range.{occurrences}
use Rattle.machine.specs.Words.{clip, is_cell}
use Rattle.machine.specs.Table.{in_use}
use Rattle.machine.specs.Calls.{cons, down, Store, store}
use Rattle.machine.proofs.Range.{tested, not_both, lt_or_ge, and_second, matching_same, matching_other}
use Rattle.machine.proofs.Words.{index_cell}
use Rattle.soundness.specs.Reliable.{Fields, fields}
use Rattle.resting.specs.Rests.{Rests, cells_in_use, At, After}
use Rattle.resting.specs.Settling.{Settling}
use Rattle.resting.proofs.CellsInUse.{in_use_within, held_used}
use Rattle.resting.proofs.Rows.{Storable, cell_storable, atom_storable, down_settled, cons_settled, cons_full}
use Rattle.resting.proofs.Runs.{runs_then, runs_settled}
use Rattle.readings.specs.Readings.{Entry, entry, missing, looked_up}
use Rattle.readings.specs.Calls.{seats, most_value, is_seat, RosterReply, value, refused}
use Rattle.roster_list.specs.Nodes.{Node, atom_of, cells_of, Leads, Apart}
use Rattle.roster_list.proofs.Held.{most_cells_lem, atom_joins}
use Rattle.roster_list.proofs.SeatLaws.{few_seats, proper_new}
use Rattle.roster_list.proofs.NodeLaws.{leads_beside, leads_added}
use Rattle.roster_list.proofs.CellLaws.{listed_in_use, pair_in_use, free_not_listed}
use Rattle.roster_changes.specs.Changes.{Rostered, added, Paired, Links, Adds}
use Rattle.roster_changes.proofs.Changing.{atoms_few, word_storable}

-- the word is the list's, and held
word_held_lem : (x w : ℕ) (j : ℕ) → w ≡ suc j → 0 < occurrences (suc j) (x ∷ w ∷ [])
unfolding occurrences
word_held_lem x w j e = omega (arith, matching_same w (suc j) 1 e)

same_store : {c : ℕ} {s₀ hs : List ℕ} {f : ℕ → Fields} {t : List ℕ} {q : Queue} {s t₁ : List ℕ} {q₁ : Queue} {s₁ : List ℕ} → store t₁ q₁ s₁ ≡ store t q s → After c s₀ hs f t q s
    → After c s₀ hs f t₁ q₁ s₁
same_store e a = rw (ap (λ (u : Store). u.table) e, ap (λ (u : Store). u.queue) e, ap (λ (u : Store). u.scratch) e) a

pub not_refused : {v n : ℕ} {A : Type 0} → value v ≡ refused n → A
not_refused e = absurd (let z : ◌≡◌ {A = ℕ} 0 1 = cc in omega arith)

-- The cell of the list.
module _ {t : List ℕ} {q : Queue} {s t₁ : List ℕ} {q₁ : Queue} {s₁ : List ℕ} {w pair first : ℕ} (g : Settling t q s (cons pair w) t₁ q₁ s₁ first) where
  module _ (c : ℕ) (s₀ : List ℕ) (es : List Entry) (seat reading : ℕ) (p : Paired c s₀ w es seat reading pair t q s) where
    abbrev f : ℕ → Fields
    f = p.fields

    abbrev ns : List Node
    ns = p.listed.nodes

    k : At c s₀ (pair ∷ w ∷ []) f t q s
    k = p.after.at

    -- one cell more is in use than the list's
    used : cells_in_use t ≡ suc (2 * length es)
    used =
        pair_in_use t q f w p.cell ns seat reading (subst (λ (x : ℕ). Rests t q (x ∷ w ∷ []) f) p.here k.rests) (rw k.cells p.listed.leads) (rw k.cells p.below) p.entry
        p.listed.apart p.new
        ∙ ap (λ (l : List Entry). suc (2 * length l)) p.listed.same

    few : length es ≤ seats
    few = few_seats es p.listed.proper

    pair_is_cell : is_cell c pair ≡ true
    pair_is_cell = rw p.here (index_cell c p.cell p.below)

    stored_pair : Storable c pair
    stored_pair = cell_storable c pair (most_cells_lem k) pair_is_cell

    stored_word : Storable c w
    stored_word = word_storable c f w ns (most_cells_lem k) p.listed.leads

    made : cells_in_use t < c
        → ((i : ℕ) × (first ≡ suc i) × (i < c) × (in_use t i ≡ false)) × After c s₀ (first ∷ []) (λ x. cond (eqb first x) (fields pair w) (f x)) t₁ q₁ s₁
    made free = cons_settled (omega arith) pair w stored_word stored_pair free (λ i l o. omega (arith, used, few)) k g

    full : cells_in_use t ≡ c → (first ≡ 0) × (store t₁ q₁ s₁ ≡ store t q s)
    full e = cons_full (omega arith) pair w stored_word stored_pair e k g

    within : cells_in_use t ≤ c
    within = omega (arith, in_use_within t, k.cells)

    module _ (i : ℕ) (l : i < c) (free : in_use t i ≡ false) where
      apart_pair : i ≢ p.cell
      unfolding occurrences
      apart_pair e =
          let h = held_used t q (pair ∷ w ∷ []) f k.rests p.cell (rw k.cells p.below) (omega (arith, matching_same pair (suc p.cell) 1 p.here)) in
          not_both h (rw e at free)

      unlisted : occurrences i (cells_of ns) ≡ 0
      unlisted = free_not_listed t q f w (pair ∷ w ∷ []) ns k.rests (rw k.cells p.listed.leads) (word_held_lem pair w) i free

      abbrev node : Node
      node = record { cell = i; pair = p.cell; entry = entry seat reading }

      apart_all : Apart (node ∷ ns)
      unfolding occurrences
      apart_all j =
          ⊎_elim
          (λ d. let e : i ≡ j = eqb-true i j d in
          omega (arith, matching_same i j 1 e, matching_other p.cell j 1 (λ z. apart_pair (e ∙ sym z)), rw e at unlisted))
          (λ d. ⊎_elim
          (λ b. let e : p.cell ≡ j = eqb-true p.cell j b in omega (arith, matching_other i j 1 (eqb-false i j d), matching_same p.cell j 1 e, rw e at p.new))
          (λ b. omega (arith, matching_other i j 1 (eqb-false i j d), matching_other p.cell j 1 (eqb-false p.cell j b), p.listed.apart j))
          (tested (eqb p.cell j)))
          (tested (eqb i j))

    -- the list with the new seat
    with_seat_lem : is_seat seat ≡ true → looked_up es seat ≡ missing → cells_in_use t < c → Rostered c s₀ first (entry seat reading ∷ es) t₁ q₁ s₁
    with_seat_lem ok none free = let z = made free in go z.0.0 z.0.1 z.0.2 z.0.3 z.1
      where
        go : (i : ℕ) → first ≡ suc i → i < c → in_use t i ≡ false → After c s₀ (first ∷ []) (λ x. cond (eqb first x) (fields pair w) (f x)) t₁ q₁ s₁
            → Rostered c s₀ first (entry seat reading ∷ es) t₁ q₁ s₁
        go i e l new a = record {
          fields = λ x. cond (eqb first x) (fields pair w) (f x);
          after = a;
          listed = record {
            nodes = node i l new ∷ ns;
            leads = subst (λ (y : ℕ). Leads c (λ x. cond (eqb y x) (fields pair w) (f x)) y (node i l new ∷ ns) 0) (sym e)
                (subst (λ (y : ℕ). Leads c (λ x. cond (eqb (suc i) x) (fields y w) (f x)) (suc i) (node i l new ∷ ns) 0) (sym p.here)
                (leads_added c f w ns (node i l new) p.listed.leads l p.below (apart_pair i l new) p.entry (unlisted i l new)));
            apart = apart_all i l new;
            same = ap (λ (es : List Entry). entry seat reading ∷ es) p.listed.same;
            proper = proper_new es seat reading none ok p.listed.proper;
          };
        }

  -- linked
  pub links_done : first ≢ 0 → Links t q s w pair (value 0) t₁ q₁ s₁ first
  links_done some = record {
    runs = runs_settled g;
    refusal = λ n e. not_refused e;
    shown = λ c s₀ es seat reading ok none p. go c s₀ es seat reading ok none p (leb (2 * length es + 2) c) refl;
  }
    where
      go : (c : ℕ) (s₀ : List ℕ) (es : List Entry) (seat reading : ℕ) → is_seat seat ≡ true → looked_up es seat ≡ missing → Paired c s₀ w es seat reading pair t q s
          → (b : Bool) → leb (2 * length es + 2) c ≡ b → (value 0 ≡ (added c es seat reading).reply) × Rostered c s₀ first (added c es seat reading).entries t₁ q₁ s₁
      go c s₀ es seat reading ok none p true e =
          let u = used c s₀ es seat reading p in
          rw e (refl, with_seat_lem c s₀ es seat reading p ok none (omega (arith, u, leb-true (2 * length es + 2) c e)))
      go c s₀ es seat reading ok none p false e =
          let u = used c s₀ es seat reading p in
          absurd (some (full c s₀ es seat reading p (omega (arith, u, leb-false (2 * length es + 2) c e, within c s₀ es seat reading p))).0)

  -- no cell was free for it, and the entry's cell is released
  pub links_refused : {t₂ : List ℕ} {q₂ : Queue} {s₂ : List ℕ} {x : ℕ} → first ≡ 0 → Settling t₁ q₁ s₁ (down pair 1) t₂ q₂ s₂ x → Links t q s w pair (refused 8) t₂ q₂ s₂ w
  links_refused {t₂} {q₂} {s₂} nil d = record {
    runs = runs_then (runs_settled g) (runs_settled d);
    refusal = λ n e. sym (let z : ◌≡◌ {A = ℕ} 8 n = cc in z);
    shown = λ c s₀ es seat reading ok none p. go c s₀ es seat reading p (leb (2 * length es + 2) c) refl;
  }
    where
      go : (c : ℕ) (s₀ : List ℕ) (es : List Entry) (seat reading : ℕ) → Paired c s₀ w es seat reading pair t q s
          → (b : Bool) → leb (2 * length es + 2) c ≡ b → (refused 8 ≡ (added c es seat reading).reply) × Rostered c s₀ w (added c es seat reading).entries t₂ q₂ s₂
      go c s₀ es seat reading p true e =
          let u = used c s₀ es seat reading p in
          absurd (omega (arith, nil, (made c s₀ es seat reading p (omega (arith, u, leb-true (2 * length es + 2) c e))).0.1))
      go c s₀ es seat reading p false e =
          let u = used c s₀ es seat reading p in
          let z = full c s₀ es seat reading p (omega (arith, u, leb-false (2 * length es + 2) c e, within c s₀ es seat reading p)) in
          rw e (
            refl,
            record {
              fields = p.fields;
              after = down_settled (omega arith) pair (pair_is_cell c s₀ es seat reading p) (same_store z.1 p.after).at d;
              listed = p.listed;
            },
          )

-- The entry's cell.
module _ {t : List ℕ} {q : Queue} {s t₁ : List ℕ} {q₁ : Queue} {s₁ : List ℕ} {w seat reading a b pair : ℕ} (atom-seat : seat ≤ most_value → a ≡ atom_of seat)
    (atom-reading : reading ≤ most_value → b ≡ atom_of reading) (g : Settling t q s (cons a b) t₁ q₁ s₁ pair) where
  module _ (c : ℕ) (s₀ : List ℕ) (es : List Entry) (ok : is_seat seat ≡ true) (low : reading < clip) (r : Rostered c s₀ w es t q s) where
    seat_low : seat ≤ seats
    unfolding is_seat
    seat_low = leb-true seat seats (and_second (leb 1 seat) (leb seat seats) ok)

    is_seat_lem : a ≡ atom_of seat
    is_seat_lem = atom-seat (omega (arith, seat_low))

    is_reading : b ≡ atom_of reading
    is_reading = atom-reading (omega (arith, low))

    held : After c s₀ (a ∷ b ∷ w ∷ []) r.fields t q s
    held = atom_joins seat is_seat_lem (atom_joins reading is_reading r.after)

    in_use_lem : cells_in_use t ≡ 2 * length es
    in_use_lem = listed_in_use t q r.fields w es r.after.at.rests (rw r.after.at.cells r.listed)

    inside : cells_in_use t ≤ c
    inside = omega (arith, in_use_within t, r.after.at.cells)

    stored_a : Storable c a
    stored_a = rw is_seat_lem (atom_storable c seat (omega (arith, seat_low)))

    stored_b : Storable c b
    stored_b = rw is_reading (atom_storable c reading low)

    made_pair : cells_in_use t < c
        → ((i : ℕ) × (pair ≡ suc i) × (i < c) × (in_use t i ≡ false)) × After c s₀ (pair ∷ w ∷ []) (λ x. cond (eqb pair x) (fields a b) (r.fields x)) t₁ q₁ s₁
    unfolding occurrences
    made_pair free =
        cons_settled (omega arith) a b stored_b stored_a free
        (rw (is_seat_lem, is_reading) (λ i l o. absurd (omega (arith, o, atoms_few seat r.after.at i l, atoms_few reading r.after.at i l)))) held.at g

    full_pair : cells_in_use t ≡ c → (pair ≡ 0) × (store t₁ q₁ s₁ ≡ store t q s)
    full_pair e = cons_full (omega arith) a b stored_b stored_a e held.at g

    paired : cells_in_use t < c → Paired c s₀ w es seat reading pair t₁ q₁ s₁
    unfolding occurrences
    paired free = let z = made_pair free in go z.0.0 z.0.1 z.0.2 z.0.3 z.1
      where
        unlisted_pair : (i : ℕ) → in_use t i ≡ false → occurrences i (cells_of r.listed.nodes) ≡ 0
        unlisted_pair i new =
            free_not_listed t q r.fields w (w ∷ []) r.listed.nodes r.after.at.rests (rw r.after.at.cells r.listed.leads)
            (λ j d. omega (arith, matching_same w (suc j) 1 d)) i new

        go : (i : ℕ) → pair ≡ suc i → i < c → in_use t i ≡ false → After c s₀ (pair ∷ w ∷ []) (λ x. cond (eqb pair x) (fields a b) (r.fields x)) t₁ q₁ s₁
            → Paired c s₀ w es seat reading pair t₁ q₁ s₁
        go i e l new h = record {
          fields = λ x. cond (eqb pair x) (fields a b) (r.fields x);
          after = h;
          listed = record {
            nodes = r.listed.nodes;
            leads = rw e (leads_beside c r.fields w r.listed.nodes 0 i a b r.listed.leads (unlisted_pair i new));
            apart = r.listed.apart;
            same = r.listed.same;
            proper = r.listed.proper;
          };
          cell = i;
          here = e;
          below = l;
          entry = rw (e, eq-eqb (suc i) (suc i) refl, ← is_seat_lem, ← is_reading) refl;
          new = unlisted_pair i new;
        }

  -- no cell was free for it
  pub adds_none : pair ≡ 0 → Adds t q s w seat reading (refused 8) t₁ q₁ s₁ w
  adds_none nil = record {
    runs = runs_settled g;
    refusal = λ n e. sym (let z : ◌≡◌ {A = ℕ} 8 n = cc in z);
    shown = λ c s₀ es ok low none r. go c s₀ es ok low r (lt_or_ge (cells_in_use t) c);
  }
    where
      go : (c : ℕ) (s₀ : List ℕ) (es : List Entry) → is_seat seat ≡ true → reading < clip → Rostered c s₀ w es t q s → (cells_in_use t < c) ⊎ (c ≤ cells_in_use t)
          → (refused 8 ≡ (added c es seat reading).reply) × Rostered c s₀ w (added c es seat reading).entries t₁ q₁ s₁
      go c s₀ es ok low r (inl free) = absurd (omega (arith, nil, (made_pair c s₀ es ok low r free).0.1))
      go c s₀ es ok low r (inr most) =
          let e : cells_in_use t ≡ c = omega (arith, inside c s₀ es ok low r) in
          let z = full_pair c s₀ es ok low r e in
          rw (lt-leb (2 * length es + 2) c (omega (arith, in_use_lem c s₀ es ok low r, e))) (refl, record { fields = r.fields; after = same_store z.1 r.after; listed = r.listed })

  -- one was, and the cell of the list comes next
  pub adds_then : {reply : RosterReply} {t₂ : List ℕ} {q₂ : Queue} {s₂ : List ℕ} {w' : ℕ} → pair ≢ 0 → Links t₁ q₁ s₁ w pair reply t₂ q₂ s₂ w'
      → Adds t q s w seat reading reply t₂ q₂ s₂ w'
  adds_then {reply} {t₂} {q₂} {s₂} {w'} some l = record {
    runs = runs_then (runs_settled g) l.runs;
    refusal = l.refusal;
    shown = λ c s₀ es ok low none r. go c s₀ es ok low none r (lt_or_ge (cells_in_use t) c);
  }
    where
      go : (c : ℕ) (s₀ : List ℕ) (es : List Entry) → is_seat seat ≡ true → reading < clip → looked_up es seat ≡ missing → Rostered c s₀ w es t q s → (cells_in_use t < c) ⊎ (c ≤ cells_in_use t)
          → (reply ≡ (added c es seat reading).reply) × Rostered c s₀ w' (added c es seat reading).entries t₂ q₂ s₂
      go c s₀ es ok low none r (inl free) = l.shown c s₀ es seat reading ok none (paired c s₀ es ok low r free)
      go c s₀ es ok low none r (inr most) = absurd (some (full_pair c s₀ es ok low r (omega (arith, inside c s₀ es ok low r))).0)
