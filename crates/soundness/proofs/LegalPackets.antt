-- Words that fields of cells in use and waiting packets may hold, and what a legal packet gives.
use mathlib.Core.Path.{◌≡◌, refl}
use mathlib.Core.Logic.{⊎_elim}
use mathlib.Core.Bool.{Bool, true, false, cond, ◌&&◌, ◌||◌, false≢true}
use mathlib.Core.List.{List, [], ◌∷◌}
use Prim.Native.Nat.{ℕ, suc, pred, ◌≤◌, ◌<◌}
use native.Mathlib.Omega.{arith}
use lib.Dec.{eqb, leb}
use borrow.Author.Tests.{eqb-true, eq-eqb, leb-true}
use Rattle.machine.specs.Words.{first_atom, largest_word, is_nil, is_cell, is_atom, is_legal, most_cells}
use Rattle.machine.specs.Table.{left, right, capacity, in_use}
use Rattle.machine.specs.Queue.{Packet}
use Rattle.machine.specs.Packets.{Kind, reads, makes, replaces, raises, lowers, unknown, kind_of, names_of, names, contains, is_named}
use Rattle.machine.specs.Audit.{field_sound, words_of_kind, packet_legal, names_in_use, packets_legal}
use Rattle.machine.proofs.Range.{or_true, or_left, or_right, and_both, and_first, and_second}
use Rattle.machine.proofs.Lists.{every_of_at, every_of_all}
use Rattle.machine.proofs.Words.{cell_index, cell_number_lem}
use Rattle.soundness.proofs.Views.{All, Written, WrittenOf, WrittenBelow, Detached, DetachedOf}

-- nil, an atom, or a cell in use
pub record Fit (t : List ℕ) (w : ℕ) : Type 0 where
  pub legal : is_legal (capacity t) w ≡ true
  pub used : (i : ℕ) → i < capacity t → w ≡ suc i → in_use t i ≡ true

pub fit_nil : (t : List ℕ) → Fit t 0
unfolding is_legal is_nil
fit_nil t = record { legal = or_left (is_atom 0) (or_left (is_cell (capacity t) 0) refl); used = λ i l e. absurd (omega arith) }

-- C is below every atom
atom_no_cell : (c w : ℕ) → c ≤ most_cells → is_atom w ≡ true → (i : ℕ) → i < c → w ≡ suc i → ⊥
unfolding is_atom
atom_no_cell c w m h i l e = omega (arith, leb-true first_atom w (and_first (leb first_atom w) (leb w largest_word) h))

pub field_fit : (t : List ℕ) (w : ℕ) → capacity t ≤ most_cells → field_sound t w ≡ true → Fit t w
unfolding field_sound is_legal
field_fit t w m h =
    ⊎_elim (λ e. ⊎_elim nil atom (or_true (is_nil w) (is_atom w) e))
    (λ e. number (and_first (is_cell (capacity t) w) (in_use t (pred w)) e) (and_second (is_cell (capacity t) w) (in_use t (pred w)) e))
    (or_true (is_nil w || is_atom w) (is_cell (capacity t) w && in_use t (pred w)) h)
  where
    zero_word : is_nil w ≡ true → w ≡ 0
    zero_word e = eqb-true w 0 (unfold is_nil in e)

    nil : is_nil w ≡ true → Fit t w
    nil e = record { legal = or_left (is_atom w) (or_left (is_cell (capacity t) w) e); used = λ i l d. absurd (omega (arith, zero_word e)) }

    atom : is_atom w ≡ true → Fit t w
    atom e = record { legal = or_right (is_nil w || is_cell (capacity t) w) e; used = λ i l d. absurd (atom_no_cell (capacity t) w m e i l d) }

    number : is_cell (capacity t) w ≡ true → in_use t (pred w) ≡ true → Fit t w
    number e u = record { legal = or_left (is_atom w) (or_right (is_nil w) e); used = λ i l d. let p : pred w ≡ i = omega arith in rw p at u }

pub fit_field : (t : List ℕ) (w : ℕ) → Fit t w → field_sound t w ≡ true
unfolding field_sound is_legal
fit_field t w f =
    ⊎_elim (λ e. ⊎_elim (λ n. or_left (is_cell (capacity t) w && in_use t (pred w)) (or_left (is_atom w) n)) number (or_true (is_nil w) (is_cell (capacity t) w) e))
    (λ e. or_left (is_cell (capacity t) w && in_use t (pred w)) (or_right (is_nil w) e)) (or_true (is_nil w || is_cell (capacity t) w) (is_atom w) f.legal)
  where
    number : is_cell (capacity t) w ≡ true → is_nil w || is_atom w || (is_cell (capacity t) w && in_use t (pred w)) ≡ true
    number e = or_right (is_nil w || is_atom w) (and_both e (f.used (pred w) (cell_index (capacity t) w e) (cell_number_lem (capacity t) w e)))

-- cells in use stay so in a table of as many cells
pub fit_grows : (t u : List ℕ) (w : ℕ) → capacity u ≡ capacity t → ((i : ℕ) → i < capacity t → in_use t i ≡ true → in_use u i ≡ true) → Fit t w → Fit u w
fit_grows t u w c g f = record { legal = rw c f.legal; used = λ i l e. g i (rw c at l) (f.used i (rw c at l) e) }

-- a cell is a legal word
pub cell_legal : (c w : ℕ) → is_cell c w ≡ true → is_legal c w ≡ true
unfolding is_legal
cell_legal c w h = or_left (is_atom w) (or_right (is_nil w) h)

-- a cell that is fit is in use
pub cell_used : (t : List ℕ) (x : ℕ) → is_cell (capacity t) x ≡ true → Fit t x → in_use t (pred x) ≡ true
cell_used t x h f = f.used (pred x) (cell_index (capacity t) x h) (cell_number_lem (capacity t) x h)

-- S3's demands on one packet
pub record LegalPacket (t : List ℕ) (p : Packet) : Type 0 where
  pub words : packet_legal t p ≡ true
  pub names : (w : ℕ) → contains (names p) w ≡ true → Fit t w

pub packets_legal_lem : (t : List ℕ) (ps : List Packet) → capacity t ≤ most_cells → packets_legal t ps ≡ true → All (LegalPacket t) ps
unfolding packets_legal names_in_use
packets_legal_lem t [] m h = tt
packets_legal_lem t (p ∷ ps) m h =
    let first = and_first (packet_legal t p && names_in_use t p) (packets_legal t ps) h in (
      record {
        words = and_first (packet_legal t p) (names_in_use t p) first;
        names = λ w c. field_fit t w m (every_of_at (names p) (field_sound t) w (and_second (packet_legal t p) (names_in_use t p) first) c);
      },
      packets_legal_lem t ps m (and_second (packet_legal t p && names_in_use t p) (packets_legal t ps) h),
    )

pub legal_packets : (t : List ℕ) (ps : List Packet) → All (LegalPacket t) ps → packets_legal t ps ≡ true
unfolding packets_legal names_in_use
legal_packets t [] h = refl
legal_packets t (p ∷ ps) h =
    and_both (and_both h.0.words (every_of_all (names p) (field_sound t) (λ w c. fit_field t w (h.0.names w c)))) (legal_packets t ps h.1)

pub legal_grows : (t u : List ℕ) (p : Packet) → capacity u ≡ capacity t → ((i : ℕ) → i < capacity t → in_use t i ≡ true → in_use u i ≡ true)
    → LegalPacket t p → LegalPacket u p
unfolding packet_legal
legal_grows t u p c g h = record { words = rw c h.words; names = λ w n. fit_grows t u w c g (h.names w n) }

-- what is said of one word or of three is said of each that a packet of them names
pub names_one : (P : ℕ → Type 0) (a : ℕ) → P a → (w : ℕ) → contains (a ∷ []) w ≡ true → P w
unfolding contains
names_one P a h w c = ⊎_elim (λ e. rw (eqb-true a w e) at h) (λ e. absurd (false≢true e)) (or_true (eqb a w) false c)

pub names_three : (P : ℕ → Type 0) (a b c : ℕ) → P a → P b → P c → (w : ℕ) → contains (a ∷ b ∷ c ∷ []) w ≡ true → P w
unfolding contains
names_three P a b c ha hb hc w h =
    ⊎_elim (λ e. rw (eqb-true a w e) at ha)
    (λ e. ⊎_elim (λ d. rw (eqb-true b w d) at hb) (λ d. names_one P c hc w d) (or_true (eqb b w) (contains (c ∷ []) w) e))
    (or_true (eqb a w) (contains (b ∷ c ∷ []) w) h)

-- a waiting packet names only fit words
pub named_fit : (t : List ℕ) (ps : List Packet) → All (LegalPacket t) ps → (w : ℕ) → is_named ps w ≡ true → Fit t w
unfolding is_named
named_fit t [] h w n = absurd (false≢true n)
named_fit t (p ∷ ps) h w n = ⊎_elim (λ e. h.0.names w e) (λ e. named_fit t ps h.1 w e) (or_true (contains (names p) w) (is_named ps w) n)

-- the field of a replace is left or right
abbrev FieldOf : Kind → Type 0
FieldOf reads = Unit {0}
FieldOf makes = Unit {0}
FieldOf (replaces k) = k ≤ right
FieldOf raises = Unit {0}
FieldOf lowers = Unit {0}
FieldOf unknown = Unit {0}

either : (P : Kind → Type 0) (b : Bool) (x y : Kind) → P x → P y → P (cond b x y)
either P true x y h g = h
either P false x y h g = g

kind_field : (n : ℕ) → FieldOf (kind_of n)
unfolding kind_of
kind_field n =
    either FieldOf (eqb n 1) _ _ tt (either FieldOf (eqb n 2) _ _ tt (either FieldOf (eqb n 3) _ _ (omega arith)
    (either FieldOf (eqb n 4) _ _ tt (either FieldOf (eqb n 5) _ _ tt (either FieldOf (eqb n 6) _ _ (omega arith) tt)))))

pub first_of : (a : ℕ) (ws : List ℕ) → contains (a ∷ ws) a ≡ true
unfolding contains
first_of a ws = or_left (contains ws a) (eq-eqb a a refl)

pub second_of : (a b : ℕ) (ws : List ℕ) → contains (a ∷ b ∷ ws) b ≡ true
unfolding contains
second_of a b ws = or_right (eqb a b) (or_left (contains ws b) (eq-eqb b b refl))

pub third_of : (a b c : ℕ) → contains (a ∷ b ∷ c ∷ []) c ≡ true
unfolding contains
third_of a b c = or_right (eqb a c) (or_right (eqb b c) (or_left false (eq-eqb c c refl)))

-- the cell that a packet's call wrote is in use, and the field is one of its two
pub record WrittenIn (t : List ℕ) (i k : ℕ) : Type 0 where
  pub below : i < capacity t
  pub field : k ≤ right
  pub used : in_use t i ≡ true

pub legal_written : (t : List ℕ) (p : Packet) → LegalPacket t p → Written (WrittenIn t) p
unfolding packet_legal names words_of_kind names_of
legal_written t p h = go (kind_of p.kind) p.a p.b p.c (kind_field p.kind) h.words h.names
  where
    at_cell : (c k : ℕ) → k ≤ right → is_cell (capacity t) c ≡ true → Fit t c → WrittenIn t (pred c) k
    at_cell c k f e n =
        record { below = cell_index (capacity t) c e; field = f; used = n.used (pred c) (cell_index (capacity t) c e) (cell_number_lem (capacity t) c e) }

    go : (n : Kind) (a b c : ℕ) → FieldOf n → words_of_kind (capacity t) n a b c ≡ true → ((w : ℕ) → contains (names_of n a b c) w ≡ true → Fit t w)
        → WrittenOf (WrittenIn t) n c
    go reads a b c f w g = tt
    go makes a b c f w g =
        let e = and_second (is_legal (capacity t) a && is_legal (capacity t) b) (is_cell (capacity t) c) w in
        (at_cell c left (omega arith) e (g c (third_of a b c)), at_cell c right (omega arith) e (g c (third_of a b c)))
    go (replaces k) a b c f w g = at_cell c k f (and_second (is_legal (capacity t) a && is_legal (capacity t) b) (is_cell (capacity t) c) w) (g c (third_of a b c))
    go raises a b c f w g = tt
    go lowers a b c f w g = tt
    go unknown a b c f w g = tt

pub written_map : (P Q : ℕ → ℕ → Type 0) (p : Packet) → ((i k : ℕ) → P i k → Q i k) → Written P p → Written Q p
written_map P Q p f = go (kind_of p.kind) p.c
  where
    go : (n : Kind) (c : ℕ) → WrittenOf P n c → WrittenOf Q n c
    go reads c h = tt
    go makes c h = (f (pred c) left h.0, f (pred c) right h.1)
    go (replaces k) c h = f (pred c) k h
    go raises c h = tt
    go lowers c h = tt
    go unknown c h = tt

pub legal_below : (t : List ℕ) (p : Packet) → LegalPacket t p → WrittenBelow (capacity t) p
legal_below t p h = written_map (WrittenIn t) (λ i k. (i < capacity t) × (k ≤ right)) p (λ i k w. (w.below, w.field)) (legal_written t p h)

-- what is said of all that waiting packets name is said of the words that replaces detached
pub named_detached : (P : ℕ → Type 0) (ps : List Packet) → ((w : ℕ) → is_named ps w ≡ true → P w) → All (Detached P) ps
unfolding is_named names names_of
named_detached P [] f = tt
named_detached P (p ∷ ps) f = (
  go (kind_of p.kind) p.a p.b p.c (λ w n. f w (or_left (is_named ps w) n)),
  named_detached P ps (λ w n. f w (or_right (contains (names p) w) n)),
)
  where
    go : (n : Kind) (a b c : ℕ) → ((w : ℕ) → contains (names_of n a b c) w ≡ true → P w) → DetachedOf P n b
    go reads a b c g = tt
    go makes a b c g = tt
    go (replaces k) a b c g = g b (second_of a b (c ∷ []))
    go raises a b c g = tt
    go lowers a b c g = tt
    go unknown a b c g = tt
