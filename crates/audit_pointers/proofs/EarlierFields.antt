-- S4: fields of the stages of the undoing, read through the packets.
use mathlib.Core.Path.{◌≡◌, refl, sym, ap, ap₂, ◌∙◌}
use mathlib.Core.Logic.{⊎_elim}
use mathlib.Core.Bool.{Bool, true, false, cond, ◌&&◌, ◌||◌}
use mathlib.Core.List.{List, [], ◌∷◌}
use Prim.Native.Nat.{ℕ, zero, suc, pred, ◌+◌, ◌-◌, ◌%◌, ◌≤◌, ◌<◌}
use native.Mathlib.Omega.{arith}
use lib.Dec.{leb, ltb, eqb, eqb-suc-suc}
use lib.ListN.{length}
use borrow.Author.Tests.{leb-true, eqb-true}
use Rattle.machine.specs.declared.Queue.{Queue}
use Rattle.machine.specs.Audit.{field_sound, words_of_kind, packet_legal, names_in_use, packets_legal, undoable_of, undone_of, undoable, undone, before}
use Rattle.machine.specs.Packets.{Kind, reads, makes, replaces, raises, lowers, unknown, kind_of, names_of, names}
use Rattle.machine.specs.Queue.{Packet, slots, slot, packets_from, waiting}
use Rattle.machine.specs.Range.{every_of}
use Rattle.machine.specs.Table.{left, right, state, capacity, table_length, word_at, put_word, in_use}
use Rattle.machine.specs.Words.{first_atom, largest_word, is_nil, is_cell, is_atom, is_legal, most_cells}
use Rattle.machine.proofs.Range.{and_first, and_second, or_true, every_at}
use Rattle.machine.proofs.Table.{Inside, room, word_put, word_other, length_put_word, capacity_put_word, inside_put}
use Rattle.machine.proofs.Words.{cell_index, cell_number_lem}
use Rattle.audit_packets.specs.Packets.{packet_on, packet_sound}
use Rattle.audit_pointers.specs.EarlierFields.{newer, field_before_of, field_before, stage_field}
use Rattle.audit_packets.proofs.LegalPackets.{legal_every}

-- a packet that wrote fields did so in a cell in use, which is told by c
abbrev pub PlacedOf : List ℕ → Kind → ℕ → Type 0
PlacedOf t reads c = Unit {0}
PlacedOf t makes c = (c ≡ suc (pred c)) × (pred c < capacity t) × (in_use t (pred c) ≡ true)
PlacedOf t (replaces k) c = (c ≡ suc (pred c)) × (pred c < capacity t) × (in_use t (pred c) ≡ true) × (k ≤ right)
PlacedOf t raises c = Unit {0}
PlacedOf t lowers c = Unit {0}
PlacedOf t unknown c = Unit {0}

abbrev pub Placed : List ℕ → Packet → Type 0
Placed t p = PlacedOf t (kind_of p.kind) p.c

abbrev pub AllPlaced : List ℕ → List Packet → Type 0
AllPlaced t [] = Unit {0}
AllPlaced t (p ∷ ps) = Placed t p × AllPlaced t ps

-- C is below every atom
cell_used : (t : List ℕ) (w : ℕ) → capacity t ≤ most_cells → is_cell (capacity t) w ≡ true → field_sound t w ≡ true → in_use t (pred w) ≡ true
unfolding field_sound is_nil is_atom
cell_used t w m c h =
    let n = cell_number_lem (capacity t) w c in
    let l = cell_index (capacity t) w c in
    ⊎_elim
    (λ k. ⊎_elim (λ (e : eqb w 0 ≡ true). absurd (omega (arith, eqb-true w 0 e)))
    (λ (e : leb first_atom w && leb w largest_word ≡ true). absurd (omega (arith, leb-true first_atom w (and_first (leb first_atom w) (leb w largest_word) e))))
    (or_true (eqb w 0) (leb first_atom w && leb w largest_word) k))
    (λ k. and_second (is_cell (capacity t) w) (in_use t (pred w)) k)
    (or_true (eqb w 0 || (leb first_atom w && leb w largest_word)) (is_cell (capacity t) w && in_use t (pred w)) h)

third_name : (p : ℕ → Bool) (a b c : ℕ) → every_of (a ∷ b ∷ c ∷ []) p ≡ true → p c ≡ true
unfolding every_of
third_name p a b c h = and_first (p c) true (and_second (p b) (p c && true) (and_second (p a) (p b && (p c && true)) h))

-- the fields that kinds replace
abbrev Fielded : Kind → Type 0
Fielded reads = Unit {0}
Fielded makes = Unit {0}
Fielded (replaces k) = k ≤ right
Fielded raises = Unit {0}
Fielded lowers = Unit {0}
Fielded unknown = Unit {0}

fielded_cond : (b : Bool) (x y : Kind) → Fielded x → Fielded y → Fielded (cond b x y)
fielded_cond true x y h k = h
fielded_cond false x y h k = k

fielded : (k : ℕ) → Fielded (kind_of k)
unfolding kind_of
fielded k =
    fielded_cond (eqb k 1) reads _ tt
    (fielded_cond (eqb k 2) makes _ tt
    (fielded_cond (eqb k 3) (replaces left) _ (omega arith)
    (fielded_cond (eqb k 4) raises _ tt
    (fielded_cond (eqb k 5) lowers _ tt (fielded_cond (eqb k 6) (replaces right) unknown (omega arith) tt)))))

placed_of : (t : List ℕ) (k : Kind) (a b c : ℕ) → capacity t ≤ most_cells → Fielded k → words_of_kind (capacity t) k a b c ≡ true
    → every_of (names_of k a b c) (field_sound t) ≡ true → PlacedOf t k c
unfolding words_of_kind names_of
placed_of t reads a b c m f h n = tt
placed_of t makes a b c m f h n =
    let e = and_second (is_legal (capacity t) a && is_legal (capacity t) b) (is_cell (capacity t) c) h in
    (cell_number_lem (capacity t) c e, cell_index (capacity t) c e, cell_used t c m e (third_name (field_sound t) a b c n))
placed_of t (replaces k) a b c m f h n =
    let e = and_second (is_legal (capacity t) a && is_legal (capacity t) b) (is_cell (capacity t) c) h in
    (cell_number_lem (capacity t) c e, cell_index (capacity t) c e, cell_used t c m e (third_name (field_sound t) a b c n), f)
placed_of t raises a b c m f h n = tt
placed_of t lowers a b c m f h n = tt
placed_of t unknown a b c m f h n = tt

placed : (t : List ℕ) (p : Packet) → capacity t ≤ most_cells → packet_sound t p ≡ true → Placed t p
unfolding packet_sound packet_legal names_in_use names
placed t p m h =
    placed_of t (kind_of p.kind) p.a p.b p.c m (fielded p.kind)
    (and_first (words_of_kind (capacity t) (kind_of p.kind) p.a p.b p.c) (every_of (names_of (kind_of p.kind) p.a p.b p.c) (field_sound t)) h)
    (and_second (words_of_kind (capacity t) (kind_of p.kind) p.a p.b p.c) (every_of (names_of (kind_of p.kind) p.a p.b p.c) (field_sound t)) h)

-- the newer packets, one by one
module _ (q : Queue) where
  pub newer_step : (j : ℕ) → j < q.count → newer q j ≡ packet_on q j ∷ newer q (j + 1)
  unfolding newer packet_on
  newer_step j l =
      ap (packets_from q (q.place + j)) (omega arith) ∙ packets_cons (q.place + j) (q.count - (j + 1))
      ∙ ap (λ (n : ℕ). slot q ((q.place + j) % slots) ∷ packets_from q n (q.count - (j + 1))) (omega arith)
    where
      packets_cons : (k n : ℕ) → packets_from q k (suc n) ≡ slot q (k % slots) ∷ packets_from q (suc k) n
      packets_cons k n = unfold packets_from in refl

  pub newer_none : (j : ℕ) → j ≡ q.count → newer q j ≡ []
  unfolding newer packets_from
  newer_none j e = let z : q.count - j ≡ 0 = omega arith in rw z

  pub newer_all : newer q 0 ≡ waiting q
  unfolding newer waiting
  newer_all = ap₂ (packets_from q) (omega arith) (omega arith)

  -- what holds with no newer packet, and with one more, holds of them all
  newer_ind : (P : List Packet → Type 0) → P [] → ((j : ℕ) → j < q.count → P (newer q (j + 1)) → P (packet_on q j ∷ newer q (j + 1))) → (n j : ℕ)
      → j + n ≡ q.count → P (newer q j)
  newer_ind P none more zero j e = rw (newer_none j (omega arith)) none
  newer_ind P none more (suc n) j e = rw (newer_step j (omega arith)) (more j (omega arith) (newer_ind P none more n (j + 1) (omega arith)))

  pub all_placed : (t : List ℕ) → capacity t ≤ most_cells → packets_legal t (waiting q) ≡ true → (j : ℕ) → j ≤ q.count → AllPlaced t (newer q j)
  all_placed t m h j l =
      newer_ind (AllPlaced t) tt
      (λ i b r. (placed t (packet_on q i) m (every_at q.count (λ k. packet_sound t (packet_on q k)) (sym (legal_every t q) ∙ h) i b), r))
      (q.count - j) j (omega arith)

-- a table with other fields
pub record Refielded (t v : List ℕ) : Type 0 where
  pub same_length : length v ≡ length t
  pub same_capacity : capacity v ≡ capacity t
  pub same_use : (i : ℕ) → in_use v i ≡ in_use t i

refielded_put : (t v : List ℕ) (i k w : ℕ) → k ≤ right → Refielded t v → Refielded t (put_word v i k w)
unfolding in_use
refielded_put t v i k w l h = record {
  same_length = length_put_word v i k w ∙ h.same_length;
  same_capacity = capacity_put_word v i k w ∙ h.same_capacity;
  same_use = λ j. ap (ltb 0) (word_other v i k w j state (omega arith) (omega arith) (λ x y. omega arith)) ∙ h.same_use j;
}

refielded_undone : (t v : List ℕ) (k : Kind) (a b c : ℕ) → PlacedOf t k c → Refielded t v → Refielded t (undone_of v k a b c)
unfolding undone_of
refielded_undone t v reads a b c p h = h
refielded_undone t v makes a b c p h =
    refielded_put t (put_word v (pred c) left 0) (pred c) right 0 (omega arith) (refielded_put t v (pred c) left 0 (omega arith) h)
refielded_undone t v (replaces k) a b c p h = refielded_put t v (pred c) k b p.3 h
refielded_undone t v raises a b c p h = h
refielded_undone t v lowers a b c p h = h
refielded_undone t v unknown a b c p h = h

pub refielded : (t : List ℕ) (ps : List Packet) → AllPlaced t ps → Refielded t (before t ps)
unfolding before undone
refielded t [] a = record { same_length = refl; same_capacity = refl; same_use = λ i. refl }
refielded t (p ∷ ps) a = refielded_undone t (before t ps) (kind_of p.kind) p.a p.b p.c a.0 (refielded t ps a.1)

-- a field of a stage, read through the packets
same_cell : (c i : ℕ) → c ≡ suc (pred c) → eqb c (suc i) ≡ eqb (pred c) i
same_cell c i e = ap (λ (n : ℕ). eqb n (suc i)) e ∙ eqb-suc-suc (pred c) i

module _ (t v : List ℕ) (h : Refielded t v) (f : table_length (capacity t) ≤ length t) where
  inside : (i : ℕ) → i < capacity t → Inside v i
  inside i l = room v (capacity t) i (rw h.same_length f) l

  field_undone : (k : Kind) (a b c : ℕ) → PlacedOf t k c → (i m : ℕ) → m ≤ right → word_at (undone_of v k a b c) i m ≡ field_before_of k b c i m (word_at v i m)
  unfolding undone_of field_before_of
  field_undone reads a b c p i m l = refl
  field_undone makes a b c p i m l = go m l
    where
      u : List ℕ
      u = put_word v (pred c) left 0

      two : (m : ℕ) → m ≤ right
          → word_at (put_word u (pred c) right 0) i m ≡ cond (eqb right m && eqb (pred c) i) 0 (cond (eqb left m && eqb (pred c) i) 0 (word_at v i m))
      two m l =
          word_put u (pred c) right 0 i m (inside_put v (pred c) left 0 (pred c) (inside (pred c) p.1)) (omega arith) (omega arith)
          ∙ ap (λ (w : ℕ). cond (eqb right m && eqb (pred c) i) 0 w) (word_put v (pred c) left 0 i m (inside (pred c) p.1) (omega arith) (omega arith))

      go : (m : ℕ) → m ≤ right → word_at (put_word u (pred c) right 0) i m ≡ cond (eqb c (suc i)) 0 (word_at v i m)
      go zero l = rw (same_cell c i p.0) (two left l)
      go (suc zero) l = rw (same_cell c i p.0) (two right l)
      go (suc (suc m)) l = absurd (omega arith)
  field_undone (replaces k) a b c p i m l =
      let n = p.3 in
      rw (same_cell c i p.0) (word_put v (pred c) k b i m (inside (pred c) p.1) (omega arith) (omega arith))
  field_undone raises a b c p i m l = refl
  field_undone lowers a b c p i m l = refl
  field_undone unknown a b c p i m l = refl

pub stage_field_lem : (t : List ℕ) (ps : List Packet) → table_length (capacity t) ≤ length t → AllPlaced t ps → (i k : ℕ) → k ≤ right
    → word_at (before t ps) i k ≡ stage_field t ps i k
unfolding before undone stage_field field_before
stage_field_lem t [] f a i k l = refl
stage_field_lem t (p ∷ ps) f a i k l =
    field_undone t (before t ps) (refielded t ps a.1) f (kind_of p.kind) p.a p.b p.c a.0 i k l
    ∙ ap (field_before_of (kind_of p.kind) p.b p.c i k) (stage_field_lem t ps f a.1 i k l)

-- one packet more undone
pub stage_less : (t : List ℕ) (q : Queue) (i k w j : ℕ) → 0 < j → j ≤ q.count → w ≡ stage_field t (newer q j) i k
    → field_before (packet_on q (j - 1)) i k w ≡ stage_field t (newer q (j - 1)) i k
unfolding stage_field
stage_less t q i k w j l m e =
    let d : newer q j ≡ newer q (j - 1 + 1) = ap (newer q) (omega arith) in
    ap (field_before (packet_on q (j - 1)) i k) (e ∙ ap (λ (ps : List Packet). stage_field t ps i k) d)
    ∙ ap (λ (ps : List Packet). stage_field t ps i k) (sym (newer_step q (j - 1) (omega arith)))

pub stage_none : (t : List ℕ) (q : Queue) (i k : ℕ) → word_at t i k ≡ stage_field t (newer q q.count) i k
unfolding stage_field
stage_none t q i k = ap (λ (ps : List Packet). stage_field t ps i k) (sym (newer_none q q.count refl))

-- kinds that write no field
abbrev pub Keeps : Kind → Type 0
Keeps reads = Unit {0}
Keeps makes = ⊥
Keeps (replaces k) = ⊥
Keeps raises = Unit {0}
Keeps lowers = Unit {0}
Keeps unknown = Unit {0}

pub keeps : (κ : Kind) → (κ ≡ makes → ⊥) → ((k : ℕ) → κ ≡ replaces k → ⊥) → Keeps κ
keeps reads f g = tt
keeps makes f g = f refl
keeps (replaces k) f g = g k refl
keeps raises f g = tt
keeps lowers f g = tt
keeps unknown f g = tt

pub kept_undo : (v : List ℕ) (p : Packet) → Keeps (kind_of p.kind) → (undone v p ≡ v) × (undoable v p ≡ true)
unfolding undone undoable
kept_undo v p h = go (kind_of p.kind) h
  where
    go : (κ : Kind) → Keeps κ → (undone_of v κ p.a p.b p.c ≡ v) × (undoable_of v κ p.a p.b p.c ≡ true)
    go reads h = unfold undone_of undoable_of in (refl, refl)
    go makes h = absurd h
    go (replaces f) h = absurd h
    go raises h = unfold undone_of undoable_of in (refl, refl)
    go lowers h = unfold undone_of undoable_of in (refl, refl)
    go unknown h = unfold undone_of undoable_of in (refl, refl)
