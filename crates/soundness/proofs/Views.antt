-- The fields of the cells in use as a view, nil for a free cell. Pointers to a cell are the entries of a view that are its number, and a
-- replace, a cons and their undoing put entries into it.
use mathlib.Core.Path.{◌≡◌, refl, sym, ap, ap₂, ◌∙◌}
use mathlib.Core.Logic.{⊎_elim, ◌≢◌}
use mathlib.Core.Bool.{true, false, cond, ◌&&◌}
use mathlib.Core.List.{List, [], ◌∷◌, ◌++◌}
use Prim.Native.Nat.{ℕ, zero, suc, pred, ◌+◌, ◌≤◌, ◌<◌}
use native.Mathlib.Omega.{arith}
use lib.Dec.{eqb}
use borrow.Author.Tests.{eqb-true, eq-eqb, ne_eqb}
use Rattle.machine.specs.Range.{total, matching}
use Rattle.machine.specs.Words.{ceiling}
use Rattle.machine.specs.Table.{left, right, capacity, word_at, in_use}
use Rattle.machine.specs.Queue.{Packet}
use Rattle.machine.specs.Packets.{Kind, reads, makes, replaces, raises, lowers, unknown, kind_of, cell, plus, minus, changes_of, changes, moved_by, waiting_change}
use Rattle.machine.specs.Counts.{pointers_from, pointers}
use Rattle.machine.proofs.Range.{tested, total_same, total_at, total_zero, matching_other}
use Rattle.soundness.proofs.PacketKinds.{moves}

-- by index and field
abbrev pub View : Type 0
View = ℕ → ℕ → ℕ

unfoldable pub shown : List ℕ → View
shown t i k = cond (in_use t i) (word_at t i k) 0

unfoldable pub put_view : View → ℕ → ℕ → ℕ → View
put_view v i k w j m = cond (eqb k m && eqb i j) w (v j m)

-- entries of the cell at index i that are x
unfoldable pub entries : View → ℕ → ℕ → ℕ
entries v x i = matching (v i left) x 1 + matching (v i right) x 1

-- entries of the first c cells that are x
unfoldable pub seen : ℕ → View → ℕ → ℕ
seen c v x = total c (entries v x)

abbrev pub Same : ℕ → View → View → Type 0
Same c v w = (i k : ℕ) → i < c → k ≤ right → v i k ≡ w i k

pub same_sym : (c : ℕ) (v w : View) → Same c v w → Same c w v
same_sym c v w s i k l m = sym (s i k l m)

pub put_same : (v : View) (i k w : ℕ) → put_view v i k w i k ≡ w
unfolding put_view
put_same v i k w = rw (eq-eqb i i refl, eq-eqb k k refl)

pub put_other : (v : View) (i k w j m : ℕ) → (i ≡ j → k ≡ m → ⊥) → put_view v i k w j m ≡ v j m
unfolding put_view
put_other v i k w j m d = ⊎_elim here (λ (e : eqb k m ≡ false). rw e) (tested (eqb k m))
  where
    here : eqb k m ≡ true → cond (eqb k m && eqb i j) w (v j m) ≡ v j m
    here e = rw (e, ne_eqb i j (λ x. d x (eqb-true k m e)))

-- what holds of the entry put and of all entries holds of all entries afterwards
put_entry : (P : ℕ → Type 0) (v : View) (i k w j m : ℕ) → P w → P (v j m) → P (put_view v i k w j m)
unfolding put_view
put_entry P v i k w j m h g = ⊎_elim (λ (e : eqb k m && eqb i j ≡ true). rw e h) (λ (e : eqb k m && eqb i j ≡ false). rw e g) (tested (eqb k m && eqb i j))

pub put_views : (c : ℕ) (v w : View) (i k x : ℕ) → Same c v w → Same c (put_view v i k x) (put_view w i k x)
unfolding put_view
put_views c v w i k x s j m l n = ap (cond (eqb k m && eqb i j) x) (s j m l n)

pub seen_same : (c : ℕ) (v w : View) (x : ℕ) → Same c v w → seen c v x ≡ seen c w x
unfolding seen entries
seen_same c v w x s =
    total_same c (entries v x) (entries w x)
    (λ i l. ap₂ (λ (a b : ℕ). matching a x 1 + matching b x 1) (s i left l (omega arith)) (s i right l (omega arith)))

-- the one law of counting
pub seen_put : (c : ℕ) (v : View) (i k w x : ℕ) → i < c → k ≤ right → seen c (put_view v i k w) x + matching (v i k) x 1 ≡ seen c v x + matching w x 1
unfolding seen entries
seen_put c v i k w x l m = go k m refl
  where
    u : View
    u = put_view v i k w

    sums : total c (entries u x) + entries v x i ≡ total c (entries v x) + entries u x i
    sums =
        total_at c (entries u x) (entries v x) i l
        (λ j n d. ap₂ (λ (a b : ℕ). matching a x 1 + matching b x 1) (put_other v i k w j left (λ e. absurd (d (sym e))))
        (put_other v i k w j right (λ e. absurd (d (sym e)))))

    go : (n : ℕ) → n ≤ right → k ≡ n → total c (entries u x) + matching (v i k) x 1 ≡ total c (entries v x) + matching w x 1
    go zero h e =
        let a : u i left ≡ w = ap (u i) (sym e) ∙ put_same v i k w in
        let b : u i right ≡ v i right = put_other v i k w i right (λ _ d. absurd (omega arith)) in
        omega (arith, sums, ap (λ (y : ℕ). matching y x 1) a, ap (λ (y : ℕ). matching y x 1) b, ap (λ (y : ℕ). matching (v i y) x 1) e)
    go (suc zero) h e =
        let a : u i right ≡ w = ap (u i) (sym e) ∙ put_same v i k w in
        let b : u i left ≡ v i left = put_other v i k w i left (λ _ d. absurd (omega arith)) in
        omega (arith, sums, ap (λ (y : ℕ). matching y x 1) a, ap (λ (y : ℕ). matching y x 1) b, ap (λ (y : ℕ). matching (v i y) x 1) e)
    go (suc (suc n)) h e = absurd (omega arith)

pub nil_no_cell : (x : ℕ) → matching 0 (suc x) 1 ≡ 0
nil_no_cell x = matching_other 0 (suc x) 1 (λ e. omega arith)

-- "Pointers to a cell" are its entries in the view
pub pointers_seen : (t : List ℕ) (x : ℕ) → pointers t (suc x) ≡ seen (capacity t) (shown t) (suc x)
unfolding pointers pointers_from seen entries shown
pointers_seen t x = total_same (capacity t) (pointers_from t (suc x)) (entries (shown t) (suc x)) (λ i _. at_index i)
  where
    at_index : (i : ℕ) → pointers_from t (suc x) i ≡ entries (shown t) (suc x) i
    at_index i = ⊎_elim (λ (e : in_use t i ≡ true). rw e) (λ (e : in_use t i ≡ false). rw e (omega (arith, nil_no_cell x))) (tested (in_use t i))

-- the undoing of a packet, on views
abbrev pub undone_view : Kind → ℕ → ℕ → ℕ → View → View
undone_view reads a b c v = v
undone_view makes a b c v = put_view (put_view v (pred c) left 0) (pred c) right 0
undone_view (replaces k) a b c v = put_view v (pred c) k b
undone_view raises a b c v = v
undone_view lowers a b c v = v
undone_view unknown a b c v = v

abbrev pub undo_view : Packet → View → View
undo_view p v = undone_view (kind_of p.kind) p.a p.b p.c v

-- what the view after a packet holds
abbrev pub HoldsOf : Kind → ℕ → ℕ → ℕ → View → Type 0
HoldsOf reads a b c v = Unit {0}
HoldsOf makes a b c v = (v (pred c) left ≡ a) × (v (pred c) right ≡ b)
HoldsOf (replaces k) a b c v = v (pred c) k ≡ a
HoldsOf raises a b c v = Unit {0}
HoldsOf lowers a b c v = Unit {0}
HoldsOf unknown a b c v = Unit {0}

abbrev pub HoldsFor : Packet → View → Type 0
HoldsFor p v = HoldsOf (kind_of p.kind) p.a p.b p.c v

-- what is said of the index and field that a packet's call wrote
abbrev pub WrittenOf : (ℕ → ℕ → Type 0) → Kind → ℕ → Type 0
WrittenOf P reads c = Unit {0}
WrittenOf P makes c = P (pred c) left × P (pred c) right
WrittenOf P (replaces k) c = P (pred c) k
WrittenOf P raises c = Unit {0}
WrittenOf P lowers c = Unit {0}
WrittenOf P unknown c = Unit {0}

abbrev pub Written : (ℕ → ℕ → Type 0) → Packet → Type 0
Written P p = WrittenOf P (kind_of p.kind) p.c

-- fields of the first c cells
abbrev pub WrittenBelow : ℕ → Packet → Type 0
WrittenBelow c p = Written (λ i k. (i < c) × (k ≤ right)) p

-- what is said of the word that a replace detached
abbrev pub DetachedOf : (ℕ → Type 0) → Kind → ℕ → Type 0
DetachedOf P reads b = Unit {0}
DetachedOf P makes b = Unit {0}
DetachedOf P (replaces k) b = P b
DetachedOf P raises b = Unit {0}
DetachedOf P lowers b = Unit {0}
DetachedOf P unknown b = Unit {0}

abbrev pub Detached : (ℕ → Type 0) → Packet → Type 0
Detached P p = DetachedOf P (kind_of p.kind) p.b

abbrev pub All : (Packet → Type 0) → List Packet → Type 0
All P [] = Unit {0}
All P (p ∷ ps) = P p × All P ps

pub all_map : (P Q : Packet → Type 0) (ps : List Packet) → ((p : Packet) → P p → Q p) → All P ps → All Q ps
all_map P Q [] f h = tt
all_map P Q (p ∷ ps) f h = (f p h.0, all_map P Q ps f h.1)

pub all_snoc : (P : Packet → Type 0) (ps : List Packet) (p : Packet) → All P ps → P p → All P (ps ++ (p ∷ []))
all_snoc P [] p h g = (g, tt)
all_snoc P (q ∷ ps) p h g = (h.0, all_snoc P ps p h.1 g)

-- the view before the packets ps, the newest undone first
unfoldable pub earlier : View → List Packet → View
earlier v [] = v
earlier v (p ∷ ps) = undo_view p (earlier v ps)

pub undo_same : (c : ℕ) (v w : View) (p : Packet) → Same c v w → Same c (undo_view p v) (undo_view p w)
undo_same c v w p s = go (kind_of p.kind) p.a p.b p.c
  where
    go : (n : Kind) (x y z : ℕ) → Same c (undone_view n x y z v) (undone_view n x y z w)
    go reads x y z = s
    go makes x y z = put_views c (put_view v (pred z) left 0) (put_view w (pred z) left 0) (pred z) right 0 (put_views c v w (pred z) left 0 s)
    go (replaces k) x y z = put_views c v w (pred z) k y s
    go raises x y z = s
    go lowers x y z = s
    go unknown x y z = s

pub earlier_same : (c : ℕ) (v w : View) (ps : List Packet) → Same c v w → Same c (earlier v ps) (earlier w ps)
unfolding earlier
earlier_same c v w [] s = s
earlier_same c v w (p ∷ ps) s = undo_same c (earlier v ps) (earlier w ps) p (earlier_same c v w ps s)

pub earlier_snoc : (v : View) (ps : List Packet) (p : Packet) → earlier v (ps ++ (p ∷ [])) ≡ earlier (undo_view p v) ps
unfolding earlier
earlier_snoc v [] p = refl
earlier_snoc v (q ∷ ps) p = ap (undo_view q) (earlier_snoc v ps p)

-- undoing a packet takes its changes of cell counts back
pub seen_undo : (c : ℕ) (v : View) (p : Packet) (x : ℕ) → WrittenBelow c p → HoldsFor p v
    → seen c (undo_view p v) (suc x) + moves cell plus p (suc x) ≡ seen c v (suc x) + moves cell minus p (suc x)
unfolding changes moved_by changes_of
seen_undo c v p x l h = go (kind_of p.kind) p.a p.b p.c l h
  where
    go : (n : Kind) (a b z : ℕ) → WrittenOf (λ i k. (i < c) × (k ≤ right)) n z → HoldsOf n a b z v
        → seen c (undone_view n a b z v) (suc x) + moved_by cell plus (suc x) (changes_of n a b) ≡ seen c v (suc x) + moved_by cell minus (suc x) (changes_of n a b)
    go reads a b z l h = refl
    go makes a b z l h =
        let u = put_view v (pred z) left 0 in
        let r : u (pred z) right ≡ v (pred z) right = put_other v (pred z) left 0 (pred z) right (λ _ d. absurd (omega arith)) in
        omega (
          arith,
          seen_put c u (pred z) right 0 (suc x) l.1.0 l.1.1,
          seen_put c v (pred z) left 0 (suc x) l.0.0 l.0.1,
          ap (λ (y : ℕ). matching y (suc x) 1) (r ∙ h.1),
          ap (λ (y : ℕ). matching y (suc x) 1) h.0,
          nil_no_cell x,
        )
    go (replaces k) a b z l h = omega (arith, seen_put c v (pred z) k b (suc x) l.0 l.1, ap (λ (y : ℕ). matching y (suc x) 1) h)
    go raises a b z l h = refl
    go lowers a b z l h = refl
    go unknown a b z l h = refl

abbrev pub WithinView : ℕ → View → Type 0
WithinView c v = (i : ℕ) → i < c → seen c v (suc i) ≤ ceiling

-- S4's stages, on views
abbrev pub StagesOf : ℕ → View → List Packet → Type 0
StagesOf c v [] = WithinView c v
StagesOf c v (p ∷ ps) = StagesOf c v ps × HoldsFor p (earlier v ps) × WithinView c (undo_view p (earlier v ps))

pub within_same : (c : ℕ) (v w : View) → Same c v w → WithinView c v → WithinView c w
within_same c v w s h i l = omega (arith, seen_same c v w (suc i) s, h i l)

pub holds_same : (c : ℕ) (v w : View) (p : Packet) → Same c v w → WrittenBelow c p → HoldsFor p v → HoldsFor p w
holds_same c v w p s = go (kind_of p.kind) p.a p.b p.c
  where
    go : (n : Kind) (x y z : ℕ) → WrittenOf (λ i k. (i < c) × (k ≤ right)) n z → HoldsOf n x y z v → HoldsOf n x y z w
    go reads x y z l h = tt
    go makes x y z l h = (sym (s (pred z) left l.0.0 l.0.1) ∙ h.0, sym (s (pred z) right l.1.0 l.1.1) ∙ h.1)
    go (replaces k) x y z l h = sym (s (pred z) k l.0 l.1) ∙ h
    go raises x y z l h = tt
    go lowers x y z l h = tt
    go unknown x y z l h = tt

pub stages_same : (c : ℕ) (v w : View) (ps : List Packet) → Same c v w → All (WrittenBelow c) ps → StagesOf c v ps → StagesOf c w ps
stages_same c v w [] s l h = within_same c v w s h
stages_same c v w (p ∷ ps) s l h =
    let e = earlier_same c v w ps s in (
      stages_same c v w ps s l.1 h.0,
      holds_same c (earlier v ps) (earlier w ps) p e l.0 h.1,
      within_same c (undo_view p (earlier v ps)) (undo_view p (earlier w ps)) (undo_same c (earlier v ps) (earlier w ps) p e) h.2,
    )

-- one stage more behind the others
pub stages_snoc : (c : ℕ) (v : View) (ps : List Packet) (p : Packet) → StagesOf c (undo_view p v) ps → HoldsFor p v → WithinView c v → StagesOf c v (ps ++ (p ∷ []))
unfolding earlier
stages_snoc c v [] p h g w = (w, g, h)
stages_snoc c v (q ∷ ps) p h g w =
    (stages_snoc c v ps p h.0 g w, rw (earlier_snoc v ps p) h.1, rw (earlier_snoc v ps p) h.2)

pub stages_within : (c : ℕ) (v : View) (ps : List Packet) → StagesOf c v ps → WithinView c (earlier v ps)
unfolding earlier
stages_within c v [] h = h
stages_within c v (p ∷ ps) h = h.2

pub stages_last : (c : ℕ) (v : View) (ps : List Packet) → StagesOf c v ps → WithinView c v
stages_last c v [] h = h
stages_last c v (p ∷ ps) h = stages_last c v ps h.0

-- the pointers at the oldest stage with all waiting changes are the pointers now
pub seen_waiting : (c : ℕ) (v : View) (ps : List Packet) (x : ℕ) → All (WrittenBelow c) ps → StagesOf c v ps
    → seen c (earlier v ps) (suc x) + waiting_change cell plus (suc x) ps ≡ seen c v (suc x) + waiting_change cell minus (suc x) ps
unfolding earlier waiting_change
seen_waiting c v [] x l h = refl
seen_waiting c v (p ∷ ps) x l h =
    omega (arith, seen_waiting c v ps x l.1 h.0, seen_undo c (earlier v ps) p x l.0 h.1)

-- what holds of nil, of the words detached and of an entry holds of that entry at every stage
pub earlier_entry : (P : ℕ → Type 0) (v : View) (ps : List Packet) (i k : ℕ) → P 0 → All (Detached P) ps → P (v i k) → P (earlier v ps i k)
unfolding earlier
earlier_entry P v [] i k z d h = h
earlier_entry P v (p ∷ ps) i k z d h = go (kind_of p.kind) p.a p.b p.c d.0 (earlier_entry P v ps i k z d.1 h)
  where
    u : View
    u = earlier v ps

    go : (n : Kind) (x y w : ℕ) → DetachedOf P n y → P (u i k) → P (undone_view n x y w u i k)
    go reads x y w e h = h
    go makes x y w e h = put_entry P (put_view u (pred w) left 0) (pred w) right 0 i k z (put_entry P u (pred w) left 0 i k z h)
    go (replaces f) x y w e h = put_entry P u (pred w) f y i k e h
    go raises x y w e h = h
    go lowers x y w e h = h
    go unknown x y w e h = h

-- a number that no entry is
pub seen_none : (c : ℕ) (v : View) (x : ℕ) → ((i k : ℕ) → i < c → k ≤ right → v i k ≢ x) → seen c v x ≡ 0
unfolding seen
seen_none c v x d = total_same c (entries v x) (λ _. 0) none ∙ total_zero c
  where
    none : (i : ℕ) → i < c → entries v x i ≡ 0
    none i l = unfold entries in omega (arith, matching_other (v i left) x 1 (d i left l (omega arith)), matching_other (v i right) x 1 (d i right l (omega arith)))
