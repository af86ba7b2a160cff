-- The frame rule, call by call, as a row program uses it: the operands in front of the words held.
use mathlib.Core.Path.{◌≡◌, refl, sym, ap, ◌∙◌}
use mathlib.Core.Bool.{true, false, cond, not, ◌||◌}
use mathlib.Core.List.{List, [], ◌∷◌, ◌++◌}
use Prim.Native.Nat.{ℕ, suc, ◌+◌, ◌-◌, ◌*◌, ◌≤◌, ◌<◌}
use native.Mathlib.Omega.{arith}
use lib.Dec.{eqb}
use lib.ListN.{length, drop}
use borrow.Author.Tests.{ne_eqb, le-leb, lt-leb, lt-ltb}
use Rattle.machine.specs.declared.Queue.{Queue}
use Rattle.machine.specs.Range.{occurrences, every_of}
use Rattle.machine.specs.Words.{first_atom, largest_word, clip, ceiling, most_cells, is_nil, is_cell, is_atom, is_legal, may_be_stored}
use Rattle.machine.specs.Table.{capacity, scratch_words, in_use}
use Rattle.machine.specs.Promise.{Promise}
use Rattle.machine.specs.Calls.{audit, RowCall, car, cdr, cons, set_right, up, down, Reply, store, reads_nil}
use Rattle.machine.specs.Questions.{first_no, words_legal, words_storable, x_is_cell, number_in_range, early_row, ask_free}
use Rattle.machine.specs.Step.{cleared}
use Rattle.machine.proofs.Range.{and_both, or_right}
use Rattle.machine.proofs.Words.{cell_index, cell_number_lem}
use Rattle.machine.proofs.Questions.{AllYes, shape_is, first_no_zero}
use Rattle.soundness.proofs.LegalPackets.{cell_legal}
use Rattle.machine.proofs.Scratch.{cleared_same}
use Rattle.soundness.specs.Reliable.{Fields, fields, puts, RepliesField}
use Rattle.resting.specs.Rests.{needs, leaves, New, Rests, cells_in_use, Allowed, At, After}
use Rattle.resting.specs.Settling.{Settling}
use Rattle.resting.proofs.CellsInUse.{some_free, pointers_few}
use Rattle.resting.proofs.Settles.{occurrences_most, audit_clears, settles, fills}
use Rattle.resting.proofs.Runs.{runs_settled}

-- a store at rest has at most 4,096 cells
pub rests_most : {t : List ℕ} {q : Queue} {hs : List ℕ} {f : ℕ → Fields} → Rests t q hs f → capacity t ≤ most_cells
rests_most {t} {q} k = (shape_is t q k.whole.sound.shape).table.most

-- other words held, as often
pub rests_same : {t : List ℕ} {q : Queue} {hs ks : List ℕ} {f : ℕ → Fields} → ((i : ℕ) → i < capacity t → occurrences (suc i) hs ≡ occurrences (suc i) ks)
    → Rests t q hs f → Rests t q ks f
rests_same e k = record { whole = k.whole; idle = k.idle; held = λ i l. k.held i l ∙ e i l; fields = k.fields }

cell_not_nil : (c x : ℕ) → is_cell c x ≡ true → is_nil x ≡ false
unfolding is_nil
cell_not_nil c x h = ne_eqb x 0 (λ e. omega (arith, cell_number_lem c x h))

-- a word that may be put into a cell of a store of c cells
abbrev pub Storable : ℕ → ℕ → Type 0
Storable c x = (is_legal c x ≡ true) × (may_be_stored x ≡ true)

low_storable : (c w : ℕ) → is_legal c w ≡ true → w < first_atom → Storable c w
unfolding may_be_stored is_atom
low_storable c w h l = (h, rw (lt-leb first_atom w l) refl)

-- nil
pub nil_storable : (c : ℕ) → Storable c 0
unfolding is_legal is_nil
nil_storable c = low_storable c 0 refl (omega arith)

-- cells
pub cell_storable : (c w : ℕ) → c ≤ most_cells → is_cell c w ≡ true → Storable c w
cell_storable c w m h = low_storable c w (cell_legal c w h) (omega (arith, cell_index c w h, cell_number_lem c w h))

-- atoms of values that are not clipped
pub atom_storable : (c v : ℕ) → v < clip → Storable c (first_atom + v)
unfolding is_legal may_be_stored is_atom
atom_storable c v l =
    let above = le-leb first_atom (first_atom + v) (omega arith) in
    let within = le-leb (first_atom + v) largest_word (omega arith) in
    (or_right (is_nil (first_atom + v) || is_cell c (first_atom + v)) (and_both above within), or_right (not (is_atom (first_atom + v))) (lt-ltb (first_atom + v - first_atom) clip (omega arith)))

-- the early questions say "yes"
module _ (t : List ℕ) where
  read_early : (x : ℕ) → is_cell (capacity t) x ≡ true → (first_no (early_row t (car x)) ≡ 0) × (first_no (early_row t (cdr x)) ≡ 0)
  unfolding early_row words_legal every_of x_is_cell
  read_early x c =
      let e = cell_not_nil (capacity t) x c in
      let y : AllYes (early_row t (car x)) = (and_both (cell_legal (capacity t) x c) refl, rw e (c, tt)) in
      (first_no_zero (early_row t (car x)) y, first_no_zero (early_row t (cdr x)) y)

  one_early : (x : ℕ) → is_cell (capacity t) x ≡ true → (first_no (early_row t (up x 1)) ≡ 0) × (first_no (early_row t (down x 1)) ≡ 0)
  unfolding early_row words_legal every_of x_is_cell number_in_range
  one_early x c =
      let y : AllYes (early_row t (up x 1)) = (refl, (and_both (cell_legal (capacity t) x c) refl, (c, tt))) in
      (first_no_zero (early_row t (up x 1)) y, first_no_zero (early_row t (down x 1)) y)

  cons_early : (x y : ℕ) → Storable (capacity t) x → Storable (capacity t) y → first_no (early_row t (cons x y)) ≡ 0
  unfolding early_row words_legal words_storable every_of
  cons_early x y a b = first_no_zero (early_row t (cons x y)) (and_both a.0 (and_both b.0 refl), (and_both a.1 (and_both b.1 refl), tt))

  replace_early : (x y : ℕ) → is_cell (capacity t) x ≡ true → Storable (capacity t) y → first_no (early_row t (set_right x y)) ≡ 0
  unfolding early_row words_legal words_storable every_of x_is_cell
  replace_early x y c b =
      first_no_zero (early_row t (set_right x y)) (and_both (cell_legal (capacity t) x c) (and_both b.0 refl), (c, (and_both b.1 refl, tt)))

-- what a settled call that is allowed makes of a store at rest
settled : {c : ℕ} {s₀ : List ℕ} {t : List ℕ} {q : Queue} {s : List ℕ} {r : RowCall} {t' : List ℕ} {q' : Queue} {s' : List ℕ} {w : ℕ} {hs : List ℕ} {f : ℕ → Fields}
    → At c s₀ (needs r ++ hs) f t q s → Allowed t hs r → Settling t q s r t' q' s' w
    → RepliesField f r w × New t r w × After c s₀ (leaves r w ++ hs) (λ x. puts r w x (f x)) t' q' s'
settled {c} {s₀} {t} {q} {s} {r} {t'} {q'} {s'} {w} {hs} {f} k a g =
    let z = settles t q s hs f r k.rests a (rw k.cells k.enough) t' q' s' w g in
    let b = (runs_settled g).bounded in
    let past : drop (scratch_words c) s' ≡ drop (scratch_words c) s = rw k.cells at b.past_scratch in (
      z.replied,
      z.new,
      record {
        at = record { cells = b.same_capacity ∙ k.cells; rests = z.rests; enough = rw b.scratch_length k.enough; past = past ∙ k.past };
        clear = z.scratch ∙ ap (λ (m : ℕ). cleared (scratch_words m) s) k.cells ∙ cleared_same (scratch_words c) s₀ s k.past;
      },
    )

-- where one of ys is a cell, so few cells are in use that none can have too many pointers
abbrev pub FewFor : ℕ → List ℕ → List ℕ → Type 0
FewFor c t ys = (i : ℕ) → i < c → 0 < occurrences (suc i) ys → 2 * cells_in_use t + 2 ≤ ceiling

-- The rules call by call. The words that the call names come first among those held.
module _ {c : ℕ} {s₀ : List ℕ} {t : List ℕ} {q : Queue} {s : List ℕ} {t' : List ℕ} {q' : Queue} {s' : List ℕ} {w : ℕ} {hs : List ℕ} {f : ℕ → Fields}
    (few : length hs + 2 ≤ ceiling) (x : ℕ) where
  -- a cell read: its hold goes over to the word
  pub car_settled : is_cell c x ≡ true → At c s₀ (x ∷ hs) f t q s → Settling t q s (car x) t' q' s' w → (w ≡ (f x).left) × After c s₀ (w ∷ hs) f t' q' s'
  unfolding reads_nil puts ask_free occurrences first_no
  car_settled d k g =
      let here : is_cell (capacity t) x ≡ true = rw k.cells d in
      let e = cell_not_nil (capacity t) x here in
      let z = settled k (record { queues = e; early = (read_early t x here).0; free = refl; few = λ v. omega arith; pointed = λ i l o. absurd (omega arith) }) g in
      (rw e at z.0, z.2)

  pub cdr_settled : is_cell c x ≡ true → At c s₀ (x ∷ hs) f t q s → Settling t q s (cdr x) t' q' s' w → (w ≡ (f x).right) × After c s₀ (w ∷ hs) f t' q' s'
  unfolding reads_nil puts ask_free occurrences first_no
  cdr_settled d k g =
      let here : is_cell (capacity t) x ≡ true = rw k.cells d in
      let e = cell_not_nil (capacity t) x here in
      let z = settled k (record { queues = e; early = (read_early t x here).1; free = refl; few = λ v. omega arith; pointed = λ i l o. absurd (omega arith) }) g in
      (rw e at z.0, z.2)

  -- one hold more, one less
  pub up_settled : is_cell c x ≡ true → At c s₀ (x ∷ hs) f t q s → Settling t q s (up x 1) t' q' s' w → After c s₀ (x ∷ x ∷ hs) f t' q' s'
  unfolding reads_nil puts ask_free occurrences first_no
  up_settled d k g =
      let here : is_cell (capacity t) x ≡ true = rw k.cells d in
      (settled k (record { queues = refl; early = (one_early t x here).0; free = refl; few = λ v. omega arith; pointed = λ i l o. absurd (omega arith) }) g).2

  pub down_settled : is_cell c x ≡ true → At c s₀ (x ∷ hs) f t q s → Settling t q s (down x 1) t' q' s' w → After c s₀ hs f t' q' s'
  unfolding reads_nil puts ask_free occurrences first_no
  down_settled d k g =
      let here : is_cell (capacity t) x ≡ true = rw k.cells d in
      (settled k (record { queues = refl; early = (one_early t x here).1; free = refl; few = λ v. omega arith; pointed = λ i l o. absurd (omega arith) }) g).2

  module _ (y : ℕ) (b : Storable c y) where
    -- y put into the right field of the cell x
    pub set_right_settled : is_cell c x ≡ true → FewFor c t (y ∷ []) → At c s₀ (x ∷ y ∷ hs) f t q s → Settling t q s (set_right x y) t' q' s' w
        → After c s₀ (x ∷ hs) (λ i. cond (eqb x i) (fields (f i).left y) (f i)) t' q' s'
    unfolding reads_nil puts ask_free first_no
    set_right_settled d used k g =
        let here : is_cell (capacity t) x ≡ true = rw k.cells d in
        (settled k (record {
          queues = refl;
          early = replace_early t x y here (rw k.cells b);
          free = refl;
          few = λ v. omega arith;
          pointed = λ i l o. omega (arith, used i (rw k.cells at l) o, pointers_few t (suc i), occurrences_most (suc i) (y ∷ []));
        }) g).2

    -- a new cell of x and y, where one is free
    pub cons_settled : Storable c x → cells_in_use t < c → FewFor c t (x ∷ y ∷ []) → At c s₀ (x ∷ y ∷ hs) f t q s → Settling t q s (cons x y) t' q' s' w
        → ((i : ℕ) × (w ≡ suc i) × (i < c) × (in_use t i ≡ false)) × After c s₀ (w ∷ hs) (λ i. cond (eqb w i) (fields x y) (f i)) t' q' s'
    unfolding reads_nil puts ask_free first_no
    cons_settled a free used k g =
        let z = settled k (record {
          queues = refl;
          early = cons_early t x y (rw k.cells a) (rw k.cells b);
          free = rw (some_free t (rw k.cells free)) refl;
          few = λ v. omega arith;
          pointed = λ i l o. omega (arith, used i (rw k.cells at l) o, pointers_few t (suc i), occurrences_most (suc i) (x ∷ y ∷ []));
        }) g in
        (rw k.cells at z.1, z.2)

    -- and nil where none is, with nothing changed
    pub cons_full : Storable c x → cells_in_use t ≡ c → At c s₀ (x ∷ y ∷ hs) f t q s → Settling t q s (cons x y) t' q' s' w
        → (w ≡ 0) × (store t' q' s' ≡ store t q s)
    cons_full a full k g =
        fills t q s hs f x y k.rests (cons_early t x y (rw k.cells a) (rw k.cells b)) (full ∙ sym k.cells) t' q' s' w g

-- An audit changes the scratch alone.
pub audit_after : {c : ℕ} {s₀ hs : List ℕ} {f : ℕ → Fields} {t : List ℕ} {q : Queue} {s : List ℕ} {r : Reply} {s' : List ℕ}
    → At c s₀ hs f t q s → Promise (store t q s) audit r (store t q s') → After c s₀ hs f t q s'
audit_after {c} {s₀} {t = t} {q} {s} {r} {s'} k p =
    let b = p.bounded in record {
      at = record { cells = k.cells; rests = k.rests; enough = rw b.scratch_length k.enough; past = (rw k.cells at b.past_scratch) ∙ k.past };
      clear = audit_clears t q s r (store t q s') k.rests.whole.sound (rw k.cells k.enough) p
          ∙ ap (λ (m : ℕ). cleared (scratch_words m) s) k.cells ∙ cleared_same (scratch_words c) s₀ s k.past;
    }
